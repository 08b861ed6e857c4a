-- What a place of an open set says by itself, and how a live, a cancelled and an unused timer meet it.
-- Assumes nothing.
use mathlib.Core.Path.{◌≡◌, sym, ◌∙◌, ap}
use mathlib.Core.Bool.{true, false}
use Prim.Native.Nat.{ℕ}
use native.Mathlib.Omega.{arith}
use Rattle.word.specs.Rules.{invalid_in}
use Rattle.state.specs.declared.Life.{Life}
use Rattle.state.specs.declared.Life.TheVariants.{Free, Live, Cancelled, Retired}
use Rattle.state.specs.declared.Timer.{Timer}
use Rattle.state.specs.State.{is_waiting}
use Rattle.state.specs.Sound.{Unused}

-- a place of an open set is right by itself
pub record Lives (t : Timer) : Type 0 where
  pub free_unused : t.life ≡ Free → Unused t
  pub retired_unused : t.life ≡ Retired → Unused t
  pub live_unmarked : (w d : ℕ) → t.life ≡ Live w d → invalid_in w ≡ false
  pub cancelled_unmarked : (w : ℕ) → t.life ≡ Cancelled w → invalid_in w ≡ false
  pub cancelled_waits : (w : ℕ) → t.life ≡ Cancelled w → is_waiting t.waiting ≡ true

-- no place is two things at once
live_free : {A : Type 0} {l : Life} {w d : ℕ} → l ≡ Live w d → l ≡ Free → A
live_free e f = let z : ◌≡◌ {A = ℕ} 0 1 = cc in absurd (omega arith)

live_retired : {A : Type 0} {l : Life} {w d : ℕ} → l ≡ Live w d → l ≡ Retired → A
live_retired e f = let z : ◌≡◌ {A = ℕ} 0 1 = cc in absurd (omega arith)

live_cancelled : {A : Type 0} {l : Life} {w d v : ℕ} → l ≡ Live w d → l ≡ Cancelled v → A
live_cancelled e f = let z : ◌≡◌ {A = ℕ} 0 1 = cc in absurd (omega arith)

cancelled_free : {A : Type 0} {l : Life} {w : ℕ} → l ≡ Cancelled w → l ≡ Free → A
cancelled_free e f = let z : ◌≡◌ {A = ℕ} 0 1 = cc in absurd (omega arith)

cancelled_retired : {A : Type 0} {l : Life} {w : ℕ} → l ≡ Cancelled w → l ≡ Retired → A
cancelled_retired e f = let z : ◌≡◌ {A = ℕ} 0 1 = cc in absurd (omega arith)

-- a life has one word
live_word_lem : {l : Life} {w d v c : ℕ} → l ≡ Live w d → l ≡ Live v c → w ≡ v
live_word_lem e f = cc

cancelled_word_lem : {l : Life} {w v : ℕ} → l ≡ Cancelled w → l ≡ Cancelled v → w ≡ v
cancelled_word_lem e f = cc

-- a live timer that is not marked
pub lives_live : (t : Timer) (w d : ℕ) → t.life ≡ Live w d → invalid_in w ≡ false → Lives t
lives_live t w d e u = record {
  free_unused = λ f. live_free e f;
  retired_unused = λ f. live_retired e f;
  live_unmarked = λ v c f. ap invalid_in (sym (live_word_lem e f)) ∙ u;
  cancelled_unmarked = λ v f. live_cancelled e f;
  cancelled_waits = λ v f. live_cancelled e f;
}

-- a cancelled timer that is not marked, and waits
pub lives_cancelled : (t : Timer) (w : ℕ) → t.life ≡ Cancelled w → invalid_in w ≡ false → is_waiting t.waiting ≡ true → Lives t
lives_cancelled t w e u o = record {
  free_unused = λ f. cancelled_free e f;
  retired_unused = λ f. cancelled_retired e f;
  live_unmarked = λ v c f. live_cancelled f e;
  cancelled_unmarked = λ v f. ap invalid_in (sym (cancelled_word_lem e f)) ∙ u;
  cancelled_waits = λ v f. o;
}

-- a free place that is unused
pub lives_free : (t : Timer) → t.life ≡ Free → Unused t → Lives t
lives_free t e u = record {
  free_unused = λ f. u;
  retired_unused = λ f. u;
  live_unmarked = λ v c f. live_free f e;
  cancelled_unmarked = λ v f. cancelled_free f e;
  cancelled_waits = λ v f. cancelled_free f e;
}

-- a retired place that is unused
pub lives_retired : (t : Timer) → t.life ≡ Retired → Unused t → Lives t
lives_retired t e u = record {
  free_unused = λ f. u;
  retired_unused = λ f. u;
  live_unmarked = λ v c f. live_retired f e;
  cancelled_unmarked = λ v f. cancelled_retired f e;
  cancelled_waits = λ v f. cancelled_retired f e;
}
