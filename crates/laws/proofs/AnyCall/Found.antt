-- What the calls find before they update: the lowest free place is in range and free, the place of a handle that is not dead is in
-- range and live, and a reset's word is not marked.
-- Assumes nothing.
use mathlib.Core.Path.{◌≡◌, refl, sym, ◌∙◌, ap}
use mathlib.Core.Bool.{Bool, true, false, not, cond, ◌&&◌}
use mathlib.Core.Option.{none, some}
use Prim.Native.Nat.{ℕ, zero, suc, ◌+◌, ◌/◌, ◌%◌, ◌<◌, ◌^◌}
use native.Mathlib.Omega.{arith}
use lib.Dec.{ltb, eqb}
use borrow.Author.Tests.{ltb-true, ne_eqb}
use Rattle.theory.specs.First.{first_bad}
use Rattle.theory.proofs.Tests.{and_left}
use Rattle.heap.specs.Capacity.{cap}
use Rattle.word.specs.Rules as Word
use Rattle.state.specs.declared.Life.{Life}
use Rattle.state.specs.declared.Life.TheVariants.{Free, Live, Cancelled, Retired}
use Rattle.state.specs.declared.Set.{Set}
use Rattle.state.specs.declared.Handle.{Handle}
use Rattle.state.specs.State.{timer_at}
use Rattle.moves.specs.Rules.{is_free, taken, lowest_free}
use Rattle.timers.specs.declared.Timing.{Timing}
use Rattle.timers.specs.Calls.{timing_of, live_at}

-- a reset clears the invalid mark
pub reset_unmarked : (w : ℕ) → Word.invalid_in (Word.reset_of w) ≡ false
reset_unmarked w = ne_eqb (Word.reset_of w / 2 % 2) 1 (λ e. omega arith)

-- its word has 32 bits
pub reset_small : (w : ℕ) → Word.reset_of w < 2 ^ 32
reset_small w = omega arith

-- what a scan finds is among the numbers scanned, and fails
first_found : (ok : ℕ → Bool) (n k p : ℕ) → first_bad ok n k ≡ some p → (p < k + n) × (ok p ≡ false)
unfolding first_bad
first_found ok zero k p e = let z : ◌≡◌ {A = ℕ} 0 1 = cc in absurd (omega arith)
first_found ok (suc n) k p e = go (ok k) refl e (first_found ok n (k + 1) p)
  where
    go : (b : Bool) → ok k ≡ b → cond b (first_bad ok n (k + 1)) (some k) ≡ some p
        → (first_bad ok n (k + 1) ≡ some p → (p < k + 1 + n) × (ok p ≡ false)) → (p < k + suc n) × (ok p ≡ false)
    go true q f r = let t = r f in (omega (arith, t.0), t.1)
    go false q f r = let d : k ≡ p = cc in (omega arith, ap ok (sym d) ∙ q)

-- the lowest free place is in range
pub lowest_in : (s : Set) (p : ℕ) → lowest_free s ≡ some p → p < cap
unfolding lowest_free
lowest_in s p e = omega (arith, (first_found (taken s) cap 0 p e).0)

free_life : (l : Life) → not (is_free l) ≡ false → l ≡ Free
free_life Free e = refl
free_life (Live w d) e = cc
free_life (Cancelled w) e = cc
free_life Retired e = cc

-- it is free
pub lowest_free_lem : (s : Set) (p : ℕ) → lowest_free s ≡ some p → (timer_at s p).life ≡ Free
unfolding lowest_free taken
lowest_free_lem s p e = free_life (timer_at s p).life (first_found (taken s) cap 0 p e).1

timing_life : (l : Life) (t : Timing) → timing_of l ≡ some t → l ≡ Live t.word t.due
timing_life Free t e = cc
timing_life (Live w d) t e = let q : record { word = w; due = d } ≡ t = cc in ap (λ (x : Timing). Live x.word x.due) q
timing_life (Cancelled w) t e = cc
timing_life Retired t e = cc

-- the place of a handle that is not dead is in range, and live
pub live_in : (s : Set) (h : Handle) (t : Timing) → live_at s h ≡ some t → (h.place.0 < cap) × ((timer_at s h.place.0).life ≡ Live t.word t.due)
unfolding live_at
live_in s h t = go (ltb h.place.0 cap && eqb (timer_at s h.place.0).uses h.uses) refl
  where
    go : (b : Bool) → (ltb h.place.0 cap && eqb (timer_at s h.place.0).uses h.uses) ≡ b
        → cond b (timing_of (timer_at s h.place.0).life) none ≡ some t
        → (h.place.0 < cap) × ((timer_at s h.place.0).life ≡ Live t.word t.due)
    go true e q = (
      ltb-true h.place.0 cap (and_left (ltb h.place.0 cap) (eqb (timer_at s h.place.0).uses h.uses) e),
      timing_life (timer_at s h.place.0).life t q,
    )
    go false e q = let z : ◌≡◌ {A = ℕ} 0 1 = cc in absurd (omega arith)
