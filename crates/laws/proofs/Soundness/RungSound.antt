-- One pop of an advance keeps a sound set sound: the head goes, its timer forgets its slot, and a firing sets a bit that no clause
-- looks at.
-- Assumes nothing.
use mathlib.Core.Path.{◌≡◌, refl, sym, ◌∙◌, ap}
use mathlib.Core.Bool.{Bool, true, false, cond}
use Prim.Native.Nat.{ℕ, ◌+◌, ◌*◌, ◌/◌, ◌%◌, ◌<◌}
use native.Mathlib.Omega.{arith}
use lib.Dec.{ltb, leb, eqb}
use borrow.Author.Tests.{ltb-true}
use Rattle.std.specs.Prelude.{None}
use Rattle.theory.proofs.Tests.{and_left}
use Rattle.heap.specs.Capacity.{cap}
use Rattle.heap.specs.declared.Heap.{Heap}
use Rattle.heap.specs.Rules.{entry_at}
use Rattle.word.specs.Rules.{invalid_in, fired_of, matches_in}
use Rattle.state.specs.declared.Life.{Life}
use Rattle.state.specs.declared.Life.TheVariants.{Free, Live, Cancelled, Retired}
use Rattle.state.specs.declared.Timer.{Timer}
use Rattle.state.specs.declared.Set.{Set}
use Rattle.state.specs.State.{timer_at}
use Rattle.state.specs.Sound.{Sound}
use Rattle.moves.specs.Rules.{Ring, due_by, rung_word, rung_life, rung_timer, rung_of}
use Rattle.laws.proofs.Parts.Ties.{Tied, Fine, sound_tied, sound_owned, sound_fine, tied_sound}
use Rattle.laws.proofs.Soundness.Popping.{headless, headless_all, headless_tied, headless_owned, headless_listed}

-- firing does not touch the invalid bit
fired_invalid : (w : ℕ) → invalid_in (fired_of w) ≡ invalid_in w
fired_invalid w = let e : (w / 2 * 2 + 1) / 2 % 2 ≡ w / 2 % 2 = omega arith in ap (λ (b : ℕ). eqb b 1) e

-- whether the word matches or not
rung_invalid : (w g : ℕ) → invalid_in (rung_word w g) ≡ invalid_in w
rung_invalid w g = go (matches_in w g)
  where
    go : (b : Bool) → invalid_in (cond b (fired_of w) w) ≡ invalid_in w
    go true = fired_invalid w
    go false = refl

-- a timer that rings is as fine as it was
rung_fine : (closed : Bool) (g : ℕ) (t : Timer) → Fine closed t → Fine closed (rung_timer g t)
rung_fine closed g t = go t.life refl
  where
    go : (l : Life) → t.life ≡ l → Fine closed t
        → Fine closed (record { life = rung_life g l; waiting = t.waiting; held = None; uses = t.uses })
    go Free e f = record {
      free_unused = λ _. record { still = (f.free_unused e).still; bare = refl };
      retired_unused = λ x. record { still = cc; bare = refl };
      live_unmarked = λ w d o x. cc;
      cancelled_unmarked = λ w o x. cc;
      cancelled_waits = λ w o x. cc;
    }
    go (Live v u) e f = record {
      free_unused = λ x. record { still = cc; bare = refl };
      retired_unused = λ x. record { still = cc; bare = refl };
      live_unmarked = λ w d o x. let z : rung_word v g ≡ w = cc in ap invalid_in (sym z) ∙ rung_invalid v g ∙ f.live_unmarked v u o e;
      cancelled_unmarked = λ w o x. cc;
      cancelled_waits = λ w o x. cc;
    }
    go (Cancelled v) e f = record {
      free_unused = λ x. record { still = cc; bare = refl };
      retired_unused = λ x. record { still = cc; bare = refl };
      live_unmarked = λ w d o x. cc;
      cancelled_unmarked = λ w o x. let z : rung_word v g ≡ w = cc in ap invalid_in (sym z) ∙ rung_invalid v g ∙ f.cancelled_unmarked v o e;
      cancelled_waits = λ w o x. f.cancelled_waits v o e;
    }
    go Retired e f = record {
      free_unused = λ x. record { still = cc; bare = refl };
      retired_unused = λ _. record { still = (f.retired_unused e).still; bare = refl };
      live_unmarked = λ w d o x. cc;
      cancelled_unmarked = λ w o x. cc;
      cancelled_waits = λ w o x. cc;
    }

-- a head that is due is there
pub due_some : (h : Heap) (N : ℕ) → due_by h N ≡ true → 0 < h.len
unfolding due_by
due_some h N e = ltb-true 0 h.len (and_left (ltb 0 h.len) (leb (entry_at h 0).at N) e)

-- after one pop of an advance the set is sound
pub rung_sound : (r : Ring) → Sound r.set → 0 < r.set.heap.len → Sound (rung_of r).set
unfolding rung_of
rung_sound r ok b =
    tied_sound (headless s t) (headless_tied s ties b t refl) (headless_owned s ties b t (sound_owned s ok))
    (headless_listed s ties b t refl ok.listed)
    (headless_all s ties b t (λ p y. p < cap → Fine s.closed y)
    (λ c. rung_fine s.closed (entry_at s.heap 0).generation (timer_at s (entry_at s.heap 0).place.0) (sound_fine s ok (entry_at s.heap 0).place.0 c))
    (λ p _. sound_fine s ok p))
    ok.list_empty
    (λ e. absurd (omega (arith, ok.heap_empty e)))
  where
    s : Set
    s = r.set

    t : Timer
    t = rung_timer (entry_at s.heap 0).generation (timer_at s (entry_at s.heap 0).place.0)

    ties : Tied s
    ties = sound_tied s ok
