-- What holds of a set in the middle of a close: it is tied to its heap, its list is in order, and each place is as in a closed set. A
-- sound set begins so, and to mark a timer keeps a place so.
-- Assumes nothing.
use mathlib.Core.Path.{◌≡◌, refl}
use mathlib.Core.Bool.{Bool, true}
use Prim.Native.Nat.{ℕ, ◌<◌}
use Rattle.std.specs.Prelude.{None}
use Rattle.theory.proofs.Tests.{true_false}
use Rattle.heap.specs.Capacity.{cap}
use Rattle.state.specs.declared.Life.{Life}
use Rattle.state.specs.declared.Life.TheVariants.{Free, Live, Cancelled, Retired}
use Rattle.state.specs.declared.Waiting.{Waiting}
use Rattle.state.specs.declared.Waiting.TheVariants.{No}
use Rattle.state.specs.declared.Timer.{Timer}
use Rattle.state.specs.declared.Set.{Set}
use Rattle.state.specs.State.{timer_at}
use Rattle.state.specs.Sound.{Sound}
use Rattle.moves.specs.Rules.{marked_life}
use Rattle.laws.proofs.Parts.Ties.{Tied, Listed, Fine, sound_tied, sound_fine}

-- a set in the middle of a close: tied to its heap, its list in order, each place as in a closed set
pub record Closing (s : Set) : Type 0 where
  pub tied : Tied s
  pub listed : Listed s
  pub fine : (p : ℕ) → p < cap → Fine true (timer_at s p)

-- a place that is fine is as fine as a closed set asks for
closed_fine : {c : Bool} {t : Timer} → Fine c t → Fine true t
closed_fine f = record {
  free_unused = f.free_unused;
  retired_unused = f.retired_unused;
  live_unmarked = λ w d e. true_false refl e;
  cancelled_unmarked = λ w e. true_false refl e;
  cancelled_waits = λ w e. true_false refl e;
}

-- a close begins with a sound set
pub sound_closing : (s : Set) → Sound s → Closing s
sound_closing s ok = record { tied = sound_tied s ok; listed = ok.listed; fine = λ p b. closed_fine (sound_fine s ok p b) }

-- a mark frees no place, and retires none
marked_free : (l : Life) → marked_life l ≡ Free → l ≡ Free
marked_free Free e = refl
marked_free (Live w d) e = cc
marked_free (Cancelled w) e = cc
marked_free Retired e = e

marked_retired : (l : Life) → marked_life l ≡ Retired → l ≡ Retired
marked_retired Free e = e
marked_retired (Live w d) e = cc
marked_retired (Cancelled w) e = cc
marked_retired Retired e = refl

-- a timer that is marked and forgets its slot is as fine as it was, whether it stays in the list or is taken off
pub marked_fine : (t : Timer) (w : Waiting) → (t.waiting ≡ No → w ≡ No) → Fine true t
    → Fine true (record { life = marked_life t.life; waiting = w; held = None; uses = t.uses })
marked_fine t w still f = record {
  free_unused = λ e. record { still = still (f.free_unused (marked_free t.life e)).still; bare = refl };
  retired_unused = λ e. record { still = still (f.retired_unused (marked_retired t.life e)).still; bare = refl };
  live_unmarked = λ v d e. true_false refl e;
  cancelled_unmarked = λ v e. true_false refl e;
  cancelled_waits = λ v e. true_false refl e;
}
