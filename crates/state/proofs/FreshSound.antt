-- The fresh set is sound.
-- Assumes nothing.
use mathlib.Core.Path.{◌≡◌, ap}
use mathlib.Core.Bool.{false, false≢true}
use Prim.Native.Nat.{ℕ, ◌<◌}
use native.Mathlib.Omega.{arith}
use lib.ListN.{length-replicate, get_or-replicate}
use borrow.Author.Tests.{lt-ltb}
use Rattle.theory.proofs.Counting.{count_none}
use Rattle.theory.proofs.ChainTest.{none_ok}
use Rattle.heap.specs.Capacity.{cap}
use Rattle.heap.proofs.Soundness.FreshSound as Heap
use Rattle.state.specs.declared.Life.TheVariants.{Live, Cancelled}
use Rattle.state.specs.declared.Timer.{Timer}
use Rattle.state.specs.State.{no_timer, timer_at, is_waiting, fresh_of}
use Rattle.state.specs.Faults.{waits_at, after_at}
use Rattle.state.specs.Sound.{Unused, Sound}
use Rattle.state.proofs.PlaceTest.{held_some}

-- every place of the fresh set is one that nobody has used
pub fresh_at : (p : ℕ) → p < cap → timer_at fresh_of p ≡ no_timer
fresh_at p l = get_or-replicate cap p no_timer no_timer l

-- so none waits
fresh_still : (p : ℕ) → p < cap → waits_at fresh_of p ≡ false
unfolding waits_at
fresh_still p l = rw (lt-ltb p cap l) (ap (λ (t : Timer). is_waiting t.waiting) (fresh_at p l))

-- and none names a slot
fresh_unused : (p : ℕ) → p < cap → Unused (timer_at fresh_of p)
fresh_unused p l = record { still = ap (λ (t : Timer). t.waiting) (fresh_at p l); bare = ap (λ (t : Timer). t.held) (fresh_at p l) }

-- and none is live or cancelled
not_live : (p w d : ℕ) → p < cap → (timer_at fresh_of p).life ≡ Live w d → ⊥
not_live p w d l e = cc (ap (λ (t : Timer). t.life) (fresh_at p l))

not_cancelled : (p w : ℕ) → p < cap → (timer_at fresh_of p).life ≡ Cancelled w → ⊥
not_cancelled p w l e = cc (ap (λ (t : Timer). t.life) (fresh_at p l))

-- the fresh set is sound
pub fresh_sound : Sound fresh_of
fresh_sound = record {
  timers_long = simp length-replicate;
  heap_sound = Heap.fresh_sound;
  listed = (none_ok (waits_at fresh_of) (after_at fresh_of) cap (count_none (waits_at fresh_of) cap fresh_still)).0;
  slot_own = λ p q l e. absurd (held_some e (fresh_unused p l).bare);
  entry_place = λ i l. absurd (omega arith);
  entry_own = λ i l. absurd (omega arith);
  generations = λ i l. absurd (omega arith);
  free_unused = λ p l e. fresh_unused p l;
  retired_unused = λ p l e. fresh_unused p l;
  live_unmarked = λ p w d l o e. absurd (not_live p w d l e);
  cancelled_unmarked = λ p w l o e. absurd (not_cancelled p w l e);
  list_empty = λ e. absurd (false≢true e);
  heap_empty = λ e. absurd (false≢true e);
  cancelled_waits = λ p w l o e. absurd (not_cancelled p w l e);
}
