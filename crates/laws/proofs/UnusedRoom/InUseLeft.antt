-- The two queries answer the same of two sets that differ only in room not in use.
-- Assumes nothing.
use mathlib.Core.Path.{◌≡◌, ap}
use mathlib.Core.Bool.{cond}
use mathlib.Core.Option.{Option}
use Prim.Native.Nat.{ℕ}
use lib.Signed.{lt_z}
use Rattle.theory.specs.Least.{through, least_below}
use Rattle.refusals.specs.declared.fault.Fault.{Fault}
use Rattle.refusals.specs.declared.Refusal.TheVariants.{Unsound, Closed}
use Rattle.refusals.specs.Answer.{refuse}
use Rattle.heap.specs.Capacity.{cap}
use Rattle.state.specs.declared.Set.{Set}
use Rattle.state.specs.declared.Handle.{Handle}
use Rattle.state.specs.Faults.{fault_of}
use Rattle.state.specs.InUse.{Twins}
use Rattle.state.proofs.InUse.{by_heap, fault_in_use}
use Rattle.timers.specs.Calls.{judged, live_at, living, door_of}
use Rattle.timers.specs.Left.{left_at, time_left_by, time_left_of, pending_at, least_by, least_left_of}

pub left_in_use : (a b : Set) → Twins a b → (h : Handle) (N : ℕ) → time_left_of a h N ≡ time_left_of b h N
unfolding time_left_of door_of live_at
left_in_use a b r h N =
    by_heap (λ (c d : Set). fault_of c ≡ fault_of d → time_left_of c h N ≡ time_left_of d h N)
    (λ s g _ e. ap (λ (x : Option Fault). time_left_by N (judged x (cond s.closed (refuse Closed) (living (live_at s h))) (λ y. refuse (Unsound y)))) e)
    r (fault_in_use r)

pub least_in_use : (a b : Set) → Twins a b → (N : ℕ) → least_left_of a N ≡ least_left_of b N
unfolding least_left_of
least_in_use a b r N =
    by_heap (λ (c d : Set). fault_of c ≡ fault_of d → least_left_of c N ≡ least_left_of d N)
    (λ s g _ e. ap (λ (x : Option Fault). judged x (cond s.closed (refuse Closed) (least_by (least_below lt_z (λ p. through (left_at N) (pending_at s p)) cap))) (λ y. refuse (Unsound y))) e)
    r (fault_in_use r)
