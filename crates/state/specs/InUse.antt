-- When two sets are the same in all that counts: the only room not in use lies in the heap, past its two counts
-- (proofs/InUse.antt).
-- Assumes nothing.
use Rattle.std.specs.Prelude.{◌≡◌}
use Rattle.heap.specs.InUse as Heap
use Rattle.state.specs.declared.Set.{Set}

-- equality in all that counts: heaps that are the same in use, and the rest equal
pub record SameInUse (a b : Set) : Type 0 where
  pub heaps : Heap.SameInUse a.heap b.heap
  pub same_timers : a.timers ≡ b.timers
  pub same_first : a.first ≡ b.first
  pub same_closed : a.closed ≡ b.closed

-- two sets of the code that differ only in room not in use
pub record Twins (a b : Set) : Type 0 where
  pub same : SameInUse a b
  pub left : Heap.Long a.heap
  pub right : Heap.Long b.heap
