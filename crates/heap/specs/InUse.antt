-- When two heaps, and what two calls give, are the same in all that counts. What lies past the entries and the slots in use
-- counts for nothing (proofs/UnusedRoom/InUse.antt).
-- Assumes nothing.
use Rattle.std.specs.Prelude.{◌≡◌, ℕ, ◌<◌, length}
use Rattle.refusals.specs.Answer.{Outcome}
use Rattle.heap.specs.Capacity.{cap}
use Rattle.heap.specs.declared.Heap.{Heap}
use Rattle.heap.specs.Rules.{entry_at, state_at}

-- equality in all that counts: the counts, the free head, the entries below `len` and the slots below `made`
pub record SameInUse (g h : Heap) : Type 0 where
  pub same_len : g.len ≡ h.len
  pub same_made : g.made ≡ h.made
  pub same_free : g.free ≡ h.free
  pub entries : (i : ℕ) → i < h.len → entry_at g i ≡ entry_at h i
  pub slots : (s : ℕ) → s < h.made → state_at g s ≡ state_at h s

-- the arrays have the capacity, as the code's types say
pub record Long (h : Heap) : Type 0 where
  pub entries_long : length h.entries ≡ cap
  pub slots_long : length h.slots ≡ cap

-- two heaps of the code that differ only in room not in use
pub record Twins (g h : Heap) : Type 0 where
  pub same : SameInUse g h
  pub left : Long g
  pub right : Long h

-- the same answer, and heaps that differ only in room not in use
pub record SameOutcome {A : Type 0} (o q : Outcome Heap A) : Type 0 where
  pub answers : o.answer ≡ q.answer
  pub states : Twins o.state q.state
