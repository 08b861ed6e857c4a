-- At each turn the slots to go make of the heap what all of them make of the first one.
-- Assumes nothing.
use Rattle.std.proofs.Common.{◌≡◌, ◌+◌, ◌-◌}
use Rattle.heap.specs.Capacity.{cap}
use Rattle.heap.specs.Calls.{fresh_of}
use Rattle.handmade.specs.Heaps.{empty_of, with_slot, link_from}
use Rattle.handmade.proofs.heaps.one_slot_more.Given as goal

abbrev pub invariant-loop-i : goal.invariant-loop-i
invariant-loop-i l =
    link_from (cap - 1 - l.i) l.i l.h ≡ link_from (cap - 1) 0 (with_slot fresh_of 0 (empty_of (cap + 1)))
