-- At each turn the positions to go make of the heap what all of them make of the fresh one.
-- Assumes nothing.
use Rattle.std.proofs.Common.{◌≡◌, ◌-◌}
use Rattle.heap.specs.Capacity.{cap}
use Rattle.heap.specs.Calls.{fresh_of}
use Rattle.handmade.specs.Heaps.{fill_from}
use Rattle.handmade.proofs.heaps.full_heap.Given as goal

abbrev pub invariant-loop-i : goal.invariant-loop-i
invariant-loop-i l = fill_from (cap - l.i) l.i l.h ≡ fill_from cap 0 fresh_of
