-- `fault::full_count` is right: after some slots the number is the count of the full ones among them.
-- Assumes nothing.
use mathlib.Core.Path.{◌≡◌}
use Rattle.theory.specs.Counting.{count}
use Rattle.heap.specs.Faults.{full_at}
use Rattle.heap.proofs.fault.full_count.Given as goal

abbrev pub invariant-loop-slot : goal.invariant-loop-slot
invariant-loop-slot l = l.n ≡ count (full_at l.fn.h) l.slot-index
