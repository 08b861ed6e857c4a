-- `fault::order_fault` is right: at each turn the scan of the positions to go finds what the whole scan finds.
-- Assumes nothing.
use mathlib.Core.Path.{◌≡◌}
use Rattle.refusals.specs.declared.fault.Fault.TheVariants.{Order}
use Rattle.heap.specs.Faults.{order_ok, order_fault}
use Rattle.heap.proofs.Testing.FaultLaws.{scan}
use Rattle.heap.proofs.fault.order_fault.Given as goal

abbrev pub invariant-loop-i : goal.invariant-loop-i
invariant-loop-i l = scan Order (order_ok l.h) l.h.len l.i ≡ order_fault l.h
