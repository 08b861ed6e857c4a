-- `fault::position_fault` is right: at each turn the scan of the positions to go finds what the whole scan finds.
-- Assumes nothing.
use mathlib.Core.Path.{◌≡◌}
use Rattle.refusals.specs.declared.fault.Fault.TheVariants.{Position}
use Rattle.heap.specs.Faults.{position_ok, position_fault}
use Rattle.heap.proofs.Testing.FaultLaws.{scan}
use Rattle.heap.proofs.fault.position_fault.Given as goal

abbrev pub invariant-loop-i : goal.invariant-loop-i
invariant-loop-i l = scan Position (position_ok l.fn.h) l.fn.h.len l.i ≡ position_fault l.fn.h
