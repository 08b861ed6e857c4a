-- `fault::entry_scan` is right: after some entries the lowest place is that of the entries at fault among them.
-- Assumes nothing.
use mathlib.Core.Path.{◌≡◌}
use Rattle.state.specs.Faults.{entry_scan, scanned}
use Rattle.state.proofs.fault.entry_scan.Given as goal

abbrev pub invariant-loop-e : goal.invariant-loop-e
invariant-loop-e l = scanned l.low ≡ entry_scan l.fn.s l.e-index
