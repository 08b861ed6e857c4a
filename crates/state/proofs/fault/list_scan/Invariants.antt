-- `fault::list_scan` is right: it marks each place that it meets, and as long as every timer there waits and was not marked the list
-- goes wrong at no step behind it. There are as many to meet as wait, which its caller has counted; once all were met, whatever comes
-- is out of range, does not wait or was met before.
-- Assumes nothing.
use Rattle.state.proofs.ListLaws.{OnList}
use Rattle.state.proofs.fault.list_scan.Given as goal

abbrev pub invariant-loop-step : goal.invariant-loop-step
invariant-loop-step l = OnList l.s l.n l.step l.at l.met
