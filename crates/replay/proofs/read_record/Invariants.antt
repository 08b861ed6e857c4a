-- Each turn reads into what is left of the fourteen bytes, so those that came stay within them, and those that lack grow fewer.
use Rattle.std.proofs.Common.{◌-◌, ◌≤◌}
use Rattle.replay.proofs.read_record.Given as goal

abbrev pub invariant-loop-came : goal.invariant-loop-came
invariant-loop-came g l = l.came ≤ 14

abbrev pub decreases-loop-came : goal.decreases-loop-came
decreases-loop-came g l = 14 - l.came
