-- Each turn reads into what is left of the piece, so the bytes that came stay within it, and those that lack grow fewer.
use Rattle.std.proofs.Common.{length, ◌-◌, ◌≤◌}
use Rattle.probe.proofs.read_full.Given as goal

abbrev pub invariant-loop-came : goal.invariant-loop-came
invariant-loop-came g l = l.came ≤ length l.piece

abbrev pub decreases-loop-came : goal.decreases-loop-came
decreases-loop-came g l = length l.initial.piece - l.came
