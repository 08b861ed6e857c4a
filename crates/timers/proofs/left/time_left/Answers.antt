-- The time left is what the door says: its refusal, or the difference from the deadline of the live timer.
-- Assumes nothing.
use native.Mathlib.Omega.{arith}
use Rattle.refusals.proofs.Refusing.{not_both}
use Rattle.timers.specs.Left.{time_left_of}
use Rattle.timers.proofs.left.time_left.Goals as goal

pub returns-in_err-t : goal.returns-in_err-t
unfolding time_left_of
returns-in_err-t c = grind (arith, not_both)

pub returns : goal.returns
unfolding time_left_of
returns c = grind arith
