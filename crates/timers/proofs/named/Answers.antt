-- A handle names its place's timer where the place is in range, the use number is the place's, and the timer is live.
-- Assumes nothing.
use native.Mathlib.Omega.{arith}
use borrow.Author.Tests.{tests}
use Rattle.std.proofs.lemmas.Grind.{common_steps}
use Rattle.timers.specs.Calls.{live_at}
use Rattle.timers.proofs.named.Goals as goal

pub returns-in_err-t : goal.returns-in_err-t
unfolding live_at
returns-in_err-t c = grind (arith, tests, common_steps)

pub returns-in-Live : goal.returns-in-Live
unfolding live_at
returns-in-Live c = grind (arith, tests, common_steps)

pub returns-in_default : goal.returns-in_default
unfolding live_at
returns-in_default c = grind (arith, tests, common_steps)

pub returns-in_default-2 : goal.returns-in_default-2
unfolding live_at
returns-in_default-2 c = grind (arith, tests, common_steps)
