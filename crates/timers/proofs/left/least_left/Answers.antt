-- The least time left is the difference from the earliest deadline, once the tests let the query through.
-- Assumes nothing.
use native.Mathlib.Omega.{arith}
use Rattle.refusals.proofs.Refusing.{not_both}
use Rattle.timers.specs.Calls.{open_of}
use Rattle.timers.specs.Left.{least_left_of}
use Rattle.timers.proofs.Shortest.{least_by_due, least_refused}
use Rattle.timers.proofs.left.least_left.Goals as goal

pub returns-in_err-opened : goal.returns-in_err-opened
unfolding open_of least_left_of
returns-in_err-opened c = grind (arith, not_both)

pub returns : goal.returns
unfolding open_of least_left_of
returns c = grind (arith, not_both, least_by_due, least_refused)
