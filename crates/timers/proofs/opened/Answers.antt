-- The first test, then the closed mark, in the order of the refusals.
-- Assumes nothing.
use native.Mathlib.Omega.{arith}
use Rattle.refusals.proofs.Refusing.{not_both}
use Rattle.timers.specs.Calls.{guard_of, open_of}
use Rattle.timers.proofs.opened.Goals as goal

pub returns-in_err-guarded : goal.returns-in_err-guarded
unfolding guard_of open_of
returns-in_err-guarded c = grind (arith, not_both)

pub returns-then-s : goal.returns-then-s
unfolding guard_of open_of
returns-then-s c = grind arith

pub returns : goal.returns
unfolding guard_of open_of
returns c = grind arith
