-- The test of soundness, then the handle.
-- Assumes nothing.
use mathlib.Core.Bool.{false}
use mathlib.Core.Path.{sym, ◌∙◌}
use native.Mathlib.Omega.{arith}
use Rattle.refusals.proofs.Refusing.{not_both}
use Rattle.timers.specs.Calls.{guard_of, door_of}
use Rattle.timers.proofs.Guarding.{door_open}
use Rattle.timers.proofs.met.Goals as goal

pub returns-in_err-guarded : goal.returns-in_err-guarded
unfolding guard_of door_of
returns-in_err-guarded c = grind (arith, not_both)

pub returns : goal.returns
unfolding guard_of
returns c = c.named.ensures ∙ sym (door_open false c.args.s c.args.handle c.in_ok-guarded.ensures)
