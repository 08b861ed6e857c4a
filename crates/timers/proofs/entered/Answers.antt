-- The tests of the set, then the handle, in the order of the refusals.
-- Assumes nothing.
use mathlib.Core.Path.{sym, ◌∙◌}
use native.Mathlib.Omega.{arith}
use Rattle.refusals.proofs.Refusing.{not_both}
use Rattle.timers.specs.Calls.{open_of, door_of}
use Rattle.timers.proofs.Guarding.{door_open}
use Rattle.timers.proofs.entered.Goals as goal

pub returns-in_err-opened : goal.returns-in_err-opened
unfolding open_of door_of
returns-in_err-opened c = grind (arith, not_both)

pub returns : goal.returns
unfolding open_of
returns c = c.named.ensures ∙ sym (door_open c.args.s.closed c.args.s c.args.handle c.in_ok-opened.ensures)
