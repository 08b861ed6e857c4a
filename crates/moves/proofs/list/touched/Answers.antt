-- By whether the timer waits already, its link and the head of the list are those of `touched_of`.
-- Assumes nothing.
use mathlib.Core.Path.{sym, ◌∙◌}
use Rattle.moves.specs.Rules.{touched_of}
use Rattle.moves.proofs.list.touched.Goals as goal

pub returns-then-waits : goal.returns-then-waits
unfolding touched_of
returns-then-waits c = rw (sym c.waits.ensures ∙ c.if-waits.true)

pub returns : goal.returns
unfolding touched_of
returns c =
    rw (sym c.waits.ensures ∙ c.if-waits.false, c.link_to.ensures)
