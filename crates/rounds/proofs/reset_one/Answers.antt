-- The reset is that of the rule, since whom it names and its deadline are.
-- Assumes nothing.
use Rattle.rounds.specs.Rules.{reset_of}
use Rattle.rounds.proofs.reset_one.Goals as goal

pub returns : goal.returns
unfolding reset_of
returns c = rw (c.reset_named.ensures, c.handle_of.ensures, c.mixed.ensures)
