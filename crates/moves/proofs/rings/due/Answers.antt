-- An empty heap has no head, so nothing is due; of another the head is compared.
-- Assumes nothing.
use borrow.Author.Tests.{tests}
use borrow.Author.Rules.{rules}
use Rattle.moves.specs.Rules.{due_by}
use Rattle.moves.proofs.rings.due.Goals as goal

pub returns-then-h-ne0 : goal.returns-then-h-ne0
unfolding due_by
returns-then-h-ne0 c = search (tests, rules)

pub returns-else-h-ne0 : goal.returns-else-h-ne0
unfolding due_by
returns-else-h-ne0 c = search (tests, rules)
