-- The store and the new free head are those of `vacated_of`.
-- Assumes nothing.
use Rattle.heap.specs.Rules.{vacated_of}
use borrow.Author.Rules.{rules}
use Rattle.heap.proofs.vacated.Goals as goal

pub returns : goal.returns
unfolding vacated_of
returns c = search rules
