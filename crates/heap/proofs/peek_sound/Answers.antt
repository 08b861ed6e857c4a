-- By whether the length is 0, the answer is `peek_sound`.
-- Assumes nothing.
use borrow.Author.Rules.{rules}
use Rattle.heap.specs.Calls.{peek_sound}
use Rattle.heap.proofs.peek_sound.Goals as goal

pub returns : goal.returns
unfolding peek_sound
returns c = search rules
