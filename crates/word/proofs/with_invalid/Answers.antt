-- An or with 2 sets the bit above the lowest and keeps the rest.
-- Assumes nothing.
use Rattle.word.proofs.Bits.{second_set}
use Rattle.word.proofs.with_invalid.Goals as goal

pub returns : goal.returns
returns c = second_set c.args.word
