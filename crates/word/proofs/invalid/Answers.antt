-- The mask leaves the bit above the lowest.
-- Assumes nothing.
use Rattle.word.proofs.Bits.{second_test}
use Rattle.word.proofs.invalid.Goals as goal

pub returns : goal.returns
returns c = second_test c.args.word
