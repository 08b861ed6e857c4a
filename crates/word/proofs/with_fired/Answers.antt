-- An or with 1 sets the lowest bit and keeps the rest.
-- Assumes nothing.
use Rattle.word.proofs.Bits.{low_set}
use Rattle.word.proofs.with_fired.Goals as goal

pub returns : goal.returns
returns c = low_set c.args.word
