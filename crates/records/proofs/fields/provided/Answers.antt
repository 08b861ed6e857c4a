-- The flag says which.
-- Assumes nothing.
use Rattle.records.specs.Records.{provided}
use Rattle.records.proofs.fields.provided.Goals as goal

pub returns-then-unused_zero : goal.returns-then-unused_zero
unfolding provided
returns-then-unused_zero c = rw c.if-unused_zero.true

pub returns-else-unused_zero : goal.returns-else-unused_zero
unfolding provided
returns-else-unused_zero c = rw c.if-unused_zero.false
