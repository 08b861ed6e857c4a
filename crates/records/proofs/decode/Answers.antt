-- The call of the record's fields.
-- Assumes nothing.
use mathlib.Core.Path.{ap, ◌∙◌}
use Rattle.records.specs.Records.{call_of, decode_of}
use Rattle.records.proofs.decode.Goals as goal

pub returns : goal.returns
unfolding decode_of
returns c = c.call_of.ensures ∙ ap call_of c.parted.ensures
