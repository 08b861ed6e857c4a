-- Each field from its own bytes, and the two tests of them.
-- Assumes nothing.
use Rattle.std.proofs.Common.{rules}
use Rattle.cells.specs.Cells.{entry_of}
use Rattle.cells.specs.Fine.{entry_clear, entry_in}
use Rattle.cells.proofs.Found.{both_pass, one_fails}
use Rattle.cells.proofs.EntryReadAny.read_any.Goals as goal

pub returns-then-ranges : goal.returns-then-ranges
unfolding entry_of entry_clear entry_in
returns-then-ranges c =
    let l = c.args.bytes.now in
    let i = c.args.at in
    both_pass (entry_clear l i) (entry_in l i) (entry_of l i) c.if-spare.true c.if-ranges.true (search rules) (search rules) (search rules)

pub returns-else-spare : goal.returns-else-spare
unfolding entry_of entry_clear entry_in
returns-else-spare c =
    let l = c.args.bytes.now in
    let i = c.args.at in
    one_fails (entry_clear l i) (entry_in l i) (entry_of l i) c.else-spare.either (search rules) (search rules) (search rules)
