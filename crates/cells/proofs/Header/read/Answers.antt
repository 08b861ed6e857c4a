-- Each field from its own bytes, and the two tests of them.
-- Assumes nothing.
use Rattle.std.proofs.Common.{rules}
use Rattle.cells.specs.Cells.{header_of}
use Rattle.cells.specs.Fine.{header_clear, header_in}
use Rattle.cells.proofs.Found.{both_pass, one_fails}
use Rattle.cells.proofs.Header.read.Goals as goal

pub returns-then-ranges : goal.returns-then-ranges
unfolding header_of header_clear header_in
returns-then-ranges c =
    let l = c.args.bytes.now in
    let i = c.args.at in
    both_pass (header_clear l i) (header_in l i) (header_of l i) c.if-spare.true c.if-ranges.true (search rules) (search rules) (search rules)

pub returns-else-spare : goal.returns-else-spare
unfolding header_of header_clear header_in
returns-else-spare c =
    let l = c.args.bytes.now in
    let i = c.args.at in
    one_fails (header_clear l i) (header_in l i) (header_of l i) c.else-spare.either (search rules) (search rules) (search rules)
