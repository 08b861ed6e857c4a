-- Each field from its own bytes, and the two tests of them.
-- Assumes nothing.
use Rattle.std.proofs.Common.{rules}
use Rattle.cells.specs.Cells.{slot_of}
use Rattle.cells.specs.Fine.{slot_clear, slot_in}
use Rattle.cells.proofs.Found.{both_pass, one_fails}
use Rattle.cells.proofs.SlabSlotReadAny.read_any.Goals as goal

pub returns-then-ranges : goal.returns-then-ranges
unfolding slot_of slot_clear slot_in
returns-then-ranges c =
    let l = c.args.bytes.now in
    let i = c.args.at in
    both_pass (slot_clear l i) (slot_in l i) (slot_of l i) c.if-spare.true c.if-ranges.true (search rules) (search rules) (search rules)

pub returns-else-spare : goal.returns-else-spare
unfolding slot_of slot_clear slot_in
returns-else-spare c =
    let l = c.args.bytes.now in
    let i = c.args.at in
    one_fails (slot_clear l i) (slot_in l i) (slot_of l i) c.else-spare.either (search rules) (search rules) (search rules)
