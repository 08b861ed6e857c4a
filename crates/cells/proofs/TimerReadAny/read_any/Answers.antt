-- Each field from its own bytes, and the two tests of them.
-- Assumes nothing.
use Rattle.std.proofs.Common.{rules}
use Rattle.cells.specs.Cells.{timer_of}
use Rattle.cells.specs.Fine.{timer_clear, timer_in}
use Rattle.cells.proofs.Found.{both_pass, one_fails}
use Rattle.cells.proofs.TimerReadAny.read_any.Goals as goal

pub returns-then-ranges : goal.returns-then-ranges
unfolding timer_of timer_clear timer_in
returns-then-ranges c =
    let l = c.args.bytes.now in
    let i = c.args.at in
    both_pass (timer_clear l i) (timer_in l i) (timer_of l i) c.if-spare.true c.if-ranges.true (search rules) (search rules) (search rules)

pub returns-else-spare : goal.returns-else-spare
unfolding timer_of timer_clear timer_in
returns-else-spare c =
    let l = c.args.bytes.now in
    let i = c.args.at in
    one_fails (timer_clear l i) (timer_in l i) (timer_of l i) c.else-spare.either (search rules) (search rules) (search rules)
