-- Each turn puts the handle of the next word behind those before it.
-- Assumes nothing.
use Rattle.std.proofs.Common.{arith}
use Rattle.records.proofs.Handles.{handles_more}
use Rattle.records.proofs.Putting.{puts_then, puts_same}
use Rattle.records.proofs.text.Pen.handles.Goals as goal

pub loop-word-preserved : goal.loop-word-preserved
loop-word-preserved c =
    let l = c.loop-word in
    puts_same (puts_then l.invariant c.handle.ensures) (handles_more c.args.words.now l.word-index c.loop-word-test.true) (omega arith)
