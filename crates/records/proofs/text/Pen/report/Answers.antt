-- The count, the handles, a `w` and the wake, one behind the other.
-- Assumes nothing.
use Rattle.std.proofs.Common.{refl, arith}
use Rattle.records.proofs.Putting.{puts_then, puts_same}
use Rattle.records.proofs.text.Pen.report.Goals as goal

pub returns : goal.returns
returns c =
    puts_same (puts_then c.number.ensures (puts_then c.handles.ensures (puts_then c.two.ensures c.wake.ensures))) refl (omega arith)
