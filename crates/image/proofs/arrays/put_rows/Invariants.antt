-- Each turn puts one record behind those before it.
-- Assumes nothing.
use lib.ListN.{length}
use Rattle.digits.specs.Rows.{used}
use Rattle.digits.proofs.Loops.{Putting}
use Rattle.image.proofs.arrays.put_rows.Given as goal

abbrev pub invariant-loop-i : goal.invariant-loop-i
invariant-loop-i g l =
    let t = g.T.Cell in
    Putting t.bytes_of (used t.blank l.used l.all) (length l.all) t.SIZE l.initial.out l.at l.out l.next l.i
