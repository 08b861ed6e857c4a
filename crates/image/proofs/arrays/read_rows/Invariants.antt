-- Each turn looks at one record more.
-- Assumes nothing.
use Prim.Native.Nat.{◌+◌, ◌*◌}
use lib.Dec.{ltb}
use Rattle.digits.proofs.Loops.{Taking}
use Rattle.image.specs.Image.{clear_if, in_if, read_or}
use Rattle.image.proofs.arrays.read_rows.Given as goal

abbrev pub invariant-loop-i : goal.invariant-loop-i
invariant-loop-i g l =
    let t = g.T.Cell in
    Taking (λ j. clear_if t.clear t.SIZE (ltb j l.used) l.bytes (l.at + j * t.SIZE)) (λ j. in_if t.within (ltb j l.used) l.bytes (l.at + j * t.SIZE))
    (λ j. read_or t.read_as t.blank (ltb j l.used) l.bytes (l.at + j * t.SIZE)) l.all l.i
