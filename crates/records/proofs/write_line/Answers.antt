-- The line stands at the start of the bytes, which are as many as the longest line has, and behind it is what was there.
-- Assumes nothing.
use mathlib.Core.Path.{refl, sym}
use Prim.Native.Nat.{◌≤◌}
use native.Mathlib.Omega.{arith}
use borrow.Author.Rules.{rules}
use lib.ListN.{length}
use lib.Seq.{length-take-le}
use Rattle.records.specs.Lines.{room}
use Rattle.records.proofs.Putting.{puts_whole, puts_within}
use Rattle.records.proofs.write_line.Goals as goal

pub returns : goal.returns
returns c =
    let p = c.line.ensures in
    let h : room ≤ length c.args.out.now = search rules in
    let w = puts_within p (omega arith) in
    record { written = puts_whole p refl h; within = w; counted = sym (length-take-le _ _ w) }
