-- Each turn puts one record behind those before it.
-- Assumes nothing.
use mathlib.Core.Path.{◌≡◌, ◌∙◌, sym}
use native.Mathlib.Omega.{arith}
use lib.ListN.{length}
use Rattle.digits.specs.Rows.{used}
use Rattle.digits.proofs.Loops.{putting_none, putting_more, putting_all}
use Rattle.digits.proofs.Rows.{get_d_any, used_in, used_not}
use Rattle.image.proofs.Rows.{room_more}
use Rattle.image.proofs.arrays.put_rows.Goals.{then-i-used, else-i-used}
use Rattle.image.proofs.arrays.put_rows.Goals as goal

pub loop-i-init : goal.loop-i-init
loop-i-init g c =
    let t = g.T.Cell in
    let a = c.args in
    putting_none t.bytes_of (used t.blank a.used a.all.now) (length a.all.now) t.SIZE a.out.now a.at

pub put-next-requires : goal.put-next-requires
put-next-requires g c =
    let l = c.loop-i in
    omega (arith, l.invariant.so_far.next, room_more l.i (length c.args.all.now) g.T.Cell.SIZE c.loop-i-test.true)

pub loop-i-preserved : goal.loop-i-preserved
loop-i-preserved g c =
    let t = g.T.Cell in
    let a = c.args in
    let i = c.loop-i.i in
    let e : c.if-i-used.row ≡ used t.blank a.used a.all.now i = elim c.if-i-used.branch [
      | then-i-used w ↦
          w.row-is ∙ c.index-all-i.is ∙ get_d_any a.all.now i c.index-all-i.result t.blank c.loop-i-test.true
          ∙ sym (used_in t.blank a.used a.all.now i w.if-i-used.true)
      | else-i-used w ↦ w.row-is ∙ w.unused-row.ensures ∙ sym (used_not t.blank a.used a.all.now i w.if-i-used.false)
    ] in
    putting_more t.bytes_of (used t.blank a.used a.all.now) (length a.all.now) t.SIZE c.if-i-used.row c.loop-i.invariant c.loop-i-test.true e
    c.put-next.ensures c.put-next.auto.out

pub returns : goal.returns
returns g c =
    let t = g.T.Cell in
    let a = c.args in
    putting_all t.bytes_of (used t.blank a.used a.all.now) (length a.all.now) t.SIZE c.loop-i.invariant c.loop-i-test.false
