-- Where the word names a handle, its place and its use number have at most 10 digits each; where it names nobody there are two bytes.
-- Assumes nothing.
use Rattle.std.proofs.Common.{◌≡◌, refl, sym, arith}
use mathlib.Core.Option.{some}
use Rattle.state.specs.Handles.{named_by}
use Rattle.records.proofs.Handles.{handle_digits, handle_short}
use Rattle.records.proofs.Putting.{puts_then, puts_as}
use Rattle.records.proofs.text.Pen.handle.Goals as goal

pub byte-requires : goal.byte-requires
byte-requires c =
    let e : named_by c.args.word ≡ some c.in-Some.field-0 = sym (rw c.in-Some.is at c.handle_of.ensures) in
    omega (arith, (handle_digits c.args.word c.in-Some.field-0 e c.ranges.word.fits).0)

pub digits-requires : goal.digits-requires
digits-requires c =
    let e : named_by c.args.word ≡ some c.in-Some.field-0 = sym (rw c.in-Some.is at c.handle_of.ensures) in
    let k = handle_digits c.args.word c.in-Some.field-0 e c.ranges.word.fits in
    omega (arith, k.0, k.1)

pub returns-in-Some : goal.returns-in-Some
returns-in-Some c =
    let h = c.in-Some.field-0 in
    let e : named_by c.args.word ≡ some h = sym (rw c.in-Some.is at c.handle_of.ensures) in
    rw e
    (puts_as refl (handle_short c.args.word h e c.ranges.word.fits) (puts_then c.number.ensures (puts_then c.byte.ensures c.digits.ensures)))
