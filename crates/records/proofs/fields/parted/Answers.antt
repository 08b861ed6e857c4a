-- Each field is made of its own bytes, and the bytes of a record are below 256.
-- Assumes nothing.
use borrow.Author.Rules.{rules}
use lib.ListN.{get_or}
use mir.Syntax.{w8}
use mir.Val.{Fits}
use Rattle.records.proofs.Bits.{read_off}
use Rattle.records.proofs.fields.parted.Goals as goal

pub returns : goal.returns
returns c =
    let l = c.args.bytes in
    let a : Fits w8 (get_or l 0 0) = search rules in
    let b : Fits w8 (get_or l 1 0) = search rules in
    let t = rw c.unwrap.ensures at c.try_into.ensures.1 in
    read_off l c.unwrap.result c.from_be_bytes.result c.from_be_bytes-2.result c.from_be_bytes-3.result
    a.fits b.fits c.from_be_bytes-2.type_inv c.from_be_bytes-3.type_inv
    t.same c.from_be_bytes.ensures c.from_be_bytes-2.ensures c.from_be_bytes-3.ensures
