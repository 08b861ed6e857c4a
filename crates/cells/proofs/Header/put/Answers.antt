-- One field behind the other.
-- Assumes nothing.
use mathlib.Core.Path.{◌≡◌, ◌∙◌}
use Prim.Native.Nat.{◌+◌, ◌*◌}
use Rattle.std.proofs.Common.{rules}
use Rattle.digits.proofs.Stores.{puts_then, puts_number}
use Rattle.cells.specs.Parts.{number_parts, first_parts}
use Rattle.cells.specs.Cells.{header_bytes}
use Rattle.cells.proofs.Tags.{mark_bit}
use Rattle.cells.proofs.Header.put.Goals as goal

pub returns : goal.returns
unfolding header_bytes
returns c =
    let h = c.args.self in
    let n : number_parts c.map.result ≡ first_parts h.first = search rules in
    let e = c.number_parts-head.ensures ∙ n in
    let b = c.from.ensures ∙ mark_bit h.closed in
    puts_then c.put-at.ensures
    (puts_then (puts_number 1 (λ k. b k * 2 + (e k).tag) c.put-at-2.ensures)
    (puts_then (puts_number 1 (c.from-2.ensures ∙ (λ k. (e k).number)) c.put-at-3.ensures)
    (puts_then c.put-at-4.ensures (puts_then c.put-at-5.ensures (puts_number 2 c.from-3.ensures c.put.ensures)))))
