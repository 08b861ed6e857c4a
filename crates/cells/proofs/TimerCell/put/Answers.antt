-- One field behind the other.
-- Assumes nothing.
use mathlib.Core.Path.{◌≡◌, ◌∙◌}
use Prim.Native.Nat.{◌+◌, ◌*◌}
use Rattle.std.proofs.Common.{rules}
use Rattle.digits.proofs.Stores.{puts_then, puts_number}
use Rattle.cells.specs.Parts.{number_parts, held_parts}
use Rattle.cells.specs.Cells.{timer_bytes}
use Rattle.cells.proofs.TimerCell.put.Goals as goal

pub returns : goal.returns
unfolding timer_bytes
returns c =
    let l = c.life_parts-life.ensures in
    let w = c.waiting_parts-waiting.ensures in
    let n : number_parts c.map.result ≡ held_parts c.args.self.held = search rules in
    let h = c.number_parts-held.ensures ∙ n in
    puts_then (puts_number 1 (λ k. (l k).tag * 64 + (w k).tag * 4 + (h k).tag * 2) c.put-at.ensures)
    (puts_then (puts_number 1 (c.from.ensures ∙ (λ k. (w k).number)) c.put-at-2.ensures)
    (puts_then (puts_number 1 (c.from-2.ensures ∙ (λ k. (h k).number)) c.put-at-3.ensures)
    (puts_then (puts_number 4 c.from-3.ensures c.put-at-4.ensures)
    (puts_then (puts_number 4 (c.from-4.ensures ∙ (λ k. (l k).word)) c.put-at-5.ensures)
    (puts_number 8 (λ k. (l k).due) c.put.ensures)))))
