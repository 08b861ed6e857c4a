-- The parts one behind the other fill the bytes.
-- Assumes nothing.
use mathlib.Core.Path.{◌≡◌, ap}
use mathlib.Core.List.{List}
use borrow.Author.Rules.{rules}
use lib.ListN.{length}
use Rattle.theory.proofs.Stores.{unmapped}
use Rattle.heap.specs.Capacity.{cap}
use Rattle.heap.specs.Rules.{no_entry}
use Rattle.digits.specs.Rows.{used, blocks}
use Rattle.digits.proofs.Stores.{puts_then, puts_whole, puts_as}
use Rattle.state.specs.State.{no_timer}
use Rattle.state.specs.declared.Timer.{Timer}
use Rattle.cells.specs.Cells.{entry_bytes, slot_bytes, zero_slot, timer_bytes}
use Rattle.image.specs.Image.{image_of, entries_bytes, slots_bytes, timers_bytes}
use Rattle.image.proofs.Rows.{puts_rows, timers_used}
use Rattle.image.proofs.put_set.Goals as goal

pub returns : goal.returns
unfolding image_of entries_bytes slots_bytes timers_bytes
returns c =
    let s = c.args.s in
    let h = s.heap in
    let e : length h.entries ≡ cap = search (rules, unmapped) in
    let f : length h.slots ≡ cap = search (rules, unmapped) in
    let g : length s.timers ≡ cap = search (rules, unmapped) in
    puts_whole
    (puts_then c.put-at.ensures
    (puts_then (puts_rows entry_bytes (used no_entry h.len h.entries) 14 e c.put_rows-at.ensures)
    (puts_then (puts_rows slot_bytes (used zero_slot h.made h.slots) 2 f c.put_rows-at-2.ensures)
    (puts_as (ap (λ (ts : List Timer). blocks timer_bytes ts) (timers_used s.timers)) (puts_rows timer_bytes (used no_timer cap s.timers) 19 g c.put_rows.ensures)))))
    c.requires
