-- One field behind the other.
-- Assumes nothing.
use Rattle.digits.proofs.Stores.{puts_then, puts_number}
use Rattle.cells.specs.Cells.{entry_bytes}
use Rattle.cells.proofs.EntryCell.put.Goals as goal

pub returns : goal.returns
unfolding entry_bytes
returns c =
    puts_then c.put-at.ensures
    (puts_then (puts_number 4 c.from.ensures c.put-at-2.ensures)
    (puts_then (puts_number 1 c.from-2.ensures c.put-at-3.ensures) (puts_number 1 c.from-3.ensures c.put.ensures)))
