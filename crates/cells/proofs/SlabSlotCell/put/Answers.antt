-- One number.
-- Assumes nothing.
use Rattle.digits.proofs.Stores.{puts_number}
use Rattle.cells.specs.Cells.{slot_bytes}
use Rattle.cells.proofs.SlabSlotCell.put.Goals as goal

pub returns : goal.returns
unfolding slot_bytes
returns c = puts_number 2 c.slot_number.ensures c.put.ensures
