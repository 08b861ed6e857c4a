-- What stands in each slot.
-- Assumes nothing.
use Rattle.std.specs.Prelude.{Bool, cond, ◌&&◌, ℕ, ltb}
use Rattle.std.proofs.Math.Option.{Option, none, some}
use Rattle.heap.specs.declared.Entry.{Entry}
use Rattle.heap.specs.declared.SlotState.{SlotState}
use Rattle.heap.specs.declared.SlotState.TheVariants.{Full, Empty}
use Rattle.heap.specs.declared.Heap.{Heap}
use Rattle.heap.specs.Rules.{entry_at, state_at}
use Rattle.heap.specs.Faults.{full_at}

-- what stands in a slot that was made
abbrev pub standing : Heap → SlotState → Option Entry
standing h (Full p) = some (entry_at h p.0)
standing h (Empty n) = none

-- what stands in a slot: none where it was not made or is empty, else the entry at the position that it names
unfoldable pub lookup : Heap → ℕ → Option Entry
lookup h k = cond (ltb k h.made) (standing h (state_at h k)) none

-- a slot was made, and is full
abbrev pub used_at : Heap → ℕ → Bool
used_at h k = ltb k h.made && full_at h k
