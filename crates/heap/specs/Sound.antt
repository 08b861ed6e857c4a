-- What a sound heap is, clause by clause. The heap test says yes exactly of these (proofs/Testing/Test.antt). It speaks of the
-- positions below `len` and of the slots below `made` only.
-- Assumes nothing.
use Rattle.std.specs.Prelude.{◌≡◌, true, false, ℕ, ◌<◌, ◌≤◌, length}
use Rattle.theory.specs.Order.{parent}
use Rattle.theory.specs.Counting.{count}
use Rattle.theory.specs.Chain.{unless, chain_okb}
use Rattle.heap.specs.Capacity.{cap}
use Rattle.heap.specs.declared.SlotState.TheVariants.{Full}
use Rattle.heap.specs.declared.Heap.{Heap}
use Rattle.heap.specs.Rules.{entry_at, state_at, slot_at, before}
use Rattle.heap.specs.Faults.{full_at, empty_at, next_at}

-- the slot of the entry at a position was made, and is full with the position
abbrev pub Placed : Heap → ℕ → Type 0
Placed h i = (slot_at h i < h.made) × (state_at h (slot_at h i) ≡ Full (record { 0 = i }))

-- the entry at a position is not smaller than its parent
abbrev pub Ordered : Heap → ℕ → Type 0
Ordered h i = before (entry_at h i) (entry_at h (parent i)) ≡ false

pub record Sound (h : Heap) : Type 0 where
  -- the arrays have the capacity, as the code's types say
  pub entries_long : length h.entries ≡ cap
  pub slots_long : length h.slots ≡ cap
  -- both counts are within the capacity, and there are as many entries as full slots
  pub len_in : h.len ≤ cap
  pub made_in : h.made ≤ cap
  pub counted : count (full_at h) h.made ≡ h.len
  -- each entry's slot names its position, and no entry is smaller than its parent
  pub forth : (p : ℕ) → p < h.len → Placed h p
  pub ordered : (i : ℕ) → 0 < i → i < h.len → Ordered h i
  -- from the free head the chain visits each empty slot once, and ends at the number of slots
  pub chained : chain_okb (empty_at h) (next_at h) h.made (unless h.made h.free.0) ≡ true

-- each entry's slot is a slot of the slab: all that a walk needs to stay in range
pub record SlotsIn (h : Heap) : Type 0 where
  pub len_in : h.len ≤ cap
  pub slots_in_range : (k : ℕ) → k < h.len → slot_at h k < cap

-- the counts of a heap are right: all that the free chain's scan needs to stay in range
pub record Counted (h : Heap) : Type 0 where
  pub made_in : h.made ≤ cap
  pub counted : count (full_at h) h.made ≡ h.len
