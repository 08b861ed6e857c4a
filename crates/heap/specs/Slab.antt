-- A sound heap in two parts: the slab part, which is all of `Sound` but the order, and the order.
-- Assumes nothing.
use Rattle.std.specs.Prelude.{◌≡◌, true, ℕ, ◌<◌, ◌≤◌, length}
use Rattle.theory.specs.Counting.{count}
use Rattle.theory.specs.Chain.{unless, chain_okb}
use Rattle.heap.specs.Capacity.{cap}
use Rattle.heap.specs.declared.Heap.{Heap}
use Rattle.heap.specs.Faults.{full_at, empty_at, next_at}
use Rattle.heap.specs.Sound.{Placed, Ordered}

-- a sound heap, but for the order
pub record Slab (h : Heap) : Type 0 where
  pub entries_long : length h.entries ≡ cap
  pub slots_long : length h.slots ≡ cap
  pub len_in : h.len ≤ cap
  pub made_in : h.made ≤ cap
  pub counted : count (full_at h) h.made ≡ h.len
  pub forth : (p : ℕ) → p < h.len → Placed h p
  pub chained : chain_okb (empty_at h) (next_at h) h.made (unless h.made h.free.0) ≡ true

-- no entry in use is smaller than its parent
abbrev pub OrderedIn : Heap → Type 0
OrderedIn h = (i : ℕ) → 0 < i → i < h.len → Ordered h i
