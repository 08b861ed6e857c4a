-- WHAT A NAMED FAULT OF A HEAP MEANS: every kind before it is in order, of its own kind nothing lower is at fault, and what is named
-- is (proofs/Testing/Named.antt). On the meaning, and not on the scans that find it.
-- Assumes nothing.
use Rattle.std.specs.Prelude.{◌≡◌, ℕ, ◌≤◌, ◌<◌}
use Rattle.theory.specs.Counting.{count}
use Rattle.theory.specs.Chain.{unless}
use Rattle.theory.specs.WrongStep.{WrongAt}
use Rattle.refusals.specs.declared.fault.Fault.{Fault}
use Rattle.refusals.specs.declared.fault.Fault.TheVariants.{Count, Position, Order, FreeChain, List, Place}
use Rattle.heap.specs.Capacity.{cap}
use Rattle.heap.specs.declared.Heap.{Heap}
use Rattle.heap.specs.Faults.{full_at, empty_at, next_at}
use Rattle.heap.specs.Sound.{Placed, Ordered}

-- the counts are right
pub record Counts (h : Heap) : Type 0 where
  pub len_in : h.len ≤ cap
  pub made_in : h.made ≤ cap
  pub counted : count (full_at h) h.made ≡ h.len

-- the kinds, each up to a position
abbrev pub PlacedTo : Heap → ℕ → Type 0
PlacedTo h i = (j : ℕ) → j < i → Placed h j

abbrev pub OrderedTo : Heap → ℕ → Type 0
OrderedTo h i = (j : ℕ) → 0 < j → j < i → Ordered h j

abbrev pub Named : Heap → Fault → Type 0
Named h Count = ¬ Counts h
Named h (Position i) = Counts h × PlacedTo h i × (i < h.len) × ¬ Placed h i
Named h (Order i) = Counts h × PlacedTo h h.len × OrderedTo h i × (0 < i) × (i < h.len) × ¬ Ordered h i
Named h (FreeChain k) =
    Counts h × PlacedTo h h.len × OrderedTo h h.len × WrongAt (empty_at h) (next_at h) h.made (unless h.made h.free.0) k
Named h (List k) = ⊥
Named h (Place p) = ⊥
