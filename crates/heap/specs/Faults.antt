-- The heap test: scans that stop at the first fault, its kind and where it is. The test says yes where there is none.
-- Assumes nothing.
use Rattle.std.specs.Prelude.{Bool, true, false, not, cond, ◌&&◌, ℕ, ◌-◌, ltb, leb, eqb}
use Rattle.std.proofs.Math.Option.{Option, none, some}
use Rattle.theory.specs.Order.{parent}
use Rattle.theory.specs.Counting.{count}
use Rattle.theory.specs.Chain.{unless, clear}
use Rattle.theory.specs.First.{first_bad}
use Rattle.theory.specs.WrongStep.{wrong_step}
use Rattle.refusals.specs.declared.fault.Fault.{Fault}
use Rattle.refusals.specs.declared.fault.Fault.TheVariants.{Count, Position, Order, FreeChain}
use Rattle.refusals.specs.Faults.{or_else, fault_by}
use Rattle.heap.specs.Capacity.{cap}
use Rattle.heap.specs.declared.SlotState.{SlotState}
use Rattle.heap.specs.declared.SlotState.TheVariants.{Full, Empty}
use Rattle.heap.specs.declared.Heap.{Heap}
use Rattle.heap.specs.Rules.{entry_at, state_at, slot_at, before}

abbrev pub is_full : SlotState → Bool
is_full (Full p) = true
is_full (Empty n) = false

-- a full slot that names the position
abbrev pub names : SlotState → ℕ → Bool
names (Full p) i = eqb p.0 i
names (Empty n) i = false

-- a slot is full; a slot that was made is empty
unfoldable pub full_at : Heap → ℕ → Bool
full_at h s = is_full (state_at h s)

unfoldable pub empty_at : Heap → ℕ → Bool
empty_at h s = ltb s h.made && not (is_full (state_at h s))

-- the free slot that a slot names; the chain ends at the number of slots so far
abbrev pub link_of : ℕ → SlotState → Option ℕ
link_of m (Empty n) = unless m n.0
link_of m (Full p) = none

unfoldable pub next_at : Heap → ℕ → Option ℕ
next_at h s = link_of h.made (state_at h s)

-- count: entries and slots have room, and there are as many entries as full slots
unfoldable pub count_ok : Heap → Bool
count_ok h = leb h.len cap && (leb h.made cap && eqb (count (full_at h) h.made) h.len)

-- position: the entry's slot was made, is full and names the position
unfoldable pub position_ok : Heap → ℕ → Bool
position_ok h i = ltb (slot_at h i) h.made && names (state_at h (slot_at h i)) i

-- order: the entry is not smaller than its parent
unfoldable pub order_ok : Heap → ℕ → Bool
order_ok h i = not (before (entry_at h i) (entry_at h (parent i)))

unfoldable pub count_fault : Heap → Option Fault
count_fault h = cond (count_ok h) none (some Count)

unfoldable pub position_fault : Heap → Option Fault
position_fault h = fault_by Position (first_bad (position_ok h) h.len 0)

-- the head has no parent
unfoldable pub order_fault : Heap → Option Fault
order_fault h = fault_by Order (first_bad (order_ok h) (h.len - 1) 1)

-- the free chain visits each empty slot once and ends at the number of slots: the first step along it that meets a slot that was not
-- made, that is full or that was met before, or at which it has ended while an empty slot is missing
unfoldable pub chain_fault : Heap → Option Fault
chain_fault h = fault_by FreeChain (wrong_step (empty_at h) (next_at h) h.made (unless h.made h.free.0))

unfoldable pub fault_of : Heap → Option Fault
fault_of h = or_else (count_fault h) (or_else (position_fault h) (or_else (order_fault h) (chain_fault h)))

-- the heap test, yes or no
unfoldable pub consistent_of : Heap → Bool
consistent_of h = clear (fault_of h)
