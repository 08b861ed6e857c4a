-- The rules of the heaps that are built by hand. Three are of the heap itself: `put_at` puts an entry at a position, and its slot says
-- so; `with_len` and `with_slots` give other counts, of entries, and of slots with the free head.
-- Assumes nothing.
use Rattle.std.specs.Prelude.{ℕ, zero, suc, ◌+◌, ◌-◌, set}
use Rattle.heap.specs.Capacity.{cap}
use Rattle.heap.specs.declared.Entry.{Entry}
use Rattle.heap.specs.declared.SlotState.TheVariants.{Full, Empty}
use Rattle.heap.specs.declared.SlabSlot.{SlabSlot}
use Rattle.heap.specs.declared.Heap.{Heap}
use Rattle.heap.specs.Rules.{put_at, with_len, with_slots}
use Rattle.heap.specs.Calls.{fresh_of}

-- a slot that is full with a position, and one that is empty and names a slot
abbrev pub full_of : ℕ → SlabSlot
full_of i = record { state = Full (record { 0 = i }) }

abbrev pub empty_of : ℕ → SlabSlot
empty_of n = record { state = Empty (record { 0 = n }) }

-- an entry of generation 0
abbrev pub entry_of : (at place slot : ℕ) → Entry
entry_of d p q = record { at = d; generation = 0; place = record { 0 = p }; slot = record { 0 = q } }

-- the heap with an entry at a position, and with a slot at a number
abbrev pub with_entry : Heap → ℕ → Entry → Heap
with_entry h i e = record { entries = set h.entries i e; len = h.len; slots = h.slots; made = h.made; free = h.free }

abbrev pub with_slot : Heap → ℕ → SlabSlot → Heap
with_slot h i x = record { entries = h.entries; len = h.len; slots = set h.slots i x; made = h.made; free = h.free }

-- the heap with another free head
abbrev pub freed_of : Heap → ℕ → Heap
freed_of h n = with_slots h h.made (record { 0 = n })

-- no entry and these two slots, of which so many are made, with this free head
abbrev pub slab_of : (x y : SlabSlot) (made free : ℕ) → Heap
slab_of x y m f = with_slots (with_slot (with_slot fresh_of 0 x) 1 y) m (record { 0 = f })

-- the heap with this one entry, and with these two
abbrev pub holding_of : Heap → Entry → Heap
holding_of h e = with_len (with_entry h 0 e) 1

abbrev pub holding_two_of : Heap → (e f : Entry) → Heap
holding_two_of h e f = with_len (with_entry (with_entry h 0 e) 1 f) 2

-- one entry, in slot 0; and two, in the slots 0 and 1
abbrev pub one_of : Entry → Heap
one_of e = holding_of (slab_of (full_of 0) (empty_of 0) 1 1) e

abbrev pub two_of : (e f : Entry) → Heap
two_of e f = holding_two_of (slab_of (full_of 0) (full_of 1) 2 2) e f

-- no entry, and one slot, which is empty
abbrev pub vacated_of : Heap
vacated_of = slab_of (empty_of 1) (empty_of 0) 1 0

-- no entry and no slot, and past these counts what a heap of one entry has
abbrev pub left_over_of : Heap
left_over_of = with_slots (with_len (one_of (entry_of 5 0 0)) 0) 0 (record { 0 = 0 })

-- so many positions from the i-th on have an entry due at 5, each in the slot and of the place that have the number of its position
unfoldable pub fill_from : ℕ → ℕ → Heap → Heap
fill_from zero i h = h
fill_from (suc k) i h = fill_from k (i + 1) (put_at h i (entry_of 5 i i))

-- as many entries, and slots, as there is room for
unfoldable pub full_heap_of : Heap
full_heap_of = with_slots (with_len (fill_from cap 0 fresh_of) cap) cap (record { 0 = cap })

-- the heap in which one entry more is counted than there is room for
abbrev pub one_more_of : Heap → Heap
one_more_of h = with_len h (cap + 1)

-- so many slots after the i-th are empty, each naming the one before it
unfoldable pub link_from : ℕ → ℕ → Heap → Heap
link_from zero i h = h
link_from (suc k) i h = link_from k (i + 1) (with_slot h (i + 1) (empty_of i))

-- every slot empty, each naming the one before it, and one slot more counted than there is room for. The first names that count, and
-- the free head is the last
unfoldable pub one_slot_more_of : Heap
one_slot_more_of =
    with_slots (link_from (cap - 1) 0 (with_slot fresh_of 0 (empty_of (cap + 1)))) (cap + 1) (record { 0 = cap - 1 })
