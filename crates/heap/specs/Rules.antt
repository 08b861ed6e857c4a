-- The rules of push and remove, as functions on the very values that the code holds.
-- Assumes nothing.
use Rattle.std.specs.Prelude.{Bool, true, false, cond, List, ℕ, zero, suc, ◌+◌, ◌-◌, ◌*◌, ltb, eqb, get_or, set, take}
use Rattle.theory.specs.Order.{parent}
use Rattle.heap.specs.declared.Slot.{Slot}
use Rattle.heap.specs.declared.Pos.{Pos}
use Rattle.heap.specs.declared.Place.{Place}
use Rattle.heap.specs.declared.Entry.{Entry}
use Rattle.heap.specs.declared.SlotState.{SlotState}
use Rattle.heap.specs.declared.SlotState.TheVariants.{Full, Empty}
use Rattle.heap.specs.declared.SlabSlot.{SlabSlot}
use Rattle.heap.specs.declared.Heap.{Heap}
use Rattle.heap.specs.declared.walk.Moved.{Moved}

-- what is read past the end of the entries, and of the slots
abbrev pub no_entry : Entry
no_entry = record { at = 0; generation = 0; place = record { 0 = 0 }; slot = record { 0 = 0 } }

abbrev pub no_slot : SlabSlot
no_slot = record { state = Full (record { 0 = 0 }) }

-- the entry at a position
abbrev pub entry_at : Heap → ℕ → Entry
entry_at h i = get_or h.entries i no_entry

-- what a slot is
abbrev pub state_at : Heap → ℕ → SlotState
state_at h s = (get_or h.slots s no_slot).state

-- the slot of the entry at a position
abbrev pub slot_at : Heap → ℕ → ℕ
slot_at h i = (entry_at h i).slot.0

-- the entries in use, by position
abbrev pub items : Heap → List Entry
items h = take h.len h.entries

-- what entries are compared by: the deadline
abbrev pub key : Entry → ℕ
key e = e.at

-- smaller: strictly the earlier deadline. Every rule that compares entries goes by this
abbrev pub before : Entry → Entry → Bool
before a b = ltb (key a) (key b)

-- the entry stands at the position, and its slot says so
unfoldable pub put_at : Heap → ℕ → Entry → Heap
put_at h i e = record {
  entries = set h.entries i e;
  len = h.len;
  slots = set h.slots e.slot.0 (record { state = Full (record { 0 = i }) });
  made = h.made;
  free = h.free;
}

-- a swap: the entries at two positions change places
unfoldable pub swap_at : Heap → ℕ → ℕ → Heap
swap_at h i j = put_at (put_at h i (entry_at h j)) j (entry_at h i)

-- a heap after a walk of one entry: where the entry stands now, and the swaps that it took
abbrev pub moved : Heap → ℕ → ℕ → Moved
moved h i n = record { heap = h; at = record { 0 = i }; swaps = n }

-- the entry at i has a parent and is strictly smaller than it
unfoldable pub rises_at : Heap → ℕ → Bool
rises_at h i = cond (eqb i 0) false (before (entry_at h i) (entry_at h (parent i)))

-- up from i while strictly smaller than the parent, in at most as many swaps as the first number says; n were made before
unfoldable pub up_from : ℕ → Heap → ℕ → ℕ → Moved
up_from zero h i n = moved h i n
up_from (suc k) h i n = cond (rises_at h i) (up_from k (swap_at h i (parent i)) (parent i) (n + 1)) (moved h i n)

-- where to go down to from i, by: there is a left child, and a right one; the left is smaller than the entry, the right smaller
-- than the left, the right smaller than the entry. The right child is taken only if it is smaller than the entry and the left is
-- not, or both are and the right is strictly smaller than the left; both smaller and equal: left. Otherwise i itself
abbrev pub pick_child : Bool → Bool → Bool → Bool → Bool → ℕ → ℕ
pick_child false _ _ _ _ i = i
pick_child true false false _ _ i = i
pick_child true false true _ _ i = 2 * i + 1
pick_child true true true true _ i = 2 * i + 2
pick_child true true true false _ i = 2 * i + 1
pick_child true true false _ true i = 2 * i + 2
pick_child true true false _ false i = i

unfoldable pub child_of : Heap → ℕ → ℕ
child_of h i =
    pick_child (ltb (2 * i + 1) h.len) (ltb (2 * i + 2) h.len)
    (before (entry_at h (2 * i + 1)) (entry_at h i))
    (before (entry_at h (2 * i + 2)) (entry_at h (2 * i + 1)))
    (before (entry_at h (2 * i + 2)) (entry_at h i))
    i

-- down from i to the first position where no child is strictly smaller, in at most as many swaps as the first number says; n
-- were made before
unfoldable pub down_from : ℕ → Heap → ℕ → ℕ → Moved
down_from zero h i n = moved h i n
down_from (suc k) h i n = cond (eqb (child_of h i) i) (moved h i n) (down_from k (swap_at h i (child_of h i)) (child_of h i) (n + 1))

-- the free slot after one that is taken
abbrev pub next_of : SlotState → Slot → Slot
next_of (Empty n) s = n
next_of (Full p) s = s

abbrev pub with_slots : Heap → ℕ → Slot → Heap
with_slots h m f = record { entries = h.entries; len = h.len; slots = h.slots; made = m; free = f }

-- the free head is taken: where it equals the number of slots so far a new slot is made, otherwise it gives way to the next one
unfoldable pub taken_of : Heap → Heap
taken_of h =
    with_slots h
    (cond (eqb h.free.0 h.made) (h.made + 1) h.made)
    (cond (eqb h.free.0 h.made) (record { 0 = h.made + 1 }) (next_of (state_at h h.free.0) h.free))

abbrev pub with_len : Heap → ℕ → Heap
with_len h n = record { entries = h.entries; len = n; slots = h.slots; made = h.made; free = h.free }

-- an entry goes last
unfoldable pub added_of : Heap → Entry → Heap
added_of h e = put_at (with_len h (h.len + 1)) h.len e

-- the new entry of a push: its slot is the free head
abbrev pub new_entry : Heap → ℕ → ℕ → Place → Entry
new_entry h at g place = record { at = at; generation = g; place = place; slot = h.free }

-- push: the entry gets the free head for its slot, goes last, and moves up
unfoldable pub pushed_of : Heap → ℕ → ℕ → Place → Moved
pushed_of h at g place = up_from h.len (added_of (taken_of h) (new_entry h at g place)) h.len 0

-- the slot becomes the free head, naming the old one
unfoldable pub vacated_of : Heap → Slot → Heap
vacated_of h s =
    record { entries = h.entries; len = h.len; slots = set h.slots s.0 (record { state = Empty h.free }); made = h.made; free = s }

-- the last entry moves into the hole at p. If the hole was last, nothing more; if the moved entry is smaller than the removed one
-- it goes up, otherwise down
unfoldable pub filled_of : Heap → ℕ → Moved
filled_of h p =
    cond (eqb p (h.len - 1))
    (moved (with_len h (h.len - 1)) p 0)
    (cond (before (entry_at h (h.len - 1)) (entry_at h p))
    (up_from p (put_at (with_len h (h.len - 1)) p (entry_at h (h.len - 1))) p 0)
    (down_from (h.len - 1) (put_at (with_len h (h.len - 1)) p (entry_at h (h.len - 1))) p 0))

-- remove the entry at p, whose slot is s
unfoldable pub removed_of : Heap → Slot → Pos → Moved
removed_of h s p = filled_of (vacated_of h s) p.0
