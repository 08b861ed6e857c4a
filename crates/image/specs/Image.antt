-- The bytes of a whole set, the set that bytes are read as, and when bytes are the image of a set: docs/IMAGE.md, 'The whole'. What
-- the header and a record are is in the crate `cells`.
-- Assumes nothing.
use Rattle.std.specs.Prelude.{◌≡◌, ◌⊎◌, Bool, true, false, cond, ◌&&◌, List, ◌++◌, ℕ, ◌+◌, ◌*◌, eqb, ltb, length, get_or}
use Rattle.digits.specs.Digits.{zeros_at}
use Rattle.digits.specs.Rows.{rows, blocks, used, all_to}
use Rattle.heap.specs.Capacity.{cap}
use Rattle.heap.specs.Rules.{no_entry}
use Rattle.heap.specs.declared.Entry.{Entry}
use Rattle.heap.specs.declared.Heap.{Heap}
use Rattle.heap.specs.declared.SlabSlot.{SlabSlot}
use Rattle.state.specs.State.{no_timer}
use Rattle.state.specs.declared.Set.{Set}
use Rattle.state.specs.declared.Timer.{Timer}
use Rattle.cells.specs.declared.Header.{Header}
use Rattle.cells.specs.Cells.{zero_slot, header_bytes, header_of, entry_bytes, entry_of, slot_bytes, slot_of, timer_bytes, timer_of}
use Rattle.cells.specs.Fine.{header_clear, header_in, entry_clear, entry_in, slot_clear, slot_in, timer_clear, timer_in}

-- where the entries, the slots and the timers begin, and how long an image is
abbrev pub entries_at : ℕ
entries_at = 9

abbrev pub slots_at : ℕ
slots_at = entries_at + cap * 14

abbrev pub timers_at : ℕ
timers_at = slots_at + cap * 2

abbrev pub size : ℕ
size = timers_at + cap * 19

-- the header of a set
abbrev pub header_for : Set → Header
header_for s = record { closed = s.closed; first = s.first; len = s.heap.len; made = s.heap.made; free = s.heap.free }

-- the arrays as bytes; a record that is not in use is zero
unfoldable pub entries_bytes : Heap → List ℕ
entries_bytes h = blocks entry_bytes (rows (used no_entry h.len h.entries) cap)

unfoldable pub slots_bytes : Heap → List ℕ
slots_bytes h = blocks slot_bytes (rows (used zero_slot h.made h.slots) cap)

unfoldable pub timers_bytes : Set → List ℕ
timers_bytes s = blocks timer_bytes (rows (λ j. get_or s.timers j no_timer) cap)

-- the image of a set
unfoldable pub image_of : Set → List ℕ
image_of s = header_bytes (header_for s) ++ (entries_bytes s.heap ++ (slots_bytes s.heap ++ timers_bytes s))

-- the bytes of a record that is in use, or else of room, of w bytes: whether no spare bit is set, whether each field is in its range,
-- and what is read
abbrev pub clear_if : (List ℕ → ℕ → Bool) → ℕ → Bool → List ℕ → ℕ → Bool
clear_if clear w kept l i = cond kept (clear l i) (zeros_at w l i)

abbrev pub in_if : (List ℕ → ℕ → Bool) → Bool → List ℕ → ℕ → Bool
in_if within kept l i = cond kept (within l i) true

abbrev pub read_or : {A : Type 0} → (List ℕ → ℕ → A) → A → Bool → List ℕ → ℕ → A
read_or read_as d kept l i = cond kept (read_as l i) d

-- the arrays that are read of bytes, n records of them in use; one that is not is zero
abbrev pub entry_or : Bool → List ℕ → ℕ → Entry
entry_or kept l i = cond kept (entry_of l i) no_entry

abbrev pub slot_or : Bool → List ℕ → ℕ → SlabSlot
slot_or kept l i = cond kept (slot_of l i) zero_slot

unfoldable pub entries_of : List ℕ → ℕ → ℕ → List Entry
entries_of l i n = rows (λ j. entry_or (ltb j n) l (i + j * 14)) cap

unfoldable pub slots_of : List ℕ → ℕ → ℕ → List SlabSlot
slots_of l i n = rows (λ j. slot_or (ltb j n) l (i + j * 2)) cap

unfoldable pub timers_of : List ℕ → ℕ → List Timer
timers_of l i = rows (λ j. timer_of l (i + j * 19)) cap

-- the set that is read of bytes
unfoldable pub set_from : List ℕ → Set
set_from l = record {
  heap = record {
    entries = entries_of l entries_at (header_of l 0).len;
    len = (header_of l 0).len;
    slots = slots_of l slots_at (header_of l 0).made;
    made = (header_of l 0).made;
    free = (header_of l 0).free;
  };
  timers = timers_of l timers_at;
  first = (header_of l 0).first;
  closed = (header_of l 0).closed;
}

-- no spare bit of a record is set: an entry is in use where its position is below the number of entries, a slot where its number is
-- below the number of slots made, and of one that is not every bit is spare
abbrev pub entry_clear_if : Bool → List ℕ → ℕ → Bool
entry_clear_if kept l i = cond kept (entry_clear l i) (zeros_at 14 l i)

abbrev pub slot_clear_if : Bool → List ℕ → ℕ → Bool
slot_clear_if kept l i = cond kept (slot_clear l i) (zeros_at 2 l i)

unfoldable pub entries_clear : List ℕ → ℕ → ℕ → Bool
entries_clear l i n = all_to (λ j. entry_clear_if (ltb j n) l (i + j * 14)) cap

unfoldable pub slots_clear : List ℕ → ℕ → ℕ → Bool
slots_clear l i n = all_to (λ j. slot_clear_if (ltb j n) l (i + j * 2)) cap

unfoldable pub timers_clear : List ℕ → ℕ → Bool
timers_clear l i = all_to (λ j. timer_clear l (i + j * 19)) cap

-- each field of a record in use is in its range
abbrev pub entry_in_if : Bool → List ℕ → ℕ → Bool
entry_in_if kept l i = cond kept (entry_in l i) true

abbrev pub slot_in_if : Bool → List ℕ → ℕ → Bool
slot_in_if kept l i = cond kept (slot_in l i) true

unfoldable pub entries_in : List ℕ → ℕ → ℕ → Bool
entries_in l i n = all_to (λ j. entry_in_if (ltb j n) l (i + j * 14)) cap

unfoldable pub slots_in : List ℕ → ℕ → ℕ → Bool
slots_in l i n = all_to (λ j. slot_in_if (ltb j n) l (i + j * 2)) cap

unfoldable pub timers_in : List ℕ → ℕ → Bool
timers_in l i = all_to (λ j. timer_in l (i + j * 19)) cap

-- no spare bit of the bytes is set, by the columns 'Spare' of docs/IMAGE.md
unfoldable pub spare_clear : List ℕ → Bool
spare_clear l =
    header_clear l 0
    && entries_clear l entries_at (header_of l 0).len
    && slots_clear l slots_at (header_of l 0).made
    && timers_clear l timers_at

-- each field is in its range, by the columns 'Range'
unfoldable pub fields_in : List ℕ → Bool
fields_in l =
    header_in l 0
    && entries_in l entries_at (header_of l 0).len
    && slots_in l slots_at (header_of l 0).made
    && timers_in l timers_at

-- bytes are the image of a set where their length is that of an image, no spare bit is set and each field is in its range; all
-- others are refused with 13
unfoldable pub image_fine : List ℕ → Bool
image_fine l = eqb (length l) size && spare_clear l && fields_in l

-- why bytes are no image: their length, a spare bit that is set, or a field out of its range
abbrev pub NoImage : List ℕ → Type 0
NoImage l = (length l ≡ size → ⊥) ⊎ (spare_clear l ≡ false) ⊎ (fields_in l ≡ false)

-- a set with room that is not in use made zero
unfoldable pub cleared : Set → Set
cleared s = record {
  heap = record {
    entries = rows (used no_entry s.heap.len s.heap.entries) cap;
    len = s.heap.len;
    slots = rows (used zero_slot s.heap.made s.heap.slots) cap;
    made = s.heap.made;
    free = s.heap.free;
  };
  timers = s.timers;
  first = s.first;
  closed = s.closed;
}
