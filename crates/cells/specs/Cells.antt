-- The bytes of a header, an entry, a slot and a timer, field behind field as docs/IMAGE.md has them; and the record that bytes are
-- read as, which is meant of bytes that pass their test (specs/Fine.antt).
-- Assumes nothing.
use Rattle.std.specs.Prelude.{List, ◌++◌, ℕ, ◌+◌, ◌*◌, ◌/◌, ◌%◌, eqb}
use Rattle.theory.specs.Tests.{bit}
use Rattle.digits.specs.Digits.{digits, value_at}
use Rattle.heap.specs.declared.Entry.{Entry}
use Rattle.heap.specs.declared.SlabSlot.{SlabSlot}
use Rattle.heap.specs.declared.SlotState.TheVariants.{Empty}
use Rattle.state.specs.declared.Timer.{Timer}
use Rattle.cells.specs.declared.Header.{Header}
use Rattle.cells.specs.Parts.{slot_number, state_from, life_parts, life_from, waiting_parts, waiting_from, held_parts, held_from, first_parts, first_from}

-- a header in 9 bytes: the format 1; closed and whether there is a head, in the lowest two bits of one; the head 1; the number of
-- entries 2; the slots made 2; the free head 2
abbrev pub marks_of : Header → ℕ
marks_of h = bit h.closed * 2 + (first_parts h.first).tag

unfoldable pub header_bytes : Header → List ℕ
header_bytes h =
    digits 1 1
    ++ (digits 1 (marks_of h)
    ++ (digits 1 (first_parts h.first).number ++ (digits 2 h.len ++ (digits 2 h.made ++ digits 2 h.free.0))))

unfoldable pub header_of : List ℕ → ℕ → Header
header_of l i = record {
  closed = eqb (value_at 1 l (i + 1) / 2 % 2) 1;
  first = first_from (value_at 1 l (i + 1) % 2) (value_at 1 l (i + 2));
  len = value_at 2 l (i + 3);
  made = value_at 2 l (i + 5);
  free = record { 0 = value_at 2 l (i + 7) };
}

-- an entry in 14 bytes: the deadline 8, the generation 4, the place 1, the slot 1
unfoldable pub entry_bytes : Entry → List ℕ
entry_bytes e = digits 8 e.at ++ (digits 4 e.generation ++ (digits 1 e.place.0 ++ digits 1 e.slot.0))

unfoldable pub entry_of : List ℕ → ℕ → Entry
entry_of l i = record {
  at = value_at 8 l i;
  generation = value_at 4 l (i + 8);
  place = record { 0 = value_at 1 l (i + 12) };
  slot = record { 0 = value_at 1 l (i + 13) };
}

-- a slot in 2 bytes
unfoldable pub slot_bytes : SlabSlot → List ℕ
slot_bytes s = digits 2 (slot_number s.state)

unfoldable pub slot_of : List ℕ → ℕ → SlabSlot
slot_of l i = record { state = state_from (value_at 2 l i / 32768) (value_at 2 l i % 512) }

-- the slot whose bytes are zero
abbrev pub zero_slot : SlabSlot
zero_slot = record { state = Empty (record { 0 = 0 }) }

-- a timer in 19 bytes: its tags in one (whose place it is from bit 6 on, waiting from bit 2 on, whether it names a slot from bit 1
-- on); the place that it waits before 1; its slot 1; the use number 4; the word 4; the deadline 8
abbrev pub tags_of : Timer → ℕ
tags_of t = (life_parts t.life).tag * 64 + (waiting_parts t.waiting).tag * 4 + (held_parts t.held).tag * 2

unfoldable pub timer_bytes : Timer → List ℕ
timer_bytes t =
    digits 1 (tags_of t)
    ++ (digits 1 (waiting_parts t.waiting).number
    ++ (digits 1 (held_parts t.held).number
    ++ (digits 4 t.uses ++ (digits 4 (life_parts t.life).word ++ digits 8 (life_parts t.life).due))))

unfoldable pub timer_of : List ℕ → ℕ → Timer
timer_of l i = record {
  life = life_from (value_at 1 l i / 64) (value_at 4 l (i + 7)) (value_at 8 l (i + 11));
  waiting = waiting_from (value_at 1 l i / 4 % 4) (value_at 1 l (i + 1));
  held = held_from (value_at 1 l i / 2 % 2) (value_at 1 l (i + 2));
  uses = value_at 4 l (i + 3);
}
