-- When bytes are those of a header, an entry, a slot or a timer: the tables of docs/IMAGE.md. Of each table the column 'Spare' is
-- one test, which passes where no spare bit is set, and the column 'Range' another; a line for each row that has one. A place, a
-- position and a slot are below the capacity, and a count is at most the capacity.
-- Assumes nothing.
use Rattle.std.specs.Prelude.{Bool, ◌&&◌, ◌||◌, List, ℕ, ◌+◌, ◌/◌, ◌%◌, ◌^◌, eqb, ltb, leb}
use Rattle.digits.specs.Digits.{value_at}
use Rattle.heap.specs.Capacity.{cap}

-- THE HEADER, by its numbers: the format in byte 0, the marks in byte 1, the place of the head in byte 2, the number of entries in
-- bytes 3 and 4, the number of slots made in 5 and 6, the free head in 7 and 8

-- spare: of byte 1 bits 7 to 2; of byte 2 all, where the list has no head; of each count the first 7 bits
abbrev pub header_spare : ℕ → ℕ → ℕ → ℕ → ℕ → Bool
header_spare marks place len made free =
    eqb (marks / 4) 0
    && (eqb (marks % 2) 1 || eqb place 0)
    && eqb (len / 512) 0
    && eqb (made / 512) 0
    && eqb (free / 512) 0

-- ranges: the format 1; the place of the head 0 to 255; each count, in its 9 bits, 0 to 256
abbrev pub header_range : ℕ → ℕ → ℕ → ℕ → ℕ → Bool
header_range format place len made free =
    eqb format 1
    && ltb place cap
    && leb (len % 512) cap
    && leb (made % 512) cap
    && leb (free % 512) cap

unfoldable pub header_clear : List ℕ → ℕ → Bool
header_clear l i = header_spare (value_at 1 l (i + 1)) (value_at 1 l (i + 2)) (value_at 2 l (i + 3)) (value_at 2 l (i + 5)) (value_at 2 l (i + 7))

unfoldable pub header_in : List ℕ → ℕ → Bool
header_in l i = header_range (value_at 1 l i) (value_at 1 l (i + 2)) (value_at 2 l (i + 3)) (value_at 2 l (i + 5)) (value_at 2 l (i + 7))

-- AN ENTRY, by its numbers: the generation in bytes 8 to 11, the place in byte 12, the slot in byte 13

-- spare: of the generation the first 2 bits
abbrev pub entry_spare : ℕ → Bool
entry_spare generation = eqb (generation / 2 ^ 30) 0

-- ranges: the place and the slot 0 to 255
abbrev pub entry_range : ℕ → ℕ → Bool
entry_range place slot = ltb place cap && ltb slot cap

unfoldable pub entry_clear : List ℕ → ℕ → Bool
entry_clear l i = entry_spare (value_at 4 l (i + 8))

unfoldable pub entry_in : List ℕ → ℕ → Bool
entry_in l i = entry_range (value_at 1 l (i + 12)) (value_at 1 l (i + 13))

-- A SLOT, by its number in bytes 0 and 1

-- spare: of byte 0 bits 6 to 1
abbrev pub slot_spare : ℕ → Bool
slot_spare n = eqb (n / 512 % 64) 0

-- ranges: the 9 bits 0 to 256, of a full slot 0 to 255
abbrev pub slot_range : ℕ → Bool
slot_range n = leb (n % 512) cap && (eqb (n / 32768) 0 || ltb (n % 512) cap)

unfoldable pub slot_clear : List ℕ → ℕ → Bool
slot_clear l i = slot_spare (value_at 2 l i)

unfoldable pub slot_in : List ℕ → ℕ → Bool
slot_in l i = slot_range (value_at 2 l i)

-- A TIMER, by its numbers: the tags in byte 0, the place that it waits before in byte 1, the slot that it names in byte 2, the state
-- word in bytes 7 to 10, the deadline in bytes 11 to 18

-- spare: of byte 0 bits 5 and 4, and bit 0; of byte 1 all, where it does not wait before another; of byte 2 all, where it names no
-- slot; of the state word all, where the place is free or retired, that is neither live nor cancelled; of the deadline all, where
-- the place is not live
abbrev pub timer_spare : ℕ → ℕ → ℕ → ℕ → ℕ → Bool
timer_spare tags next slot word due =
    eqb (tags / 16 % 4) 0
    && eqb (tags % 2) 0
    && (eqb (tags / 4 % 4) 2 || eqb next 0)
    && (eqb (tags / 2 % 2) 1 || eqb slot 0)
    && (eqb (tags / 64) 1 || eqb (tags / 64) 2 || eqb word 0)
    && (eqb (tags / 64) 1 || eqb due 0)

-- ranges: waiting 0 to 2; the place and the slot 0 to 255
abbrev pub timer_range : ℕ → ℕ → ℕ → Bool
timer_range tags next slot = ltb (tags / 4 % 4) 3 && ltb next cap && ltb slot cap

unfoldable pub timer_clear : List ℕ → ℕ → Bool
timer_clear l i = timer_spare (value_at 1 l i) (value_at 1 l (i + 1)) (value_at 1 l (i + 2)) (value_at 4 l (i + 7)) (value_at 8 l (i + 11))

unfoldable pub timer_in : List ℕ → ℕ → Bool
timer_in l i = timer_range (value_at 1 l i) (value_at 1 l (i + 1)) (value_at 1 l (i + 2))
