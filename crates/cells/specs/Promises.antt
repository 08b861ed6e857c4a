-- What each function promises of its answer r, and of the lent bytes as they are afterwards.
-- Assumes nothing.
use Rattle.std.specs.Prelude.{◌≡◌, ◌&&◌, cond, List, ℕ, Option, Result, Ok, Err}
use Rattle.std.specs.Bool.{then_some}
use Rattle.digits.specs.Promises.{Puts}
use Rattle.heap.specs.declared.Entry.{Entry}
use Rattle.heap.specs.declared.SlabSlot.{SlabSlot}
use Rattle.state.specs.declared.Timer.{Timer}
use Rattle.cells.specs.declared.Header.{Header}
use Rattle.cells.specs.Cells.{header_bytes, header_of, entry_bytes, entry_of, slot_bytes, slot_of, timer_bytes, timer_of}
use Rattle.cells.specs.Fine.{header_clear, header_in, entry_clear, entry_in, slot_clear, slot_in, timer_clear, timer_in}

-- the record's bytes are put at an offset
abbrev pub PutsHeader : Header → List ℕ → ℕ → List ℕ → ℕ → Type 0
PutsHeader h out at out' r = Puts 9 out at (header_bytes h) out' r

abbrev pub PutsEntry : Entry → List ℕ → ℕ → List ℕ → ℕ → Type 0
PutsEntry e out at out' r = Puts 14 out at (entry_bytes e) out' r

abbrev pub PutsSlot : SlabSlot → List ℕ → ℕ → List ℕ → ℕ → Type 0
PutsSlot s out at out' r = Puts 2 out at (slot_bytes s) out' r

abbrev pub PutsTimer : Timer → List ℕ → ℕ → List ℕ → ℕ → Type 0
PutsTimer t out at out' r = Puts 19 out at (timer_bytes t) out' r

-- the bytes from an offset on are looked at: whether no spare bit is set and each field is in its range, and what is read of them
-- either way
abbrev pub FindsHeader : List ℕ → ℕ → Result Header Header → Type 0
FindsHeader l i r = r ≡ cond (header_clear l i && header_in l i) (Ok (header_of l i)) (Err (header_of l i))

abbrev pub FindsAnyEntry : List ℕ → ℕ → Result Entry Entry → Type 0
FindsAnyEntry l i r = r ≡ cond (entry_clear l i && entry_in l i) (Ok (entry_of l i)) (Err (entry_of l i))

abbrev pub FindsAnySlot : List ℕ → ℕ → Result SlabSlot SlabSlot → Type 0
FindsAnySlot l i r = r ≡ cond (slot_clear l i && slot_in l i) (Ok (slot_of l i)) (Err (slot_of l i))

abbrev pub FindsAnyTimer : List ℕ → ℕ → Result Timer Timer → Type 0
FindsAnyTimer l i r = r ≡ cond (timer_clear l i && timer_in l i) (Ok (timer_of l i)) (Err (timer_of l i))

-- and what they are read as where they pass, and nothing where they do not
abbrev pub FindsEntry : List ℕ → ℕ → Option Entry → Type 0
FindsEntry l i r = r ≡ then_some (entry_clear l i && entry_in l i) (entry_of l i)

abbrev pub FindsSlot : List ℕ → ℕ → Option SlabSlot → Type 0
FindsSlot l i r = r ≡ then_some (slot_clear l i && slot_in l i) (slot_of l i)

abbrev pub FindsTimer : List ℕ → ℕ → Option Timer → Type 0
FindsTimer l i r = r ≡ then_some (timer_clear l i && timer_in l i) (timer_of l i)
