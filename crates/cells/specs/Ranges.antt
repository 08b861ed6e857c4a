-- The headers, entries, slots and timers whose numbers fit their fields.
-- Assumes nothing.
use Rattle.std.specs.Prelude.{◌^◌, ◌<◌, ◌≤◌}
use Rattle.heap.specs.Capacity.{cap}
use Rattle.heap.specs.declared.Entry.{Entry}
use Rattle.heap.specs.declared.SlotState.{SlotState}
use Rattle.heap.specs.declared.SlotState.TheVariants.{Full, Empty}
use Rattle.state.specs.declared.Timer.{Timer}
use Rattle.cells.specs.declared.Header.{Header}
use Rattle.cells.specs.Parts.{life_parts, waiting_parts, held_parts, first_parts}

pub record HeaderIn (h : Header) : Type 0 where
  pub first_in : (first_parts h.first).number < cap
  pub len_in : h.len ≤ cap
  pub made_in : h.made ≤ cap
  pub free_in : h.free.0 ≤ cap

pub record EntryIn (e : Entry) : Type 0 where
  pub at_in : e.at < 2 ^ 64
  pub generation_in : e.generation < 2 ^ 30
  pub place_in : e.place.0 < cap
  pub slot_in_range : e.slot.0 < cap

-- the position of a full slot, the next free slot of an empty one
abbrev pub StateIn : SlotState → Type 0
StateIn (Full p) = p.0 < cap
StateIn (Empty n) = n.0 ≤ cap

pub record TimerIn (t : Timer) : Type 0 where
  pub uses_in : t.uses < 2 ^ 32
  pub word_in : (life_parts t.life).word < 2 ^ 32
  pub due_in : (life_parts t.life).due < 2 ^ 64
  pub next_in_range : (waiting_parts t.waiting).number < cap
  pub slot_in_range : (held_parts t.held).number < cap
