-- The enums of a set as numbers: the case by its tag in docs/IMAGE.md, and what the case holds. What a case does not hold is 0.
-- The way back is total; a tag that no case has is read as some case.
-- Assumes nothing.
use Rattle.std.specs.Prelude.{cond, ℕ, ◌+◌, eqb, Option, Some, None}
use Rattle.heap.specs.declared.Place.{Place}
use Rattle.heap.specs.declared.Slot.{Slot}
use Rattle.heap.specs.declared.SlotState.{SlotState}
use Rattle.heap.specs.declared.SlotState.TheVariants.{Full, Empty}
use Rattle.state.specs.declared.Life.{Life}
use Rattle.state.specs.declared.Life.TheVariants.{Free, Live, Cancelled, Retired}
use Rattle.state.specs.declared.Waiting.{Waiting}
use Rattle.state.specs.declared.Waiting.TheVariants.{No, Last, Before}
use Rattle.cells.specs.declared.parts.LifeParts.{LifeParts}
use Rattle.cells.specs.declared.parts.Part.{Part}

-- a slot as one number: 2^15 where it is full, and in the lowest 9 bits the position of its entry, or the next free slot
abbrev pub slot_number : SlotState → ℕ
slot_number (Full p) = 32768 + p.0
slot_number (Empty n) = n.0

abbrev pub state_from : ℕ → ℕ → SlotState
state_from t n = cond (eqb t 0) (Empty (record { 0 = n })) (Full (record { 0 = n }))

-- whose place it is: 0 free, 1 live, 2 cancelled, 3 retired
abbrev pub life_parts : Life → LifeParts
life_parts Free = record { tag = 0; word = 0; due = 0 }
life_parts (Live w d) = record { tag = 1; word = w; due = d }
life_parts (Cancelled w) = record { tag = 2; word = w; due = 0 }
life_parts Retired = record { tag = 3; word = 0; due = 0 }

abbrev pub life_from : ℕ → ℕ → ℕ → Life
life_from t w d = cond (eqb t 0) Free (cond (eqb t 1) (Live w d) (cond (eqb t 2) (Cancelled w) Retired))

-- waiting: 0 no, 1 the last of the list, 2 before another
abbrev pub waiting_parts : Waiting → Part
waiting_parts No = record { tag = 0; number = 0 }
waiting_parts Last = record { tag = 1; number = 0 }
waiting_parts (Before p) = record { tag = 2; number = p.0 }

abbrev pub waiting_from : ℕ → ℕ → Waiting
waiting_from t p = cond (eqb t 1) Last (cond (eqb t 2) (Before (record { 0 = p })) No)

-- whether a number is there, and which
abbrev pub number_parts : Option ℕ → Part
number_parts None = record { tag = 0; number = 0 }
number_parts (Some n) = record { tag = 1; number = n }

abbrev pub number_from : ℕ → ℕ → Option ℕ
number_from t n = cond (eqb t 1) (Some n) None

-- whether a timer names a slot, and which
abbrev pub held_parts : Option Slot → Part
held_parts None = record { tag = 0; number = 0 }
held_parts (Some s) = record { tag = 1; number = s.0 }

abbrev pub held_from : ℕ → ℕ → Option Slot
held_from t s = cond (eqb t 1) (Some (record { 0 = s })) None

-- whether the waiting list has a head, and at which place
abbrev pub first_parts : Option Place → Part
first_parts None = record { tag = 0; number = 0 }
first_parts (Some p) = record { tag = 1; number = p.0 }

abbrev pub first_from : ℕ → ℕ → Option Place
first_from t p = cond (eqb t 1) (Some (record { 0 = p })) None
