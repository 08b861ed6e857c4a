-- The test of soundness: the first fault, its kind and where it is. The heap's four kinds come first, then the list, then the
-- places, the lowest one at fault.
-- Assumes nothing.
use Rattle.std.specs.Prelude.{Bool, true, false, not, cond, ◌&&◌, ◌||◌, ℕ, zero, suc, ◌^◌, min, ltb, eqb, None, Some}
use Rattle.std.specs.Prelude as Code
use Rattle.std.proofs.Math.Option.{Option, none, some}
use Rattle.theory.specs.First.{first_bad}
use Rattle.theory.specs.WrongStep.{wrong_step}
use Rattle.refusals.specs.declared.fault.Fault.{Fault}
use Rattle.refusals.specs.declared.fault.Fault.TheVariants.{List, Place}
use Rattle.theory.specs.Chain.{clear}
use Rattle.refusals.specs.Faults.{or_else, fault_by}
use Rattle.heap.specs.Capacity.{cap}
use Rattle.heap.specs.declared.Heap.{Heap}
use Rattle.heap.specs.declared.Entry.{Entry}
use Rattle.heap.specs.declared.Slot.{Slot}
use Rattle.heap.specs.declared.Place as Places
use Rattle.heap.specs.declared.SlotState.{SlotState}
use Rattle.heap.specs.declared.SlotState.TheVariants.{Full, Empty}
use Rattle.heap.specs.Rules.{entry_at, state_at}
use Rattle.heap.specs.Faults as Heaps
use Rattle.word.specs.Rules.{invalid_in}
use Rattle.state.specs.declared.Life.{Life}
use Rattle.state.specs.declared.Life.TheVariants.{Free, Live, Cancelled, Retired}
use Rattle.state.specs.declared.Timer.{Timer}
use Rattle.state.specs.declared.Set.{Set}
use Rattle.state.specs.State.{timer_at, is_waiting, next_in, head_of}

-- the waiting timers, and the links among them
unfoldable pub waits_at : Set → ℕ → Bool
waits_at s p = ltb p cap && is_waiting (timer_at s p).waiting

unfoldable pub after_at : Set → ℕ → Option ℕ
after_at s p = next_in (timer_at s p).waiting

-- the list holds exactly the waiting timers, each once: the first step along it that meets a place out of range, a timer that does
-- not wait or one that was met before, or at which it has ended while a waiting timer is missing
unfoldable pub list_scan : Set → Option ℕ
list_scan s = wrong_step (waits_at s) (after_at s) cap (head_of s.first)

abbrev pub is_nothing : Code.Option Slot → Bool
is_nothing None = true
is_nothing (Some q) = false

abbrev pub is_slot : Code.Option Slot → ℕ → Bool
is_slot None q = false
is_slot (Some r) q = eqb r.0 q

-- a full slot, whose entry holds the place
abbrev pub entry_has : Heap → SlotState → ℕ → Bool
entry_has h (Full i) p = eqb (entry_at h i.0).place.0 p
entry_has h (Empty n) p = false

-- the slot that a timer names was made, and its entry is the timer's own
abbrev pub held_ok : Heap → ℕ → Code.Option Slot → Bool
held_ok h p None = true
held_ok h p (Some q) = ltb q.0 h.made && entry_has h (state_at h q.0) p

-- neither waiting nor naming a slot
abbrev pub idle_in : Timer → Bool
idle_in t = not (is_waiting t.waiting) && is_nothing t.held

-- by whose place it is: a free or retired one has no entry and is not waiting; an invalid mark stands only in a closed set; a
-- cancelled timer of an open set is waiting
abbrev pub life_ok : Bool → Timer → Life → Bool
life_ok closed t Free = idle_in t
life_ok closed t (Live w d) = closed || not (invalid_in w)
life_ok closed t (Cancelled w) = closed || (not (invalid_in w) && is_waiting t.waiting)
life_ok closed t Retired = idle_in t

-- the list and the heap of a closed set are empty: no timer of it waits, and none names a slot
abbrev pub closed_ok : Bool → Timer → Bool
closed_ok closed t = not closed || idle_in t

unfoldable pub place_ok : Set → ℕ → Bool
place_ok s p =
    life_ok s.closed (timer_at s p) (timer_at s p).life
    && (closed_ok s.closed (timer_at s p) && held_ok s.heap p (timer_at s p).held)

-- an entry's generation is in range, and its place, which holds that, names its slot
abbrev pub entry_fits : Entry → Code.Option Slot → Bool
entry_fits e d = ltb e.generation (2 ^ 30) && is_slot d e.slot.0

-- and its place is in range
unfoldable pub entry_ok : Set → ℕ → Bool
entry_ok s i =
    let e = entry_at s.heap i in
    ltb e.place.0 cap && entry_fits e (timer_at s e.place.0).held

abbrev pub lower : Option ℕ → Option ℕ → Option ℕ
lower none b = b
lower (some p) none = some p
lower (some p) (some q) = some (min p q)

-- the lowest place number of an entry at fault, among the positions below n
unfoldable pub entry_scan : Set → ℕ → Option ℕ
entry_scan s zero = none
entry_scan s (suc n) = lower (entry_scan s n) (cond (entry_ok s n) none (some (entry_at s.heap n).place.0))

-- the first place at fault by itself
unfoldable pub first_place : Set → Option ℕ
first_place s = first_bad (place_ok s) cap 0

-- the lowest place at fault
unfoldable pub place_scan : Set → Option ℕ
place_scan s = lower (first_place s) (entry_scan s s.heap.len)

-- what the code's walk along the list finds, and its scans of places
abbrev pub walked : Code.Option ℕ → Option ℕ
walked None = none
walked (Some k) = some k

abbrev pub scanned : Code.Option Places.Place → Option ℕ
scanned None = none
scanned (Some p) = some p.0

-- the first fault of all: the heap's, then that of the list, then that of the places
unfoldable pub fault_of : Set → Option Fault
fault_of s = or_else (Heaps.fault_of s.heap) (or_else (fault_by List (list_scan s)) (fault_by Place (place_scan s)))

-- the test of soundness, yes or no
unfoldable pub sound_of : Set → Bool
sound_of s = clear (fault_of s)
