-- The rules of the calls: what each makes of any heap, its refusals included, in the terms of the rules.
-- Assumes nothing.
use Rattle.std.specs.Prelude as Std
use Rattle.std.specs.Prelude.{cond, ℕ, ltb, eqb, replicate, Result, ⊤}
use Rattle.std.proofs.Math.Option.{Option, none, some}
use Rattle.theory.specs.Logarithm.{log2}
use Rattle.refusals.specs.declared.fault.Fault.{Fault}
use Rattle.refusals.specs.declared.Refusal.{Refusal}
use Rattle.refusals.specs.declared.Refusal.TheVariants.{Unsound, Full, VacantSlot}
use Rattle.refusals.specs.Answer.{Answer, accepted, refused, unsound, refuse, Outcome, Nothing, kept}
use Rattle.refusals.specs.declared.outcome.Outcome as Code
use Rattle.refusals.specs.Outcomes.{said_by}
use Rattle.heap.specs.Capacity.{cap}
use Rattle.heap.specs.declared.Slot.{Slot}
use Rattle.heap.specs.declared.Place.{Place}
use Rattle.heap.specs.declared.Entry.{Entry}
use Rattle.heap.specs.declared.SlotState.{SlotState}
use Rattle.heap.specs.declared.SlotState.TheVariants as State
use Rattle.heap.specs.declared.Heap.{Heap}
use Rattle.heap.specs.declared.walk.Moved.{Moved}
use Rattle.heap.specs.declared.Pushed.{Pushed}
use Rattle.heap.specs.declared.Removed.{Removed}
use Rattle.heap.specs.Rules.{no_entry, entry_at, state_at, pushed_of, removed_of}
use Rattle.heap.specs.Faults.{fault_of}

-- the empty heap: no entry, no slot, the free head at 0
abbrev pub fresh_of : Heap
fresh_of = record {
  entries = replicate cap no_entry;
  len = 0;
  slots = replicate cap (record { state = State.Empty (record { 0 = 0 }) });
  made = 0;
  free = record { 0 = 0 };
}

-- the height of a heap of n entries: the floor of log2 n, and 0 for none
abbrev pub height_of : ℕ → ℕ
height_of n = log2 n

-- what the test says to a call: an unsound heap is refused with 1 and its first fault
abbrev pub passing : Option Fault → Answer Nothing
passing none = accepted tt
passing (some f) = refuse (Unsound f)

unfoldable pub guard_of : Heap → Answer Nothing
guard_of h = passing (fault_of h)

-- a call begins with the test: what it would do where it is let through, else the heap handed back with the refusal
abbrev pub guarded_by : {A : Type 0} → Heap → Outcome Heap A → Answer Nothing → Outcome Heap A
guarded_by h o (accepted v) = o
guarded_by h o (refused n) = kept h (refused n)
guarded_by h o (unsound f) = kept h (unsound f)

abbrev pub guarded : {A : Type 0} → Heap → Outcome Heap A → Outcome Heap A
guarded h o = guarded_by h o (guard_of h)

-- push answers the slot and the swaps
abbrev pub push_gives : Slot → Moved → Outcome Heap (Slot × ℕ)
push_gives s m = record { state = m.heap; answer = accepted (s, m.swaps) }

-- push onto a sound heap: refused with 4 where it holds `cap` entries
unfoldable pub push_sound : Heap → ℕ → ℕ → Place → Outcome Heap (Slot × ℕ)
push_sound h at g place = cond (ltb h.len cap) (push_gives h.free (pushed_of h at g place)) (kept h (refuse Full))

-- what is taken off: an entry with the swaps of its removal, or nothing
abbrev pub Off : Type 0
Off = Option (Entry × ℕ)

abbrev pub remove_gives : Entry → Moved → Outcome Heap Off
remove_gives e m = record { state = m.heap; answer = accepted (some (e, m.swaps)) }

-- by what the slot is: an empty one is refused with 11
abbrev pub remove_by : Heap → Slot → SlotState → Outcome Heap Off
remove_by h s (State.Full p) = remove_gives (entry_at h p.0) (removed_of h s p)
remove_by h s (State.Empty n) = kept h (refuse VacantSlot)

-- remove by slot from a sound heap: refused with 11 where the slot was never made, or is empty
unfoldable pub remove_sound : Heap → Slot → Outcome Heap Off
remove_sound h s = cond (ltb s.0 h.made) (remove_by h s (state_at h s.0)) (kept h (refuse VacantSlot))

-- pop of a sound heap: of an empty one nothing, else the removal of the head's slot
unfoldable pub pop_sound : Heap → Outcome Heap Off
pop_sound h = cond (eqb h.len 0) (record { state = h; answer = accepted none }) (remove_sound h (entry_at h 0).slot)

-- peek at a sound heap: the head, or nothing
unfoldable pub peek_sound : Heap → Answer (Option Entry)
peek_sound h = cond (eqb h.len 0) (accepted none) (accepted (some (entry_at h 0)))

-- the calls on any heap
abbrev pub push_of : Heap → ℕ → ℕ → Place → Outcome Heap (Slot × ℕ)
push_of h at g place = guarded h (push_sound h at g place)

abbrev pub remove_of : Heap → Slot → Outcome Heap Off
remove_of h s = guarded h (remove_sound h s)

abbrev pub pop_of : Heap → Outcome Heap Off
pop_of h = guarded h (pop_sound h)

abbrev pub peek_by : Answer (Option Entry) → Answer Nothing → Answer (Option Entry)
peek_by a (accepted v) = a
peek_by a (refused n) = refused n
peek_by a (unsound f) = unsound f

abbrev pub peek_of : Heap → Answer (Option Entry)
peek_of h = peek_by (peek_sound h) (guard_of h)

-- what the code's answers say: a guard that the call may be made, a push its slot and its swaps, a removal its entry and its swaps
abbrev pub said_guard : Result ⊤ Refusal → Answer Nothing
said_guard = said_by (λ (u : ⊤). u)

abbrev pub said_push : Result Pushed Refusal → Answer (Slot × ℕ)
said_push = said_by (λ (r : Pushed). (r.slot, r.swaps))

abbrev pub said_remove : Result Removed Refusal → Answer Off
said_remove = said_by (λ (r : Removed). some (r.entry, r.swaps))

-- a pop the same of the head, and a peek the head itself, if there is one
abbrev pub off_by : Std.Option Removed → Off
off_by Std.None = none
off_by (Std.Some r) = some (r.entry, r.swaps)

abbrev pub said_pop : Result (Std.Option Removed) Refusal → Answer Off
said_pop = said_by off_by

abbrev pub head_by : Std.Option Entry → Option Entry
head_by Std.None = none
head_by (Std.Some e) = some e

abbrev pub said_peek : Result (Std.Option Entry) Refusal → Answer (Option Entry)
said_peek = said_by head_by

-- the heap handed back, and what is said
abbrev pub told_push : Code.Outcome Heap Pushed → Outcome Heap (Slot × ℕ)
told_push r = record { state = r.state; answer = said_push r.answer }

abbrev pub told_remove : Code.Outcome Heap Removed → Outcome Heap Off
told_remove r = record { state = r.state; answer = said_remove r.answer }

abbrev pub told_pop : Code.Outcome Heap (Std.Option Removed) → Outcome Heap Off
told_pop r = record { state = r.state; answer = said_pop r.answer }
