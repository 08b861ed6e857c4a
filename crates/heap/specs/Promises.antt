-- What each function on the heap promises of its answer r.
-- Assumes nothing.
use Rattle.std.specs.Prelude.{◌≡◌, Bool, ℕ, Option, Result, Ok, ⊤}
use Rattle.refusals.specs.declared.fault.Fault.{Fault}
use Rattle.refusals.specs.declared.Refusal.{Refusal}
use Rattle.refusals.specs.declared.outcome.Outcome.{Outcome}
use Rattle.refusals.specs.Faults.{said_verdict}
use Rattle.heap.specs.Capacity.{cap}
use Rattle.heap.specs.declared.Slot.{Slot}
use Rattle.heap.specs.declared.Place.{Place}
use Rattle.heap.specs.declared.Entry.{Entry}
use Rattle.heap.specs.declared.Heap.{Heap}
use Rattle.heap.specs.declared.Pushed.{Pushed}
use Rattle.heap.specs.declared.Removed.{Removed}
use Rattle.heap.specs.Rules.{before}
use Rattle.heap.specs.Faults.{fault_of, consistent_of}
use Rattle.heap.specs.Calls.{fresh_of, height_of, guard_of, said_guard, push_of, remove_of, pop_of, peek_of, push_sound, remove_sound, pop_sound, peek_sound, said_peek, told_push, told_remove, told_pop}

abbrev pub Capacity : ℕ → Type 0
Capacity r = r ≡ cap

-- entries are compared by one rule
abbrev pub Before : Entry → Entry → Bool → Type 0
Before a b r = r ≡ before a b

abbrev pub Fresh : Heap → Type 0
Fresh r = r ≡ fresh_of

abbrev pub Heights : ℕ → ℕ → Type 0
Heights n r = r ≡ height_of n

abbrev pub Faults : Heap → Result ⊤ Fault → Type 0
Faults h r = said_verdict r ≡ fault_of h

abbrev pub Consistent : Heap → Bool → Type 0
Consistent h r = r ≡ consistent_of h

-- a guard lets a call through, or gives its refusal
abbrev pub Guards : Heap → Result ⊤ Refusal → Type 0
Guards h r = said_guard r ≡ guard_of h

abbrev pub Pushes : Heap → ℕ → ℕ → Place → Outcome Heap Pushed → Type 0
Pushes h at g place r = told_push r ≡ push_of h at g place

abbrev pub Removes : Heap → Slot → Outcome Heap Removed → Type 0
Removes h s r = told_remove r ≡ remove_of h s

abbrev pub Pops : Heap → Outcome Heap (Option Removed) → Type 0
Pops h r = told_pop r ≡ pop_of h

abbrev pub Peeks : Heap → Result (Option Entry) Refusal → Type 0
Peeks h r = said_peek r ≡ peek_of h

-- the same of a heap that the caller has found sound
abbrev pub PushesSound : Heap → ℕ → ℕ → Place → Outcome Heap Pushed → Type 0
PushesSound h at g place r = told_push r ≡ push_sound h at g place

abbrev pub RemovesSound : Heap → Slot → Outcome Heap Removed → Type 0
RemovesSound h s r = told_remove r ≡ remove_sound h s

abbrev pub PopsSound : Heap → Outcome Heap (Option Removed) → Type 0
PopsSound h r = told_pop r ≡ pop_sound h

abbrev pub PeeksSound : Heap → Option Entry → Type 0
PeeksSound h r = said_peek (Ok r) ≡ peek_sound h
