-- No public function on the heap has a second answer: neither another heap nor another word about it.
-- Assumes nothing.
use mathlib.Core.Path.{◌≡◌, refl}
use mathlib.Core.Bool.{Bool}
use mathlib.Core.Option as Core
use Prim.Native.Nat.{ℕ}
use Rattle.std.specs.Prelude.{Option, Some, None, Ok}
use Rattle.theory.specs.Promise.{NoSecond, TellsApart}
use Rattle.theory.proofs.Promise.{by_rule, plain_apart, undone_apart}
use Rattle.refusals.specs.declared.outcome.Outcome.{Outcome}
use Rattle.refusals.specs.Faults.{said_verdict}
use Rattle.refusals.specs.Answer.{Answer, value_or}
use Rattle.refusals.proofs.Apart.{said_by_apart, told_by_apart, verdict_apart}
use Rattle.heap.specs.Capacity.{cap}
use Rattle.heap.specs.declared.Slot.{Slot}
use Rattle.heap.specs.declared.Place.{Place}
use Rattle.heap.specs.declared.Entry.{Entry}
use Rattle.heap.specs.declared.Heap.{Heap}
use Rattle.heap.specs.declared.Pushed.{Pushed}
use Rattle.heap.specs.declared.Removed.{Removed}
use Rattle.heap.specs.Rules.{no_entry, before}
use Rattle.heap.specs.Faults.{fault_of, consistent_of}
use Rattle.heap.specs.Calls.{fresh_of, height_of, Off, push_of, remove_of, pop_of, peek_of, push_sound, remove_sound, pop_sound, peek_sound, off_by, head_by, said_peek, told_push, told_remove, told_pop}
use Rattle.heap.specs.Promises.{Capacity, Before, Fresh, Heights, Faults, Consistent, Pushes, Removes, Pops, Peeks, PushesSound, RemovesSound, PopsSound, PeeksSound}

-- the push that says this
abbrev pushed_by : Slot × ℕ → Pushed
pushed_by v = record { slot = v.0; swaps = v.1 }

-- the removal that says this; none says nothing
abbrev removed_by : Off → Removed
removed_by Core.none = record { entry = no_entry; swaps = 0 }
removed_by (Core.some v) = record { entry = v.0; swaps = v.1 }

-- what was popped, where this is said of it
abbrev popped_by : Off → Option Removed
popped_by Core.none = None
popped_by (Core.some v) = Some (record { entry = v.0; swaps = v.1 })

popped_back : (r : Option Removed) → popped_by (off_by r) ≡ r
popped_back None = refl
popped_back (Some r) = refl

-- the head, where this is said of it
abbrev peeked_by : Core.Option Entry → Option Entry
peeked_by Core.none = None
peeked_by (Core.some e) = Some e

peeked_back : (r : Option Entry) → peeked_by (head_by r) ≡ r
peeked_back None = refl
peeked_back (Some e) = refl

-- what is said of a peek tells any two answers apart
pub peek_apart : TellsApart said_peek
peek_apart = said_by_apart head_by peeked_by peeked_back

-- what is said of the head of a sound heap too
pub head_apart : TellsApart (λ (r : Option Entry). said_peek (Ok r))
head_apart = undone_apart (λ (r : Option Entry). said_peek (Ok r)) (λ (a : Answer (Core.Option Entry)). peeked_by (value_or Core.none a)) peeked_back

-- the heap handed back and what is said tell any two answers of a push apart
pub push_apart : TellsApart told_push
push_apart = told_by_apart (λ (r : Pushed). (r.slot, r.swaps)) pushed_by (λ r. refl)

-- and any two answers of a removal
pub remove_apart : TellsApart told_remove
remove_apart = told_by_apart (λ (r : Removed). Core.some (r.entry, r.swaps)) removed_by (λ r. refl)

-- and of a pop
pub pop_apart : TellsApart told_pop
pop_apart = told_by_apart off_by popped_by popped_back

pub capacity_no_second : NoSecond (λ (q : Unit {0}) (r : ℕ). Capacity r)
capacity_no_second = by_rule (λ (r : ℕ). r) (λ (q : Unit {0}). cap) plain_apart

pub before_no_second : NoSecond (λ (q : Entry × Entry) (r : Bool). Before q.0 q.1 r)
before_no_second = by_rule (λ (r : Bool). r) (λ (q : Entry × Entry). before q.0 q.1) plain_apart

pub height_no_second : NoSecond Heights
height_no_second = by_rule (λ (r : ℕ). r) height_of plain_apart

pub fresh_no_second : NoSecond (λ (q : Unit {0}) (r : Heap). Fresh r)
fresh_no_second = by_rule (λ (r : Heap). r) (λ (q : Unit {0}). fresh_of) plain_apart

pub first_fault_no_second : NoSecond Faults
first_fault_no_second = by_rule said_verdict fault_of verdict_apart

pub consistent_no_second : NoSecond Consistent
consistent_no_second = by_rule (λ (r : Bool). r) consistent_of plain_apart

pub push_no_second : NoSecond (λ (q : Heap × ℕ × ℕ × Place) (r : Outcome Heap Pushed). Pushes q.0 q.1 q.2 q.3 r)
push_no_second = by_rule told_push (λ (q : Heap × ℕ × ℕ × Place). push_of q.0 q.1 q.2 q.3) push_apart

pub remove_no_second : NoSecond (λ (q : Heap × Slot) (r : Outcome Heap Removed). Removes q.0 q.1 r)
remove_no_second = by_rule told_remove (λ (q : Heap × Slot). remove_of q.0 q.1) remove_apart

pub pop_no_second : NoSecond Pops
pop_no_second = by_rule told_pop pop_of pop_apart

pub peek_no_second : NoSecond Peeks
peek_no_second = by_rule said_peek peek_of peek_apart

-- nor have the functions that do the work on a sound heap
pub push_sound_no_second : NoSecond (λ (q : Heap × ℕ × ℕ × Place) (r : Outcome Heap Pushed). PushesSound q.0 q.1 q.2 q.3 r)
push_sound_no_second = by_rule told_push (λ (q : Heap × ℕ × ℕ × Place). push_sound q.0 q.1 q.2 q.3) push_apart

pub remove_sound_no_second : NoSecond (λ (q : Heap × Slot) (r : Outcome Heap Removed). RemovesSound q.0 q.1 r)
remove_sound_no_second = by_rule told_remove (λ (q : Heap × Slot). remove_sound q.0 q.1) remove_apart

pub pop_sound_no_second : NoSecond PopsSound
pop_sound_no_second = by_rule told_pop pop_sound pop_apart

pub peek_sound_no_second : NoSecond PeeksSound
peek_sound_no_second = by_rule (λ (r : Option Entry). said_peek (Ok r)) peek_sound head_apart
