-- The table of refusals, RULES.md section 9, for every call that it names: what can be asked, call by call the rows that can refuse it, each
-- with its condition of Conditions.antt, and the order in which rows are asked. That all this is refused by it and by nothing else is
-- `table` in proofs/Table.antt.
-- Assumes nothing.
use Rattle.std.specs.Prelude.{◌≡◌, Bool, true, false, cond, List, [], ◌∷◌, ◌++◌, ℕ, ◌+◌, eqb, ℤ}
use Rattle.std.proofs.Math.Option.{Option, none, some}
use Rattle.theory.specs.Counting.{Mem}
use Rattle.refusals.specs.declared.fault.Fault.{Fault}
use Rattle.refusals.specs.Answer.{Answer, accepted, refused, unsound, Nothing}
use Rattle.heap.specs.declared.Slot.{Slot}
use Rattle.heap.specs.declared.Place.{Place}
use Rattle.heap.specs.declared.Entry.{Entry}
use Rattle.heap.specs.declared.Heap.{Heap}
use Rattle.heap.specs.Faults as Heap
use Rattle.heap.specs.Calls.{Off, push_of, remove_of, pop_of, peek_of}
use Rattle.clock.specs.declared.Clock.{Clock}
use Rattle.clock.specs.Rules.{reading_of, pause_of, resume_of, advance_of}
use Rattle.state.specs.declared.Set.{Set}
use Rattle.state.specs.Faults as Set
use Rattle.state.specs.declared.Handle.{Handle}
use Rattle.timers.specs.declared.Call.{Call}
use Rattle.timers.specs.declared.Call.TheVariants as C
use Rattle.timers.specs.Calls.{Value, step}
use Rattle.timers.specs.Left.{time_left_of, least_left_of}
use Rattle.records.specs.Records.{fields_of, decode_of}
use Rattle.promises.specs.Conditions.{damaged, shut, life_at, dead, full, short, due_in, not_fired, zero_period, above, tick_sum, far, least_far, inconsistent, holds_all, vacant, stopped, runs, behind, read_above, sum_above, bad}

-- WHAT IS ASKED

-- every call that the table names, with all that it is given: the heap's calls, a call on a set with the list that is lent, the two
-- queries of a set, the clock's calls, and a record to be decoded, by its bytes
pub data Asked : Type 0 where
  heap_push : Heap → ℕ → ℕ → Place → Asked
  heap_remove : Heap → Slot → Asked
  heap_pop : Heap → Asked
  heap_peek : Heap → Asked
  on_set : Set → Call → List ℕ → Asked
  time_left : Set → Handle → ℕ → Asked
  least_left : Set → ℕ → Asked
  clock_reading : Clock → ℕ → Asked
  clock_pause : Clock → ℕ → Asked
  clock_resume : Clock → ℕ → Asked
  clock_advance : Clock → ℕ → Asked
  a_record : List ℕ → Asked

-- the values that are answered where it is accepted
abbrev pub Gives : Asked → Type 0
Gives (heap_push h at g place) = Slot × ℕ
Gives (heap_remove h s) = Off
Gives (heap_pop h) = Off
Gives (heap_peek h) = Option Entry
Gives (on_set s c l) = Value
Gives (time_left s h N) = ℤ
Gives (least_left s N) = Option ℤ
Gives (clock_reading c raw) = ℕ
Gives (clock_pause c raw) = Nothing
Gives (clock_resume c raw) = Nothing
Gives (clock_advance c d) = Nothing
Gives (a_record bytes) = Call

-- the answer, by the rule that the contract of the code names
abbrev pub answer_to : (q : Asked) → Answer (Gives q)
answer_to (heap_push h at g place) = (push_of h at g place).answer
answer_to (heap_remove h s) = (remove_of h s).answer
answer_to (heap_pop h) = (pop_of h).answer
answer_to (heap_peek h) = peek_of h
answer_to (on_set s c l) = (step s c l).answer
answer_to (time_left s h N) = time_left_of s h N
answer_to (least_left s N) = least_left_of s N
answer_to (clock_reading c raw) = reading_of c raw
answer_to (clock_pause c raw) = (pause_of c raw).answer
answer_to (clock_resume c raw) = (resume_of c raw).answer
answer_to (clock_advance c d) = (advance_of c d).answer
answer_to (a_record bytes) = decode_of bytes

-- the number with which an answer refuses, or none
abbrev pub refusal_in : {A : Type 0} → Answer A → Option ℕ
refusal_in (accepted v) = none
refusal_in (refused n) = some n
refusal_in (unsound f) = some 1

-- the fault that an answer carries, or none
abbrev pub fault_in : {A : Type 0} → Answer A → Option Fault
fault_in (accepted v) = none
fault_in (refused n) = none
fault_in (unsound f) = some f

-- the first fault of what it is asked on; a clock and a record have none
abbrev pub fault_asked : Asked → Option Fault
fault_asked (heap_push h at g place) = Heap.fault_of h
fault_asked (heap_remove h s) = Heap.fault_of h
fault_asked (heap_pop h) = Heap.fault_of h
fault_asked (heap_peek h) = Heap.fault_of h
fault_asked (on_set s c l) = Set.fault_of s
fault_asked (time_left s h N) = Set.fault_of s
fault_asked (least_left s N) = Set.fault_of s
fault_asked (clock_reading c raw) = none
fault_asked (clock_pause c raw) = none
fault_asked (clock_resume c raw) = none
fault_asked (clock_advance c d) = none
fault_asked (a_record bytes) = none

-- THE TABLE

-- the calls on a set
abbrev pub rows_on : Set → Call → List ℕ → List (ℕ × Bool)
rows_on s (C.Add d) l = (1, damaged s) ∷ (2, shut s) ∷ (4, full s) ∷ []
rows_on s (C.Reset h d) l = (1, damaged s) ∷ (2, shut s) ∷ (3, dead s h) ∷ []
rows_on s (C.Cancel h) l = (1, damaged s) ∷ (2, shut s) ∷ (3, dead s h) ∷ []
rows_on s C.Drain l = (1, damaged s) ∷ (2, shut s) ∷ []
rows_on s (C.Advance N) l = (1, damaged s) ∷ (2, shut s) ∷ (5, short l) ∷ []
rows_on s (C.Turn N) l = (1, damaged s) ∷ (2, shut s) ∷ (5, short l) ∷ []
rows_on s C.NextWake l = (1, damaged s) ∷ []
rows_on s (C.Poll h) l = (1, damaged s) ∷ (3, dead s h) ∷ []
rows_on s C.Close l = (1, damaged s) ∷ (2, shut s) ∷ []
rows_on s (C.Tick h p period N) l =
    (1, damaged s) ∷ (2, shut s) ∷ (3, dead s h) ∷ (10, not_fired s h) ∷ (9, zero_period s h p period N)
    ∷ (6, above (tick_sum p (due_in (life_at s h)) period N)) ∷ []
rows_on s (C.Restart h period N) l = (1, damaged s) ∷ (2, shut s) ∷ (3, dead s h) ∷ (6, above (N + period)) ∷ []

-- call by call, the rows that can refuse it, with their conditions
abbrev pub rows_of : Asked → List (ℕ × Bool)
rows_of (heap_push h at g place) = (1, inconsistent h) ∷ (4, holds_all h) ∷ []
rows_of (heap_remove h s) = (1, inconsistent h) ∷ (11, vacant h s) ∷ []
rows_of (heap_pop h) = (1, inconsistent h) ∷ []
rows_of (heap_peek h) = (1, inconsistent h) ∷ []
rows_of (on_set s c l) = rows_on s c l
rows_of (time_left s h N) = (1, damaged s) ∷ (2, shut s) ∷ (3, dead s h) ∷ (6, far (due_in (life_at s h)) N) ∷ []
rows_of (least_left s N) = (1, damaged s) ∷ (2, shut s) ∷ (6, least_far s N) ∷ []
rows_of (clock_reading c raw) = (7, behind c raw) ∷ (6, read_above c raw) ∷ []
rows_of (clock_pause c raw) = (8, stopped c) ∷ (7, behind c raw) ∷ (6, read_above c raw) ∷ []
rows_of (clock_resume c raw) = (8, runs c) ∷ []
rows_of (clock_advance c d) = (8, runs c) ∷ (6, sum_above c d) ∷ []
rows_of (a_record bytes) = (12, bad (fields_of bytes)) ∷ []

-- the condition of row n among these; a row that is not there does not hold
unfoldable pub held_in : List (ℕ × Bool) → ℕ → Bool
held_in [] n = false
held_in (r ∷ rs) n = cond (eqb r.0 n) r.1 (held_in rs n)

-- whether row n of the table holds of what is asked
abbrev pub rowb : Asked → ℕ → Bool
rowb q n = held_in (rows_of q) n

-- where several rows hold at once, the first in this order is given
abbrev pub order : List ℕ
order = 1 ∷ 2 ∷ 3 ∷ 4 ∷ 5 ∷ 10 ∷ 9 ∷ 8 ∷ 7 ∷ 6 ∷ 11 ∷ []

-- refusal 12 is not in that order: it is decided from the record alone, before the engine is asked. A record has no other row
abbrev pub in_turn : List ℕ
in_turn = 12 ∷ order

-- the first number of a list that passes a test, or none
unfoldable pub first_in : (ℕ → Bool) → List ℕ → Option ℕ
first_in f [] = none
first_in f (n ∷ l) = cond (f n) (some n) (first_in f l)

-- the number n of a list passes the test, and none before it does
pub record Leads (f : ℕ → Bool) (l : List ℕ) (n : ℕ) : Type 0 where
  pub before : List ℕ
  pub after : List ℕ
  pub stands : l ≡ before ++ (n ∷ after)
  pub holds : f n ≡ true
  pub none_before : (m : ℕ) → Mem m before → f m ≡ false

-- the number with which the table refuses what is asked, or none
abbrev pub first_row : Asked → Option ℕ
first_row q = first_in (rowb q) in_turn

-- row n holds of what is asked, and no row before it does
abbrev pub Decides : Asked → ℕ → Type 0
Decides q n = Leads (rowb q) in_turn n
