-- Refusal 1 comes with the first fault of what was asked on, and with no other: an answer carries the fault that the test finds, and
-- none where it finds none.
-- Assumes nothing.
use mathlib.Core.Path.{◌≡◌, refl, ◌∙◌}
use mathlib.Core.Bool.{false}
use mathlib.Core.Option.{Option, none, some}
use mathlib.Core.List.{List}
use Prim.Native.Nat.{ℕ}
use Rattle.theory.proofs.Tests.{true_false}
use Rattle.refusals.specs.declared.fault.Fault.{Fault}
use Rattle.refusals.specs.Answer.{Answer, accepted, refused, unsound, Outcome}
use Rattle.heap.specs.declared.Heap.{Heap}
use Rattle.heap.specs.Faults as Heap
use Rattle.heap.specs.Calls as Heaps
use Rattle.state.specs.declared.Set.{Set}
use Rattle.state.specs.declared.Handle.{Handle}
use Rattle.state.specs.Faults as Set
use Rattle.timers.specs.declared.Call.{Call}
use Rattle.timers.specs.declared.Call.TheVariants as C
use Rattle.timers.specs.Calls.{Value, lent, guarded, door_of, step, add_of, reset_of, cancel_of, drain_of, advance_of, turn_of, next_wake_of, poll_of, close_of, tick_at, restart_at}
use Rattle.timers.specs.Left.{time_left_of, least_left_of}
use Rattle.promises.specs.Conditions.{damaged, inconsistent}
use Rattle.promises.specs.Table.{Asked, heap_push, heap_remove, heap_pop, heap_peek, on_set, time_left, least_left, clock_reading, clock_pause, clock_resume, clock_advance, a_record, answer_to, refusal_in, fault_in, fault_asked, held_in, rowb}
use Rattle.promises.proofs.Table.{refused_row}

-- an answer that is not refused with 1 carries none
no_fault : {A : Type 0} (a : Answer A) → (refusal_in a ≡ some 1 → ⊥) → fault_in a ≡ none
no_fault (accepted v) h = refl
no_fault (refused n) h = refl
no_fault (unsound f) h = absurd (h refl)

-- nor does what row 1 does not hold of
no_row : (q : Asked) → rowb q 1 ≡ false → fault_in (answer_to q) ≡ none
no_row q e = no_fault (answer_to q) (λ r. true_false (refused_row q 1 r).holds e)

-- OF A SET

-- row 1 of any call
first_row_lem : (s : Set) (c : Call) (l : List ℕ) → rowb (on_set s c l) 1 ≡ damaged s
unfolding held_in
first_row_lem s (C.Add d) l = refl
first_row_lem s (C.Reset h d) l = refl
first_row_lem s (C.Cancel h) l = refl
first_row_lem s C.Drain l = refl
first_row_lem s (C.Advance N) l = refl
first_row_lem s (C.Turn N) l = refl
first_row_lem s C.NextWake l = refl
first_row_lem s (C.Poll h) l = refl
first_row_lem s C.Close l = refl
first_row_lem s (C.Tick h p period N) l = refl
first_row_lem s (C.Restart h period N) l = refl

-- no fault, and row 1 does not hold
whole : (s : Set) → Set.fault_of s ≡ none → damaged s ≡ false
unfolding Set.sound_of
whole s e = rw e refl

module _ (s : Set) (y : Fault) (e : Set.fault_of s ≡ some y) where
  -- a call stops at the test
  stops : {S : Type 0} (k : S) (o : Outcome S Value) → fault_in (guarded s k o).answer ≡ some y
  unfolding guarded
  stops k o = rw e refl

  call_told : (c : Call) (l : List ℕ) → fault_in (step s c l).answer ≡ some y
  unfolding step add_of reset_of cancel_of drain_of advance_of turn_of next_wake_of poll_of close_of tick_at restart_at
  call_told (C.Add d) l = stops s _
  call_told (C.Reset h d) l = stops s _
  call_told (C.Cancel h) l = stops s _
  call_told C.Drain l = stops s _
  call_told (C.Advance N) l = stops (lent s l) _
  call_told (C.Turn N) l = stops (lent s l) _
  call_told C.NextWake l = stops s _
  call_told (C.Poll h) l = stops s _
  call_told C.Close l = stops s _
  call_told (C.Tick h p period N) l = stops s _
  call_told (C.Restart h period N) l = stops s _

  left_told : (h : Handle) (N : ℕ) → fault_in (time_left_of s h N) ≡ some y
  unfolding time_left_of door_of
  left_told h N = rw e refl

  least_told : (N : ℕ) → fault_in (least_left_of s N) ≡ some y
  unfolding least_left_of
  least_told N = rw e refl

-- OF A HEAP

consistent_whole : (h : Heap) → Heap.fault_of h ≡ none → inconsistent h ≡ false
unfolding Heap.consistent_of
consistent_whole h e = rw e refl

module _ (h : Heap) (y : Fault) (e : Heap.fault_of h ≡ some y) where
  heap_told : {A : Type 0} (o : Outcome Heap A) → fault_in (Heaps.guarded h o).answer ≡ some y
  unfolding Heaps.guard_of
  heap_told o = rw e refl

  peek_told : fault_in (Heaps.peek_of h) ≡ some y
  unfolding Heaps.guard_of
  peek_told = rw e refl

-- by what the test finds
by_test : (q : Asked) (o : Option Fault) → (o ≡ none → rowb q 1 ≡ false) → ((y : Fault) → o ≡ some y → fault_in (answer_to q) ≡ some y)
    → fault_in (answer_to q) ≡ o
by_test q none n s = no_row q (n refl)
by_test q (some y) n s = s y refl

-- THE FAULT of any refusal with 1
pub faults : (q : Asked) → fault_in (answer_to q) ≡ fault_asked q
unfolding held_in
faults (heap_push h at g place) =
    by_test (heap_push h at g place) (Heap.fault_of h) (consistent_whole h) (λ y e. heap_told h y e (Heaps.push_sound h at g place))
faults (heap_remove h s) = by_test (heap_remove h s) (Heap.fault_of h) (consistent_whole h) (λ y e. heap_told h y e (Heaps.remove_sound h s))
faults (heap_pop h) = by_test (heap_pop h) (Heap.fault_of h) (consistent_whole h) (λ y e. heap_told h y e (Heaps.pop_sound h))
faults (heap_peek h) = by_test (heap_peek h) (Heap.fault_of h) (consistent_whole h) (peek_told h)
faults (on_set s c l) =
    by_test (on_set s c l) (Set.fault_of s) (λ e. first_row_lem s c l ∙ whole s e) (λ y e. call_told s y e c l)
faults (time_left s h N) = by_test (time_left s h N) (Set.fault_of s) (whole s) (λ y e. left_told s y e h N)
faults (least_left s N) = by_test (least_left s N) (Set.fault_of s) (whole s) (λ y e. least_told s y e N)
faults (clock_reading c raw) = no_row (clock_reading c raw) refl
faults (clock_pause c raw) = no_row (clock_pause c raw) refl
faults (clock_resume c raw) = no_row (clock_resume c raw) refl
faults (clock_advance c d) = no_row (clock_advance c d) refl
faults (a_record bytes) = no_row (a_record bytes) refl
