-- The table of refusals is what is done: whatever is asked is refused with the number of the first row that holds, and where none
-- holds it is accepted.
-- Assumes nothing.
use mathlib.Core.Path.{◌≡◌, refl, sym, ap, ◌∙◌}
use mathlib.Core.Bool.{true, false}
use mathlib.Core.Option.{none, some}
use mathlib.Core.List.{List}
use Prim.Native.Nat.{ℕ}
use Rattle.theory.proofs.Tests.{none_some, is_false, true_false}
use Rattle.refusals.specs.Answer.{Answer, accepted, refused, unsound}
use Rattle.clock.specs.declared.Clock.TheVariants.{Running, Paused}
use Rattle.state.specs.declared.Set.{Set}
use Rattle.timers.specs.declared.Call.{Call}
use Rattle.timers.specs.declared.Call.TheVariants as C
use Rattle.timers.specs.Calls.{step, add_of, reset_of, cancel_of, drain_of, advance_of, turn_of, next_wake_of, poll_of, close_of, tick_at, restart_at}
use Rattle.promises.specs.Table.{Asked, heap_push, heap_remove, heap_pop, heap_peek, on_set, time_left, least_left, clock_reading, clock_pause, clock_resume, clock_advance, a_record, Gives, answer_to, refusal_in, rows_on, rows_of, held_in, rowb, in_turn, first_in, first_row, Decides}
use Rattle.promises.proofs.Refusing.Rows.{unsound_row, closed_row, dead_row, full_row, short_row, ticked_row, restarted_row}
use Rattle.promises.proofs.Refusing.RowsLeft.{time_left_row, least_left_row}
use Rattle.promises.proofs.Refusing.RowsHeap.{inconsistent_row, push_row, remove_row, pop_row, peek_row}
use Rattle.promises.proofs.Refusing.RowsClock.{reading_row, pause_row, advance_row}
use Rattle.promises.proofs.Refusing.RowsRecord.{record_row}
use Rattle.promises.proofs.Refusing.Leads.{found_leads, leads_found, none_passes, passes_none, within, held_within}

-- THE TABLE, both ways at once: the number with which what is asked is refused, or none, is that of the first row that holds, or none
pub table : (q : Asked) → refusal_in (answer_to q) ≡ first_row q
unfolding step add_of reset_of cancel_of drain_of advance_of turn_of next_wake_of poll_of close_of tick_at restart_at held_in first_in
table (heap_push h at g place) = inconsistent_row h _ _ (push_row h at g place)
table (heap_remove h s) = inconsistent_row h _ _ (λ _. remove_row h s)
table (heap_pop h) = inconsistent_row h _ _ (pop_row h)
table (heap_peek h) = peek_row h
table (on_set s (C.Add d) l) = unsound_row s s _ _ (closed_row s s _ _ (full_row s d))
table (on_set s (C.Reset h d) l) = unsound_row s s _ _ (closed_row s s _ _ (dead_row s h _ _ (λ t e f. refl)))
table (on_set s (C.Cancel h) l) = unsound_row s s _ _ (closed_row s s _ _ (dead_row s h _ _ (λ t e f. refl)))
table (on_set s C.Drain l) = unsound_row s s _ _ (closed_row s s _ _ refl)
table (on_set s (C.Advance N) l) = unsound_row s _ _ _ (closed_row s _ _ _ (short_row s l _ refl))
table (on_set s (C.Turn N) l) = unsound_row s _ _ _ (closed_row s _ _ _ (short_row s l _ refl))
table (on_set s C.NextWake l) = unsound_row s s _ _ refl
table (on_set s (C.Poll h) l) = unsound_row s s _ _ (dead_row s h _ _ (λ t e f. refl))
table (on_set s C.Close l) = unsound_row s s _ _ (closed_row s s _ _ refl)
table (on_set s (C.Tick h p period N) l) = unsound_row s s _ _ (closed_row s s _ _ (dead_row s h _ _ (ticked_row s h p period N)))
table (on_set s (C.Restart h period N) l) =
    unsound_row s s _ _ (closed_row s s _ _ (dead_row s h _ _ (λ t e f. restarted_row s h period N t)))
table (time_left s h N) = time_left_row s h N
table (least_left s N) = least_left_row s N
table (clock_reading (Running base start) raw) = reading_row base start raw
table (clock_reading (Paused base) raw) = refl
table (clock_pause (Running base start) raw) = pause_row base start raw
table (clock_pause (Paused base) raw) = refl
table (clock_resume (Running base start) raw) = refl
table (clock_resume (Paused base) raw) = refl
table (clock_advance (Running base start) d) = refl
table (clock_advance (Paused base) d) = advance_row base d
table (a_record bytes) = record_row bytes

-- an answer that does not refuse
accepted_by : {A : Type 0} (a : Answer A) → refusal_in a ≡ none → (v : A) × (a ≡ accepted v)
accepted_by (accepted v) e = (v, refl)
accepted_by (refused m) e = absurd (none_some e refl)
accepted_by (unsound f) e = absurd (none_some e refl)

-- every row of a call on a set stands in the order
set_in_turn : (s : Set) (c : Call) (l : List ℕ) → within (rows_on s c l) in_turn ≡ true
set_in_turn s (C.Add d) l = refl
set_in_turn s (C.Reset h d) l = refl
set_in_turn s (C.Cancel h) l = refl
set_in_turn s C.Drain l = refl
set_in_turn s (C.Advance N) l = refl
set_in_turn s (C.Turn N) l = refl
set_in_turn s C.NextWake l = refl
set_in_turn s (C.Poll h) l = refl
set_in_turn s C.Close l = refl
set_in_turn s (C.Tick h p period N) l = refl
set_in_turn s (C.Restart h period N) l = refl

-- and so does every row that there is
all_in_turn : (q : Asked) → within (rows_of q) in_turn ≡ true
all_in_turn (heap_push h at g place) = refl
all_in_turn (heap_remove h s) = refl
all_in_turn (heap_pop h) = refl
all_in_turn (heap_peek h) = refl
all_in_turn (on_set s c l) = set_in_turn s c l
all_in_turn (time_left s h N) = refl
all_in_turn (least_left s N) = refl
all_in_turn (clock_reading c raw) = refl
all_in_turn (clock_pause c raw) = refl
all_in_turn (clock_resume c raw) = refl
all_in_turn (clock_advance c d) = refl
all_in_turn (a_record bytes) = refl

-- what is refused with n: row n holds, and none before it
pub refused_row : (q : Asked) (n : ℕ) → refusal_in (answer_to q) ≡ some n → Decides q n
refused_row q n e = found_leads (rowb q) in_turn n (sym (table q) ∙ e)

-- row n holds, and none before it: it is refused with n
pub row_refused : (q : Asked) (n : ℕ) → Decides q n → refusal_in (answer_to q) ≡ some n
row_refused q n t = table q ∙ leads_found (rowb q) in_turn n t

-- of what is accepted no row holds
pub accepted_no_row : (q : Asked) (v : Gives q) → answer_to q ≡ accepted v → (n : ℕ) → rowb q n ≡ false
accepted_no_row q v e n =
    is_false (rowb q n)
    (λ t. true_false t
    (none_passes (rowb q) in_turn (sym (table q) ∙ ap refusal_in e) n (held_within (rows_of q) in_turn (all_in_turn q) n t)))

-- what no row holds of is accepted
pub no_row_accepted : (q : Asked) → ((n : ℕ) → rowb q n ≡ false) → (v : Gives q) × (answer_to q ≡ accepted v)
no_row_accepted q h = accepted_by (answer_to q) (table q ∙ passes_none (rowb q) in_turn (λ n i. h n))
