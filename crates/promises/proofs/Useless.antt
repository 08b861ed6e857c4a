-- The useless engines do not meet the statement: a short trace refutes each. Where an answer is wrong, it stands before the one that it
-- must be; where a turn or an advance is wrong, it reports a handle no time where the ledger asks for one, or the other way round.
-- Assumes nothing.
use mathlib.Core.Path.{◌≡◌, refl, sym, ap, ◌∙◌}
use mathlib.Core.Bool.{true, false}
use mathlib.Core.Option.{Option, none, some}
use mathlib.Core.List.{List, [], ◌∷◌, filter_map}
use Prim.Native.Nat.{ℕ, ◌<◌, ◌^◌}
use native.Mathlib.Omega.{arith}
use native.Mathlib.Decide.{ℕ_discrete}
use lib.ListN.{replicate}
use borrow.Author.Tests.{eq-eqb}
use Rattle.theory.specs.Tests.{bit}
use Rattle.theory.specs.First.{first_bad}
use Rattle.theory.specs.Update.{upd}
use Rattle.theory.specs.Occurs as Occurs
use Rattle.theory.proofs.Update.{upd_all}
use Rattle.refusals.specs.declared.fault.Fault.TheVariants.{Place}
use Rattle.refusals.specs.Answer.{Answer, accepted, refused, unsound}
use Rattle.heap.specs.Capacity.{cap}
use Rattle.heap.specs.Rules.{put_at, up_from, taken_of, added_of, pushed_of, vacated_of, filled_of, removed_of}
use Rattle.heap.specs.Calls.{push_sound, remove_sound, pop_sound}
use Rattle.interval.specs.declared.Policy.TheVariants.{Burst}
use Rattle.state.specs.declared.Handle.{Handle}
use Rattle.state.specs.Handles.{handle_discrete}
use Rattle.moves.specs.Rules.{touched_of, taken, lowest_free, settled_of, drain_from, due_by, rung_of, ring_from, advanced_of, unlist_from, closed_of}
use Rattle.timers.specs.declared.Call.{Call}
use Rattle.timers.specs.declared.Call.TheVariants as C
use Rattle.timers.specs.Values.{Value, nothing, handle, counts, wake, polled, time}
use Rattle.timers.specs.Calls as Set
use Rattle.promises.specs.Bench.{◌with_use◌, same_numbers, code}
use Rattle.promises.specs.Turns.{Ledger, blank, begun, at, owed, note, taken_in, Least, next, from, run, Bounded, Meets, every}
use Rattle.laws.specs.Unguarded.{unguarded}
use Rattle.promises.proofs.Meeting.{wake_after_turn}
use Rattle.promises.specs.Useless.{refusing, complaining, full, deaf, clogged, unclosed, nameless, repeating, reopened, freeing, pending, eager, idle, undrained, roomless, mute, stuck, heedless, asleep, dozing, restless, scribbling, hasty}

-- a list of just enough room
abbrev room : List ℕ
room = replicate cap 0

-- none where there must be one, and one where there must be none
differ : ◌≡◌ {A = ℕ} 0 1 → ⊥
differ e = omega arith

-- numbers are the same as themselves, so two answers that are told apart by their numbers are not one
same_self : (ns : List ℕ) → same_numbers ns ns ≡ true
same_self [] = refl
same_self (n ∷ ns) = rw (eq-eqb n n refl, same_self ns)

unlike : (a b : Answer Value) → same_numbers (code a) (code b) ≡ false → a ≡ b → ⊥
unlike a b n e = differ (ap bit (sym n ∙ ap (λ x. same_numbers (code a) (code x)) (sym e) ∙ same_self (code a)))

-- no next wake was answered, and 0:0 is owed
no_wake : (L : Ledger) (t : Option ℕ) → accepted (wake none) ≡ accepted (wake t) → owed (L.line (0 with_use 0)) ≡ true → Least L t → ⊥
no_wake L none e o f = differ (ap bit (sym (f (0 with_use 0)) ∙ o))
no_wake L (some t) e o f = let z : ◌≡◌ {A = ℕ} 0 1 = cc in differ z

-- add 10: it must be given 0:0, and is refused
pub refusing_fails : Meets refusing every → ⊥
unfolding from taken_in first_bad
refusing_fails m = unlike (refused 2) (accepted (handle (0 with_use 0))) refl ((m [] refl).answers (C.Add 10) [] refl)

-- add 10: it must be given 0:0, and is refused
pub complaining_fails : Meets complaining every → ⊥
unfolding from taken_in first_bad
complaining_fails m = unlike (unsound (Place 0)) (accepted (handle (0 with_use 0))) refl ((m [] refl).answers (C.Add 10) [] refl)

-- add 10: it must be given 0:0, and is refused
pub full_fails : Meets full every → ⊥
unfolding from taken_in first_bad
full_fails m = unlike (refused 4) (accepted (handle (0 with_use 0))) refl ((m [] refl).answers (C.Add 10) [] refl)

-- add 10, cancel 0:0: 0:0 is live, and the cancel is refused
pub deaf_fails : Meets deaf every → ⊥
unfolding note next from upd ℕ_discrete handle_discrete unguarded touched_of taken lowest_free first_bad
deaf_fails m = unlike (refused 3) (accepted nothing) refl ((m ((C.Add 10, []) ∷ []) refl).answers (C.Cancel (0 with_use 0)) [] refl)

-- drain: it is refused, and nothing was closed
pub clogged_fails : Meets clogged every → ⊥
unfolding from
clogged_fails m = unlike (refused 2) (accepted nothing) refl ((m [] refl).answers C.Drain [] refl)

-- close: it is refused, and nothing was closed
pub unclosed_fails : Meets unclosed every → ⊥
unfolding from
unclosed_fails m = unlike (refused 2) (accepted nothing) refl ((m [] refl).answers C.Close [] refl)

-- add 10: it must be given 0:0, and is given no handle
pub nameless_fails : Meets nameless every → ⊥
unfolding from taken_in unguarded taken lowest_free first_bad
nameless_fails m = unlike (accepted nothing) (accepted (handle (0 with_use 0))) refl ((m [] refl).answers (C.Add 10) [] refl)

-- add 10, add 20: the second must be given 1:0, and is given 0:0
pub repeating_fails : Meets repeating every → ⊥
unfolding note next from upd ℕ_discrete handle_discrete taken_in unguarded touched_of taken lowest_free first_bad
repeating_fails m =
    unlike (accepted (handle (0 with_use 0))) (accepted (handle (1 with_use 0))) refl
    ((m ((C.Add 10, []) ∷ []) refl).answers (C.Add 20) [] refl)

-- close, add 10: it must be refused with 2, and is given 0:0
pub reopened_fails : Meets reopened every → ⊥
unfolding note next from unguarded taken lowest_free first_bad unlist_from closed_of
reopened_fails m = unlike (accepted (handle (0 with_use 0))) (refused 2) refl ((m ((C.Close, []) ∷ []) refl).answers (C.Add 10) [] refl)

-- add 10, cancel 0:0, add 20: it must be given 1:0, since 0:0 was not drained, and is given 0:1
pub freeing_fails : Meets freeing every → ⊥
unfolding note next from upd ℕ_discrete handle_discrete taken_in unguarded touched_of taken lowest_free first_bad Set.live_at settled_of drain_from
freeing_fails m =
    unlike (accepted (handle (0 with_use 1))) (accepted (handle (1 with_use 0))) refl
    ((m ((C.Add 10, []) ∷ (C.Cancel (0 with_use 0), []) ∷ []) refl).answers (C.Add 20) [] refl)

-- add 10, turn 10, poll 0:0: it must be fired, and is pending
pub pending_fails : Meets pending every → ⊥
unfolding note next from upd ℕ_discrete handle_discrete filter_map Occurs.has unguarded Set.live_at touched_of taken lowest_free settled_of drain_from due_by rung_of ring_from advanced_of push_sound remove_sound pop_sound pushed_of removed_of filled_of vacated_of added_of taken_of up_from put_at first_bad
pending_fails m =
    unlike (accepted (polled 0)) (accepted (polled 1)) refl
    ((m ((C.Add 10, room) ∷ (C.Turn 10, room) ∷ []) refl).answers (C.Poll (0 with_use 0)) [] refl)

-- add 10, tick 0:0: it has not fired, so the tick must be refused with 10, and is taken
pub eager_fails : Meets eager every → ⊥
unfolding note next from upd ℕ_discrete handle_discrete unguarded touched_of taken lowest_free first_bad Set.live_at
eager_fails m =
    unlike (accepted (time 10)) (refused 10) refl
    ((m ((C.Add 10, []) ∷ []) refl).answers (C.Tick (0 with_use 0) Burst 5 7) [] refl)

-- turn 0 with no words: it must be refused with 5, and is taken
pub roomless_fails : Meets roomless every → ⊥
unfolding from unguarded drain_from ring_from advanced_of first_bad
roomless_fails m = unlike (accepted (counts 0 0)) (refused 5) refl ((m [] refl).answers (C.Turn 0) [] refl)

-- add 10, turn 10: nothing is reported, though 0:0 is owed and due
pub mute_fails : Meets mute every → ⊥
unfolding note next from upd ℕ_discrete handle_discrete filter_map Occurs.times unguarded touched_of taken lowest_free first_bad
mute_fails m = differ (((m ((C.Add 10, room) ∷ []) refl).turns 10 room refl refl).each_once (0 with_use 0))

-- add 10, turn 10, turn 10: the second turn reports 0:0 again, though it is no longer owed
pub stuck_fails : Meets stuck every → ⊥
unfolding note next from upd ℕ_discrete handle_discrete filter_map Occurs.has Occurs.times unguarded touched_of taken lowest_free settled_of drain_from due_by rung_of ring_from advanced_of push_sound remove_sound pop_sound pushed_of removed_of filled_of vacated_of added_of taken_of up_from put_at first_bad
stuck_fails m =
    differ (sym (((m ((C.Add 10, room) ∷ (C.Turn 10, room) ∷ []) refl).turns 10 room refl refl).each_once (0 with_use 0)))

-- add 10, cancel 0:0, turn 10: 0:0 is reported, though it was cancelled
pub heedless_fails : Meets heedless every → ⊥
unfolding note next from upd ℕ_discrete handle_discrete filter_map Occurs.times unguarded Set.live_at touched_of taken lowest_free settled_of drain_from due_by rung_of ring_from advanced_of push_sound pushed_of added_of taken_of up_from put_at first_bad
heedless_fails m =
    differ (sym (((m ((C.Add 10, room) ∷ (C.Cancel (0 with_use 0), room) ∷ []) refl).turns 10 room refl refl).each_once (0 with_use 0)))

-- add 10, turn 10: 0:0 is not drained, so it is not reported, though it is owed and due
pub undrained_fails : Meets undrained every → ⊥
unfolding note next from upd ℕ_discrete handle_discrete filter_map Occurs.times unguarded touched_of taken lowest_free ring_from advanced_of first_bad
undrained_fails m = differ (((m ((C.Add 10, room) ∷ []) refl).turns 10 room refl refl).each_once (0 with_use 0))

-- add 10, turn 9: 0:0 is reported, though it is not due
pub hasty_fails : Meets hasty every → ⊥
unfolding note next from upd ℕ_discrete handle_discrete filter_map Occurs.times unguarded touched_of taken lowest_free settled_of drain_from due_by rung_of ring_from advanced_of push_sound pushed_of added_of taken_of up_from put_at first_bad
hasty_fails m = differ (sym (((m ((C.Add 10, room) ∷ []) refl).turns 9 room refl refl).each_once (0 with_use 0)))

-- the premise: after an add there are no resets
added_low : (h : Handle) → ((at (0 with_use 0) (begun 10) blank).line h).resets < 2 ^ 30
added_low =
    upd_all handle_discrete blank.line (0 with_use 0) (begun 10 (blank.line (0 with_use 0))) (λ h l. l.resets < 2 ^ 30)
    (omega arith)
    (λ h n. omega arith)

-- add 10, drain, advance 10: nothing is reported, though 0:0 is owed, due and drained
pub idle_fails : Meets idle every → ⊥
unfolding Bounded note next from upd ℕ_discrete handle_discrete filter_map Occurs.times unguarded touched_of taken lowest_free ring_from advanced_of first_bad
idle_fails m =
    let cs : List (Call × List ℕ) = (C.Add 10, room) ∷ (C.Drain, room) ∷ [] in
    let low : Bounded idle (run idle []) cs = ((λ h. omega arith), (added_low, (λ h. omega arith))) in
    differ (((m cs refl).advances 10 room refl low refl).each_once (0 with_use 0))

-- add 10, turn 9: none is answered as the next wake, though 0:0 is owed
pub asleep_fails : Meets asleep every → ⊥
unfolding Bounded note next from upd ℕ_discrete handle_discrete filter_map Occurs.has unguarded touched_of taken lowest_free settled_of drain_from due_by ring_from advanced_of push_sound pushed_of added_of taken_of up_from put_at first_bad
asleep_fails m =
    let cs : List (Call × List ℕ) = (C.Add 10, room) ∷ [] in
    let low : Bounded asleep (run asleep []) cs = ((λ h. omega arith), added_low) in
    let w = wake_after_turn asleep every m cs refl refl low 9 room [] refl refl refl in
    no_wake (run asleep ((C.Add 10, room) ∷ (C.Turn 9, room) ∷ [])).ledger w.0 w.1 refl w.2

-- add 10, drain: none is answered as the next wake, though 0:0 is owed and drained
pub dozing_fails : Meets dozing every → ⊥
unfolding note next from upd ℕ_discrete handle_discrete unguarded touched_of taken lowest_free settled_of drain_from push_sound pushed_of added_of taken_of up_from put_at first_bad
dozing_fails m =
    let w = (m ((C.Add 10, room) ∷ (C.Drain, room) ∷ []) refl).in_time (0 with_use 0) [] refl refl refl in
    unlike (accepted (wake none)) (accepted (wake (some w.0))) refl w.1

-- next wake of the fresh engine: 0 is answered, though nothing is owed
pub restless_fails : Meets restless every → ⊥
unfolding Bounded from unguarded first_bad
restless_fails m = let w = (m [] refl).wakes [] refl (λ h. omega arith) refl (λ h. refl) in early w.0 w.1 w.2
  where
    early : (t : Option ℕ) → accepted (wake (some 0)) ≡ accepted (wake t) → Least blank t → ⊥
    early none e f = unlike (accepted (wake (some 0))) (accepted (wake none)) refl e
    early (some t) e f = differ (ap bit f.0.1)

-- a turn with a list of one word: it is refused, and the word is gone
pub scribbling_fails : Meets scribbling every → ⊥
unfolding from unguarded first_bad
scribbling_fails m = differ ((m [] refl).lends (C.Turn 0) (7 ∷ []) refl).0
