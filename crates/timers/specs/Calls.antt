-- The rules of the calls: what each makes of any set, its refusals in their order, and `step`, which is all of them.
-- Assumes nothing.
use Rattle.std.specs.Prelude as Std
use Rattle.std.specs.Prelude.{Bool, cond, ◌&&◌, List, [], ◌∷◌, ℕ, ltb, leb, eqb, length, Result, ⊤}
use Rattle.std.proofs.Math.Option.{Option, none, some}
use Rattle.refusals.specs.declared.fault.Fault.{Fault}
use Rattle.refusals.specs.declared.Refusal.{Refusal}
use Rattle.refusals.specs.declared.Refusal.TheVariants.{Unsound, Closed, DeadHandle, Full, ShortList, NotFired}
use Rattle.refusals.specs.Answer.{Answer, accepted, refused, unsound, refuse, Outcome, Nothing, kept}
use Rattle.refusals.specs.declared.outcome.Outcome as Code
use Rattle.refusals.specs.Outcomes.{said_by, told_by}
use Rattle.heap.specs.Capacity.{cap}
use Rattle.heap.specs.declared.Entry.{Entry}
use Rattle.heap.specs.Calls.{peek_sound}
use Rattle.word.specs.Rules as Word
use Rattle.interval.specs.declared.Policy.{Policy}
use Rattle.interval.specs.Rules.{tick_of, restart_of}
use Rattle.state.specs.declared.Life.{Life}
use Rattle.state.specs.declared.Set.{Set}
use Rattle.state.specs.declared.Handle.{Handle}
use Rattle.state.specs.State.{timer_at}
use Rattle.state.specs.Faults.{fault_of}
pub use Rattle.timers.specs.Values.{Value, nothing, handle, counts, wake, polled, time}
use Rattle.timers.specs.declared.Call.{Call}
use Rattle.timers.specs.declared.Call.TheVariants as C
pub use Rattle.timers.specs.declared.Timing.{Timing}
use Rattle.timers.specs.declared.Reply.{Reply}
use Rattle.timers.specs.declared.Reply.TheVariants as R
use Rattle.moves.specs.Rules.{touched_of, lowest_free, drained_of, Ring, advanced_of, closed_of}

-- a set with the list that was lent
pub record Lent : Type 0 where
  pub set : Set
  pub list : List ℕ

abbrev pub gives : {S : Type 0} → S → Value → Outcome S Value
gives s v = record { state = s; answer = accepted v }

abbrev pub refusing : {S : Type 0} → S → Refusal → Outcome S Value
refusing s r = kept s (refuse r)

-- a call begins with the test of soundness: an unsound set is refused with 1 and its first fault
abbrev pub judged : {A : Type 0} → Option Fault → A → (Fault → A) → A
judged none o f = o
judged (some x) o f = f x

unfoldable pub guarded : {S : Type 0} → Set → S → Outcome S Value → Outcome S Value
guarded s k o = judged (fault_of s) o (λ x. refusing k (Unsound x))

-- then a closed set is refused with 2
abbrev pub opened : {S : Type 0} → Set → S → Outcome S Value → Outcome S Value
opened s k o = cond s.closed (refusing k Closed) o

-- what the two tests say to a call
unfoldable pub guard_of : Set → Answer Nothing
guard_of s = judged (fault_of s) (accepted tt) (λ x. refuse (Unsound x))

unfoldable pub open_of : Set → Answer Nothing
open_of s = judged (fault_of s) (cond s.closed (refuse Closed) (accepted tt)) (λ x. refuse (Unsound x))

-- the word and the deadline of a live timer
abbrev pub timing_of : Life → Option Timing
timing_of Life.Free = none
timing_of (Life.Live w d) = some (record { word = w; due = d })
timing_of (Life.Cancelled w) = none
timing_of Life.Retired = none

-- of a handle: none where it is dead, that is its place is out of range, free, retired or cancelled, or has another use number
unfoldable pub live_at : Set → Handle → Option Timing
live_at s h = cond (ltb h.place.0 cap && eqb (timer_at s h.place.0).uses h.uses) (timing_of (timer_at s h.place.0).life) none

-- a dead handle is refused with 3
abbrev pub alive : Set → Option Timing → (Timing → Outcome Set Value) → Outcome Set Value
alive s none f = refusing s DeadHandle
alive s (some t) f = f t

-- what a handle says to a call: refused with 3 where it is dead, and else its timer
abbrev pub living : Option Timing → Answer Timing
living none = refuse DeadHandle
living (some t) = accepted t

-- what the door says to a call on a handle: an unsound set is refused with 1, a barred one with 2, a dead handle with 3. A set is
-- barred where it is closed; to a call that a closed set answers too it never is
unfoldable pub door_of : Bool → Set → Handle → Answer Timing
door_of barred s h = judged (fault_of s) (cond barred (refuse Closed) (living (live_at s h))) (λ x. refuse (Unsound x))

-- ADD: the lowest free place, word 0, the deadline, pushed on the list; refused with 4 where no place is free
abbrev pub added_at : Set → ℕ → Option ℕ → Outcome Set Value
added_at s d none = refusing s Full
added_at s d (some p) =
    gives (touched_of s p (Life.Live 0 d)) (handle (record { place = record { 0 = p }; uses = (timer_at s p).uses }))

unfoldable pub add_of : Set → ℕ → Outcome Set Value
add_of s d = guarded s s (opened s s (added_at s d (lowest_free s)))

-- RESET: the word goes up by 4, wrapping, with both low bits cleared; the deadline is set; pushed on the list
abbrev pub reset_to : Set → Handle → ℕ → Timing → Set
reset_to s h d t = touched_of s h.place.0 (Life.Live (Word.reset_of t.word) d)

unfoldable pub reset_of : Set → Handle → ℕ → Outcome Set Value
reset_of s h d = guarded s s (opened s s (alive s (live_at s h) (λ t. gives (reset_to s h d t) nothing)))

-- CANCEL: the handle is dead at once, the deadline gone, the timer pushed on the list
unfoldable pub cancel_of : Set → Handle → Outcome Set Value
cancel_of s h =
    guarded s s (opened s s (alive s (live_at s h) (λ t. gives (touched_of s h.place.0 (Life.Cancelled t.word)) nothing)))

-- DRAIN
unfoldable pub drain_of : Set → Outcome Set Value
drain_of s = guarded s s (opened s s (gives (drained_of s) nothing))

-- ADVANCE and TURN: a report list shorter than the capacity is refused with 5, untouched
abbrev pub lent : Set → List ℕ → Lent
lent s l = record { set = s; list = l }

abbrev pub rang : Ring → Outcome Lent Value
rang r = gives (lent r.set r.list) (counts r.reported r.popped)

abbrev pub roomy : Set → List ℕ → Outcome Lent Value → Outcome Lent Value
roomy s l o = cond (leb cap (length l)) o (refusing (lent s l) ShortList)

unfoldable pub advance_of : Set → ℕ → List ℕ → Outcome Lent Value
advance_of s N l = guarded s (lent s l) (opened s (lent s l) (roomy s l (rang (advanced_of s N l))))

-- a turn is a drain, then an advance
unfoldable pub turn_of : Set → ℕ → List ℕ → Outcome Lent Value
turn_of s N l = guarded s (lent s l) (opened s (lent s l) (roomy s l (rang (advanced_of (drained_of s) N l))))

-- NEXT WAKE: the head's deadline, or none
abbrev pub wake_by : Answer (Option Entry) → Option ℕ
wake_by (accepted none) = none
wake_by (accepted (some e)) = some e.at
wake_by (refused n) = none
wake_by (unsound x) = none

unfoldable pub next_wake_of : Set → Outcome Set Value
next_wake_of s = guarded s s (gives s (wake (wake_by (peek_sound s.heap))))

-- POLL
abbrev pub poll_by : Answer ℕ → ℕ
poll_by (accepted n) = n
poll_by (refused n) = n
poll_by (unsound x) = 0

unfoldable pub poll_of : Set → Handle → Outcome Set Value
poll_of s h = guarded s s (alive s (live_at s h) (λ t. gives s (polled (poll_by (Word.poll_of t.word)))))

-- CLOSE
unfoldable pub close_of : Set → Outcome Set Value
close_of s = guarded s s (opened s s (gives (closed_of s) nothing))

-- TICK: of a timer that has fired, else refused with 10; then as the interval's rule is, with 9 or 6. Answers the old deadline and
-- makes a reset to the next one
abbrev pub ticked_by : Set → Handle → Timing → Answer ℕ → Outcome Set Value
ticked_by s h t (accepted d) = gives (reset_to s h d t) (time t.due)
ticked_by s h t (refused n) = kept s (refused n)
ticked_by s h t (unsound x) = kept s (unsound x)

abbrev pub ticked : Set → Handle → Policy → ℕ → ℕ → Timing → Outcome Set Value
ticked s h p period N t = cond (Word.fired_in t.word) (ticked_by s h t (tick_of p t.due period N)) (refusing s NotFired)

unfoldable pub tick_at : Set → Handle → Policy → ℕ → ℕ → Outcome Set Value
tick_at s h p period N = guarded s s (opened s s (alive s (live_at s h) (ticked s h p period N)))

-- INTERVAL RESET: a reset to N + period, fired or not
abbrev pub restarted_by : Set → Handle → Timing → Answer ℕ → Outcome Set Value
restarted_by s h t (accepted d) = gives (reset_to s h d t) nothing
restarted_by s h t (refused n) = kept s (refused n)
restarted_by s h t (unsound x) = kept s (unsound x)

unfoldable pub restart_at : Set → Handle → ℕ → ℕ → Outcome Set Value
restart_at s h period N = guarded s s (opened s s (alive s (live_at s h) (λ t. restarted_by s h t (restart_of period N))))

-- ONE STEP: any call, on a set and a lent list, which only an advance and a turn write to
abbrev pub with_list : List ℕ → Outcome Set Value → Outcome Lent Value
with_list l o = record { state = lent o.state l; answer = o.answer }

unfoldable pub step : Set → Call → List ℕ → Outcome Lent Value
step s (C.Add d) l = with_list l (add_of s d)
step s (C.Reset h d) l = with_list l (reset_of s h d)
step s (C.Cancel h) l = with_list l (cancel_of s h)
step s C.Drain l = with_list l (drain_of s)
step s (C.Advance N) l = advance_of s N l
step s (C.Turn N) l = turn_of s N l
step s C.NextWake l = with_list l (next_wake_of s)
step s (C.Poll h) l = with_list l (poll_of s h)
step s C.Close l = with_list l (close_of s)
step s (C.Tick h p period N) l = with_list l (tick_at s h p period N)
step s (C.Restart h period N) l = with_list l (restart_at s h period N)

-- the set after a list of calls, each with the list that was lent for it, the first call first
abbrev pub after : List (Call × List ℕ) → Set → Set
after [] s = s
after (c ∷ cs) s = after cs (step s c.0 c.1).state.set

-- what the code's guards, doors and replies say
abbrev pub said_guard : Result ⊤ Refusal → Answer Nothing
said_guard = said_by (λ (u : ⊤). u)

abbrev pub said_door : Result Timing Refusal → Answer Timing
said_door = said_by (λ (t : Timing). t)

abbrev pub wake_of : Std.Option ℕ → Option ℕ
wake_of Std.None = none
wake_of (Std.Some t) = some t

abbrev pub value_of : Reply → Value
value_of (R.Added h) = handle h
value_of R.Done = nothing
value_of (R.Ran n m) = counts n m
value_of (R.Wake t) = wake (wake_of t)
value_of (R.Found p) = polled (poll_by (Word.said p))
value_of (R.Ticked t) = time t

abbrev pub said : Result Reply Refusal → Answer Value
said = said_by value_of

-- the set handed back, and what is said; with the lent list as it is then
abbrev pub told : Code.Outcome Set Reply → Outcome Set Value
told = told_by value_of

abbrev pub told_with : Code.Outcome Set Reply → List ℕ → Outcome Lent Value
told_with r l = record { state = lent r.state l; answer = said r.answer }
