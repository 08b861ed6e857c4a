-- No call on a set of timers has a second answer: neither another set, nor another word about it, nor another list. Nor has either query.
-- Assumes nothing.
use mathlib.Core.Path.{◌≡◌, refl}
use mathlib.Core.Option.{Option, none, some}
use mathlib.Core.List.{List, [], ◌∷◌}
use Prim.Native.Nat.{ℕ}
use lib.ListN.{get_or}
use lib.IntN.{ℤ}
use Rattle.std.specs.Prelude as Std
use Rattle.std.specs.Prelude.{Result, Some, None}
use Rattle.theory.specs.Promise.{NoSecond, TellsApart}
use Rattle.theory.proofs.Promise.{by_rule, undone_apart}
use Rattle.refusals.specs.declared.Refusal.{Refusal}
use Rattle.refusals.specs.declared.outcome.Outcome as Code
use Rattle.refusals.specs.Answer.{Outcome}
use Rattle.refusals.specs.Times.{said_left}
use Rattle.refusals.proofs.Apart.{left_apart, result_of, result_back, said_by_apart, told_by_apart}
use Rattle.word.specs.declared.Polled.{Polled}
use Rattle.word.specs.declared.Polled.TheVariants as P
use Rattle.interval.specs.declared.Policy.{Policy}
use Rattle.state.specs.declared.Set.{Set}
use Rattle.state.specs.declared.Handle.{Handle}
use Rattle.timers.specs.declared.Call.{Call}
use Rattle.timers.specs.declared.Reply.{Reply}
use Rattle.timers.specs.declared.Reply.TheVariants as R
use Rattle.timers.specs.Calls.{Value, nothing, handle, counts, wake, polled, time, Lent, value_of, said, told, told_with, add_of, reset_of, cancel_of, drain_of, advance_of, turn_of, next_wake_of, poll_of, close_of, tick_at, restart_at, step}
use Rattle.timers.specs.Left.{time_left_of, least_left_of, found_by, said_least}
use Rattle.timers.specs.Promises.{Adds, Resets, Cancels, Drains, Advances, Turns, Wakes, Polls, Closes, Ticks, Restarts, Performs, TellsLeft, TellsLeast}

-- the case of a poll's number
abbrev polled_by : ℕ → Polled
polled_by n = get_or (P.Pending ∷ P.Fired ∷ P.Gone ∷ []) n P.Gone

-- what may be there, as the code has it
abbrev option_back : {A : Type 0} → Option A → Std.Option A
option_back none = None
option_back (some a) = Some a

-- the reply that says this
abbrev value_back : Value → Reply
value_back nothing = R.Done
value_back (handle h) = R.Added h
value_back (counts n m) = R.Ran n m
value_back (wake o) = R.Wake (option_back o)
value_back (polled n) = R.Found (polled_by n)
value_back (time t) = R.Ticked t

reply_back : (r : Reply) → value_back (value_of r) ≡ r
reply_back (R.Added h) = refl
reply_back R.Done = refl
reply_back (R.Ran n m) = refl
reply_back (R.Wake None) = refl
reply_back (R.Wake (Some t)) = refl
reply_back (R.Found P.Pending) = refl
reply_back (R.Found P.Fired) = refl
reply_back (R.Found P.Gone) = refl
reply_back (R.Ticked t) = refl

-- what is said tells any two replies apart
pub said_apart : TellsApart said
said_apart = said_by_apart value_of value_back reply_back

-- the set handed back and what is said tell any two answers apart
pub told_apart : TellsApart told
told_apart = told_by_apart value_of value_back reply_back

-- and with the lent list as it is then, any two answers with their lists
abbrev told_both : Code.Outcome Set Reply × List ℕ → Outcome Lent Value
told_both r = told_with r.0 r.1

pub told_with_apart : TellsApart told_both
told_with_apart =
    undone_apart told_both (λ (o : Outcome Lent Value). (record { state = o.state.set; answer = result_of value_back o.answer }, o.state.list))
    (λ (r : Code.Outcome Set Reply × List ℕ) i. (record { state = r.0.state; answer = result_back value_of value_back reply_back r.0.answer i }, r.1))

pub add_no_second : NoSecond (λ (q : Set × ℕ) (r : Code.Outcome Set Reply). Adds q.0 q.1 r)
add_no_second = by_rule told (λ (q : Set × ℕ). add_of q.0 q.1) told_apart

pub reset_no_second : NoSecond (λ (q : Set × Handle × ℕ) (r : Code.Outcome Set Reply). Resets q.0 q.1 q.2 r)
reset_no_second = by_rule told (λ (q : Set × Handle × ℕ). reset_of q.0 q.1 q.2) told_apart

pub cancel_no_second : NoSecond (λ (q : Set × Handle) (r : Code.Outcome Set Reply). Cancels q.0 q.1 r)
cancel_no_second = by_rule told (λ (q : Set × Handle). cancel_of q.0 q.1) told_apart

pub drain_no_second : NoSecond Drains
drain_no_second = by_rule told drain_of told_apart

pub next_wake_no_second : NoSecond Wakes
next_wake_no_second = by_rule told next_wake_of told_apart

pub poll_no_second : NoSecond (λ (q : Set × Handle) (r : Code.Outcome Set Reply). Polls q.0 q.1 r)
poll_no_second = by_rule told (λ (q : Set × Handle). poll_of q.0 q.1) told_apart

pub close_no_second : NoSecond Closes
close_no_second = by_rule told close_of told_apart

pub tick_no_second : NoSecond (λ (q : Set × Handle × Policy × ℕ × ℕ) (r : Code.Outcome Set Reply). Ticks q.0 q.1 q.2 q.3 q.4 r)
tick_no_second = by_rule told (λ (q : Set × Handle × Policy × ℕ × ℕ). tick_at q.0 q.1 q.2 q.3 q.4) told_apart

pub restart_no_second : NoSecond (λ (q : Set × Handle × ℕ × ℕ) (r : Code.Outcome Set Reply). Restarts q.0 q.1 q.2 q.3 r)
restart_no_second = by_rule told (λ (q : Set × Handle × ℕ × ℕ). restart_at q.0 q.1 q.2 q.3) told_apart

-- a call that is lent a list answers with it

pub advance_no_second : NoSecond (λ (q : Set × ℕ × List ℕ) (r : Code.Outcome Set Reply × List ℕ). Advances q.0 q.1 q.2 r.0 r.1)
advance_no_second = by_rule told_both (λ (q : Set × ℕ × List ℕ). advance_of q.0 q.1 q.2) told_with_apart

pub turn_no_second : NoSecond (λ (q : Set × ℕ × List ℕ) (r : Code.Outcome Set Reply × List ℕ). Turns q.0 q.1 q.2 r.0 r.1)
turn_no_second = by_rule told_both (λ (q : Set × ℕ × List ℕ). turn_of q.0 q.1 q.2) told_with_apart

pub perform_no_second : NoSecond (λ (q : Set × Call × List ℕ) (r : Code.Outcome Set Reply × List ℕ). Performs q.0 q.1 q.2 r.0 r.1)
perform_no_second = by_rule told_both (λ (q : Set × Call × List ℕ). step q.0 q.1 q.2) told_with_apart

-- the queries

pub least_apart : TellsApart said_least
least_apart = said_by_apart found_by option_back back
  where
    back : (o : Std.Option ℤ) → option_back (found_by o) ≡ o
    back None = refl
    back (Some z) = refl

pub time_left_no_second : NoSecond (λ (q : Set × Handle × ℕ) (r : Result ℤ Refusal). TellsLeft q.0 q.1 q.2 r)
time_left_no_second = by_rule said_left (λ (q : Set × Handle × ℕ). time_left_of q.0 q.1 q.2) left_apart

pub least_left_no_second : NoSecond (λ (q : Set × ℕ) (r : Result (Std.Option ℤ) Refusal). TellsLeast q.0 q.1 r)
least_left_no_second = by_rule said_least (λ (q : Set × ℕ). least_left_of q.0 q.1) least_apart
