-- The measured calls and queries have no second answer.
-- Assumes nothing.
use Prim.Native.Nat.{ℕ}
use Rattle.theory.specs.Promise.{NoSecond}
use Rattle.refusals.specs.Answer.{Nothing}
use Rattle.theory.proofs.Promise.{by_rule, plain_apart}
use Rattle.interval.specs.declared.Policy.TheVariants.{Skip}
use Rattle.state.specs.State.{fresh_of}
use Rattle.timers.specs.Calls.{gives, nothing, add_of, reset_of, cancel_of, drain_of, advance_of, turn_of, next_wake_of, poll_of, close_of, tick_at, restart_at, step}
use Rattle.timers.specs.Left.{time_left_of, least_left_of}
use Rattle.depths.specs.Rules.{handle_at, call_in, built_of, plain, blank, Seen, seen_of, seen_answer}
use Rattle.depths.specs.Promises.{Fresh, Adds, Resets, Cancels, Drains, Advances, Turns, Wakes, Polls, Closes, Ticks, Restarts, TellsLeft, TellsLeast, Performs}

-- what is seen is the whole answer, and each promise is that it is what the rule of the call, or of the query, gives

pub fresh_no_second : NoSecond (λ (q : Nothing) (r : Seen). Fresh r.answer r.before r.after)
fresh_no_second = by_rule (λ (r : Seen). r) (λ (q : Nothing). seen_of (gives fresh_of nothing)) plain_apart

pub add_no_second : NoSecond (λ (q : ℕ × ℕ) (r : Seen). Adds q.0 q.1 r.answer r.before r.after)
add_no_second = by_rule (λ (r : Seen). r) (λ (q : ℕ × ℕ). seen_of (add_of (built_of q.0) q.1)) plain_apart

pub reset_no_second : NoSecond (λ (q : ℕ × ℕ × ℕ) (r : Seen). Resets q.0 q.1 q.2 r.answer r.before r.after)
reset_no_second = by_rule (λ (r : Seen). r) (λ (q : ℕ × ℕ × ℕ). seen_of (reset_of (built_of q.0) (handle_at q.1) q.2)) plain_apart

pub cancel_no_second : NoSecond (λ (q : ℕ × ℕ) (r : Seen). Cancels q.0 q.1 r.answer r.before r.after)
cancel_no_second = by_rule (λ (r : Seen). r) (λ (q : ℕ × ℕ). seen_of (cancel_of (built_of q.0) (handle_at q.1))) plain_apart

pub drain_no_second : NoSecond (λ (q : ℕ) (r : Seen). Drains q r.answer r.before r.after)
drain_no_second = by_rule (λ (r : Seen). r) (λ (q : ℕ). seen_of (drain_of (built_of q))) plain_apart

pub advance_no_second : NoSecond (λ (q : ℕ × ℕ) (r : Seen). Advances q.0 q.1 r.answer r.before r.after)
advance_no_second = by_rule (λ (r : Seen). r) (λ (q : ℕ × ℕ). seen_of (plain (advance_of (built_of q.0) q.1 blank))) plain_apart

pub turn_no_second : NoSecond (λ (q : ℕ × ℕ) (r : Seen). Turns q.0 q.1 r.answer r.before r.after)
turn_no_second = by_rule (λ (r : Seen). r) (λ (q : ℕ × ℕ). seen_of (plain (turn_of (built_of q.0) q.1 blank))) plain_apart

pub next_wake_no_second : NoSecond (λ (q : ℕ) (r : Seen). Wakes q r.answer r.before r.after)
next_wake_no_second = by_rule (λ (r : Seen). r) (λ (q : ℕ). seen_of (next_wake_of (built_of q))) plain_apart

pub poll_no_second : NoSecond (λ (q : ℕ × ℕ) (r : Seen). Polls q.0 q.1 r.answer r.before r.after)
poll_no_second = by_rule (λ (r : Seen). r) (λ (q : ℕ × ℕ). seen_of (poll_of (built_of q.0) (handle_at q.1))) plain_apart

pub close_no_second : NoSecond (λ (q : ℕ) (r : Seen). Closes q r.answer r.before r.after)
close_no_second = by_rule (λ (r : Seen). r) (λ (q : ℕ). seen_of (close_of (built_of q))) plain_apart

pub tick_no_second : NoSecond (λ (q : ℕ × ℕ × ℕ × ℕ) (r : Seen). Ticks q.0 q.1 q.2 q.3 r.answer r.before r.after)
tick_no_second = by_rule (λ (r : Seen). r) (λ (q : ℕ × ℕ × ℕ × ℕ). seen_of (tick_at (built_of q.0) (handle_at q.1) Skip q.2 q.3)) plain_apart

pub restart_no_second : NoSecond (λ (q : ℕ × ℕ × ℕ × ℕ) (r : Seen). Restarts q.0 q.1 q.2 q.3 r.answer r.before r.after)
restart_no_second = by_rule (λ (r : Seen). r) (λ (q : ℕ × ℕ × ℕ × ℕ). seen_of (restart_at (built_of q.0) (handle_at q.1) q.2 q.3)) plain_apart

pub time_left_no_second : NoSecond (λ (q : ℕ × ℕ × ℕ) (r : Seen). TellsLeft q.0 q.1 q.2 r.answer r.before r.after)
time_left_no_second = by_rule (λ (r : Seen). r) (λ (q : ℕ × ℕ × ℕ). seen_answer (time_left_of (built_of q.0) (handle_at q.1) q.2)) plain_apart

pub least_left_no_second : NoSecond (λ (q : ℕ × ℕ) (r : Seen). TellsLeast q.0 q.1 r.answer r.before r.after)
least_left_no_second = by_rule (λ (r : Seen). r) (λ (q : ℕ × ℕ). seen_answer (least_left_of (built_of q.0) q.1)) plain_apart

pub perform_no_second : NoSecond (λ (q : ℕ × ℕ × ℕ × ℕ) (r : Seen). Performs q.0 q.1 q.2 q.3 r.answer r.before r.after)
perform_no_second = by_rule (λ (r : Seen). r) (λ (q : ℕ × ℕ × ℕ × ℕ). seen_of (plain (step (built_of q.0) (call_in q.1 q.2 q.3) blank))) plain_apart
