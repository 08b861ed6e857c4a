-- What the measured calls and queries promise of their answer r and of the lent numbers b and a as they are at the end: the number of
-- the outcome that the rule of the call, or of the query, gives on the set that was asked for.
-- Assumes nothing.
use Rattle.std.specs.Prelude.{◌≡◌, ℕ}
use Rattle.interval.specs.declared.Policy.TheVariants.{Skip}
use Rattle.state.specs.State.{fresh_of}
use Rattle.refusals.specs.declared.outcome.Outcome.{Outcome}
use Rattle.state.specs.declared.Set.{Set}
use Rattle.timers.specs.declared.Reply.{Reply}
use Rattle.timers.specs.Calls.{gives, nothing, add_of, reset_of, cancel_of, drain_of, advance_of, turn_of, next_wake_of, poll_of, close_of, tick_at, restart_at, step, told}
use Rattle.timers.specs.Left.{time_left_of, least_left_of}
use Rattle.depths.specs.Rules.{handle_at, call_in, built_of, told_of, plain, blank, seen, seen_of, seen_answer}

abbrev pub Fresh : ℕ → ℕ → ℕ → Type 0
Fresh r b a = seen r b a ≡ seen_of (gives fresh_of nothing)

abbrev pub Adds : ℕ → ℕ → ℕ → ℕ → ℕ → Type 0
Adds x d r b a = seen r b a ≡ seen_of (add_of (built_of x) d)

abbrev pub Resets : ℕ → ℕ → ℕ → ℕ → ℕ → ℕ → Type 0
Resets x p d r b a = seen r b a ≡ seen_of (reset_of (built_of x) (handle_at p) d)

abbrev pub Cancels : ℕ → ℕ → ℕ → ℕ → ℕ → Type 0
Cancels x p r b a = seen r b a ≡ seen_of (cancel_of (built_of x) (handle_at p))

abbrev pub Drains : ℕ → ℕ → ℕ → ℕ → Type 0
Drains x r b a = seen r b a ≡ seen_of (drain_of (built_of x))

abbrev pub Advances : ℕ → ℕ → ℕ → ℕ → ℕ → Type 0
Advances x N r b a = seen r b a ≡ seen_of (plain (advance_of (built_of x) N blank))

abbrev pub Turns : ℕ → ℕ → ℕ → ℕ → ℕ → Type 0
Turns x N r b a = seen r b a ≡ seen_of (plain (turn_of (built_of x) N blank))

abbrev pub Wakes : ℕ → ℕ → ℕ → ℕ → Type 0
Wakes x r b a = seen r b a ≡ seen_of (next_wake_of (built_of x))

abbrev pub Polls : ℕ → ℕ → ℕ → ℕ → ℕ → Type 0
Polls x p r b a = seen r b a ≡ seen_of (poll_of (built_of x) (handle_at p))

abbrev pub Closes : ℕ → ℕ → ℕ → ℕ → Type 0
Closes x r b a = seen r b a ≡ seen_of (close_of (built_of x))

abbrev pub Ticks : ℕ → ℕ → ℕ → ℕ → ℕ → ℕ → ℕ → Type 0
Ticks x p period N r b a = seen r b a ≡ seen_of (tick_at (built_of x) (handle_at p) Skip period N)

abbrev pub Restarts : ℕ → ℕ → ℕ → ℕ → ℕ → ℕ → ℕ → Type 0
Restarts x p period N r b a = seen r b a ≡ seen_of (restart_at (built_of x) (handle_at p) period N)

abbrev pub TellsLeft : ℕ → ℕ → ℕ → ℕ → ℕ → ℕ → Type 0
TellsLeft x p N r b a = seen r b a ≡ seen_answer (time_left_of (built_of x) (handle_at p) N)

abbrev pub TellsLeast : ℕ → ℕ → ℕ → ℕ → ℕ → Type 0
TellsLeast x N r b a = seen r b a ≡ seen_answer (least_left_of (built_of x) N)

abbrev pub Performs : ℕ → ℕ → ℕ → ℕ → ℕ → ℕ → ℕ → Type 0
Performs x n p v r b a = seen r b a ≡ seen_of (plain (step (built_of x) (call_in n p v) blank))

-- and the number that is told of an answer

abbrev pub Tells : Outcome Set Reply → ℕ → Type 0
Tells a r = r ≡ told_of (told a)
