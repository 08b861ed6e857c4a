-- The two queries: how long a timer has to go, and the least of that over the timers that have not fired. Each reads a set and a
-- reading, and changes nothing.
-- Assumes nothing.
use Rattle.std.specs.Prelude.{Result, Some, None, cond, ℕ, ltb, ℤ, pos, ◌-ℤ◌}
use Rattle.std.specs.Prelude as Std
use Rattle.std.proofs.Math.Option.{Option, none, some}
use Rattle.std.specs.Int.Signed.{lt_z}
use Rattle.theory.specs.Least.{through, lesser, least_below}
use Rattle.refusals.specs.declared.Refusal.{Refusal}
use Rattle.refusals.specs.declared.Refusal.TheVariants.{Unsound, Closed}
use Rattle.refusals.specs.Answer.{Answer, accepted, refused, unsound, refuse}
use Rattle.refusals.specs.Outcomes.{said_by}
use Rattle.refusals.specs.Times.{signed, difference_of}
use Rattle.heap.specs.Capacity.{cap}
use Rattle.word.specs.Rules.{fired_in}
use Rattle.state.specs.declared.Life.{Life}
use Rattle.state.specs.declared.Life.TheVariants.{Free, Live, Cancelled, Retired}
use Rattle.state.specs.declared.Set.{Set}
use Rattle.state.specs.declared.Handle.{Handle}
use Rattle.state.specs.State.{timer_at}
use Rattle.state.specs.Faults.{fault_of}
use Rattle.timers.specs.Calls.{judged, Timing, door_of}

-- TIME LEFT: the deadline that a live timer has, fired or not, minus the reading: zero at the deadline, below zero once it is
-- overdue. Refused with 1, 2 and 3 as at the door of every call on a handle, then with 6 where the number is no signed one of 64
-- bits
abbrev pub time_left_by : ℕ → Answer Timing → Answer ℤ
time_left_by N (accepted t) = difference_of t.due N
time_left_by N (refused n) = refused n
time_left_by N (unsound x) = unsound x

unfoldable pub time_left_of : Set → Handle → ℕ → Answer ℤ
time_left_of s h N = time_left_by N (door_of s.closed s h)

-- the deadline of a live timer that has not fired, whether it waits for a drain or not
abbrev pub pending_in : Life → Option ℕ
pending_in Free = none
pending_in (Live w d) = cond (fired_in w) none (some d)
pending_in (Cancelled w) = none
pending_in Retired = none

abbrev pub pending_at : Set → ℕ → Option ℕ
pending_at s p = pending_in (timer_at s p).life

-- the deadline minus the reading, whether that fits or not
abbrev pub left_at : ℕ → ℕ → ℤ
left_at N d = pos d -ℤ pos N

-- LEAST LEFT: the least of those numbers over all places, or none. Refused with 1, with 2, and with 6 where that least number is no
-- signed one of 64 bits
abbrev pub or_none : Answer ℤ → Answer (Option ℤ)
or_none (accepted z) = accepted (some z)
or_none (refused n) = refused n
or_none (unsound x) = unsound x

abbrev pub least_by : Option ℤ → Answer (Option ℤ)
least_by none = accepted none
least_by (some z) = or_none (signed z)

unfoldable pub least_left_of : Set → ℕ → Answer (Option ℤ)
least_left_of s N =
    judged (fault_of s)
    (cond s.closed (refuse Closed) (least_by (least_below lt_z (λ p. through (left_at N) (pending_at s p)) cap)))
    (λ x. refuse (Unsound x))

-- what the code's answer says
abbrev pub found_by : {A : Type 0} → Std.Option A → Option A
found_by None = none
found_by (Some a) = some a

abbrev pub said_least : Result (Std.Option ℤ) Refusal → Answer (Option ℤ)
said_least = said_by found_by

-- and the functions inside: the earliest such deadline, which the code looks for
abbrev pub lesser_due : Option ℕ → Option ℕ → Option ℕ
lesser_due = lesser ltb

unfoldable pub soonest_of : Set → Option ℕ
soonest_of s = least_below ltb (pending_at s) cap

abbrev pub said_earliest : Std.Option ℕ → Option ℕ
said_earliest = found_by
