-- What the line of a record tells: the call's operation, what the call answered, and the next wake after it.
-- Assumes nothing.
use Rattle.std.proofs.Math.Option.{Option, none}
use Rattle.std.specs.Prelude as Std
use Rattle.std.specs.Prelude.{List, ℕ, Result, Ok, Err}
use Rattle.refusals.specs.declared.Refusal.{Refusal}
use Rattle.refusals.specs.declared.outcome.Outcome as Code
use Rattle.refusals.specs.Answer.{Answer, accepted, refused, unsound, refuse, Nothing, Outcome}
use Rattle.state.specs.declared.Set.{Set}
use Rattle.timers.specs.declared.Call.{Call}
use Rattle.timers.specs.declared.Call.TheVariants as C
use Rattle.timers.specs.Calls.{Value, nothing, handle, counts, wake, polled, time, Lent, lent, step, next_wake_of, wake_of, said}
use Rattle.records.specs.declared.Made.{Made}
use Rattle.records.specs.declared.Answered as A
use Rattle.records.specs.Records.{decode_of}

pub data Told : Type 0 where
  -- of a record that was refused: why
  unread : Answer Nothing → Told
  -- of a call: its operation, what it answered, and the next wake where that is asked
  made : ℕ → Answer Value → Option ℕ → Told

-- the set and the lent list after a record, and what its line tells
pub record Answered : Type 0 where
  pub state : Lent
  pub told : Told

-- the operation of a call. A tick and an interval reset, which no record makes, have numbers above the four bits of a record's
abbrev pub operation_of : Call → ℕ
operation_of (C.Add d) = 0
operation_of (C.Reset h d) = 1
operation_of (C.Cancel h) = 2
operation_of C.Drain = 3
operation_of (C.Advance N) = 4
operation_of (C.Turn N) = 5
operation_of C.NextWake = 6
operation_of (C.Poll h) = 7
operation_of C.Close = 8
operation_of (C.Tick h p period N) = 16
operation_of (C.Restart h period N) = 17

-- the wake that an answer names
abbrev pub wake_in : Answer Value → Option ℕ
wake_in (refused n) = none
wake_in (unsound x) = none
wake_in (accepted nothing) = none
wake_in (accepted (handle h)) = none
wake_in (accepted (counts n m)) = none
wake_in (accepted (wake w)) = w
wake_in (accepted (polled n)) = none
wake_in (accepted (time t)) = none

-- a wake, where an answer is that of an accepted advance or turn
abbrev pub where_ran : Answer Value → Option ℕ → Option ℕ
where_ran (refused n) w = none
where_ran (unsound x) w = none
where_ran (accepted nothing) w = none
where_ran (accepted (handle h)) w = none
where_ran (accepted (counts n m)) w = w
where_ran (accepted (wake t)) w = none
where_ran (accepted (polled n)) w = none
where_ran (accepted (time t)) w = none

-- the next wake is asked of the set as it is after an advance or a turn; after any other call it is not
abbrev pub wake_after : Set → Answer Value → Option ℕ
wake_after s a = where_ran a (wake_in (next_wake_of s).answer)

abbrev pub tells : Call → Outcome Lent Value → Answered
tells c o = record { state = o.state; told = made (operation_of c) o.answer (wake_after o.state.set o.answer) }

-- a call is made, as `step` says, and told
unfoldable pub answer_of : Set → Call → List ℕ → Answered
answer_of s c l = tells c (step s c l)

-- a record that decodes to a call is answered by it; another changes nothing
abbrev pub answer_by : Set → Answer Call → List ℕ → Answered
answer_by s (accepted c) l = answer_of s c l
answer_by s (refused n) l = record { state = lent s l; told = unread (refused n) }
answer_by s (unsound x) l = record { state = lent s l; told = unread (unsound x) }

unfoldable pub replay_of : Set → List ℕ → List ℕ → Answered
replay_of s bytes l = answer_by s (decode_of bytes) l

-- what the code says of a wake and of a line, and what it answers with the lent list as it is then
abbrev pub said_wake : Std.Option ℕ → Option ℕ
said_wake = wake_of

abbrev pub said_line : Result Made Refusal → Told
said_line (Ok m) = made m.operation (said m.reply) (said_wake m.wake)
said_line (Err r) = unread (refuse r)

abbrev pub told_by : A.Answered → List ℕ → Answered
told_by r l = record { state = lent r.set l; told = said_line (Ok r.made) }

abbrev pub replayed_by : Code.Outcome Set Made → List ℕ → Answered
replayed_by r l = record { state = lent r.state l; told = said_line r.answer }
