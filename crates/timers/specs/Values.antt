-- The values that the rules name for an accepted call, and what a caller reads off an answer.
-- Assumes nothing.
use Rattle.std.proofs.Math.Option.{Option, none, some}
use Rattle.std.specs.Prelude.{ℕ}
use Rattle.refusals.specs.Answer.{Answer, accepted, refused, unsound}
use Rattle.state.specs.declared.Handle.{Handle}

pub data Value : Type 0 where
  -- none
  nothing : Value
  -- an add's handle
  handle : Handle → Value
  -- an advance's or a turn's counts, reported and popped
  counts : ℕ → ℕ → Value
  -- a next wake
  wake : Option ℕ → Value
  -- a poll: 0 pending, 1 fired, 2 gone
  polled : ℕ → Value
  -- a tick's old deadline
  time : ℕ → Value

-- the handle that an add answers
abbrev pub handle_in : Answer Value → Option Handle
handle_in (accepted nothing) = none
handle_in (accepted (handle h)) = some h
handle_in (accepted (counts r p)) = none
handle_in (accepted (wake t)) = none
handle_in (accepted (polled n)) = none
handle_in (accepted (time t)) = none
handle_in (refused n) = none
handle_in (unsound x) = none

-- how many reports an answer says were written
abbrev pub reports_in : Answer Value → ℕ
reports_in (accepted nothing) = 0
reports_in (accepted (handle h)) = 0
reports_in (accepted (counts r p)) = r
reports_in (accepted (wake t)) = 0
reports_in (accepted (polled n)) = 0
reports_in (accepted (time t)) = 0
reports_in (refused n) = 0
reports_in (unsound x) = 0
