-- Who is pending, as a poll says it, and who of them is first: what the two queries of the time left are held against
-- (proofs/Handles/Pending.antt).
-- Assumes nothing.
use Rattle.std.specs.Prelude.{◌≡◌, ◌≤◌}
use Rattle.std.proofs.Math.Option.{some}
use Rattle.refusals.specs.Answer.{accepted}
use Rattle.state.specs.declared.Set.{Set}
use Rattle.state.specs.declared.Handle.{Handle}
use Rattle.timers.specs.declared.Timing.{Timing}
use Rattle.timers.specs.Calls.{polled, live_at, poll_of}

-- a poll of the handle answers 0, pending
abbrev pub Pending : Set → Handle → Type 0
Pending s h = (poll_of s h).answer ≡ accepted (polled 0)

-- the handle is pending, and no handle that is has an earlier deadline
pub record Foremost (s : Set) (h : Handle) : Type 0 where
  pub pending : Pending s h
  pub timing : Timing
  pub found : live_at s h ≡ some timing
  pub least : (k : Handle) (t : Timing) → Pending s k → live_at s k ≡ some t → timing.due ≤ t.due
