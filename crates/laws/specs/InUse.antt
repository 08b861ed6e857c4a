-- When two calls come to the same, but for room not in use (proofs/UnusedRoom/InUse.antt).
-- Assumes nothing.
use Rattle.std.specs.Prelude.{◌≡◌}
use Rattle.refusals.specs.Answer.{Outcome}
use Rattle.state.specs.InUse.{Twins}
use Rattle.timers.specs.Calls.{Value, Lent}

-- the same answer, and states that are related
pub record SameOutcome {S : Type 0} (R : S → S → Type 0) (o q : Outcome S Value) : Type 0 where
  pub answers : o.answer ≡ q.answer
  pub states : R o.state q.state

-- sets that differ only in room not in use, and the same list
pub record SameLent (x y : Lent) : Type 0 where
  pub sets : Twins x.set y.set
  pub lists : x.list ≡ y.list
