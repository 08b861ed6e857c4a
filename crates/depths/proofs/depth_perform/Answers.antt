-- The call is that of the rule, and so are the set and the list.
-- Assumes nothing.
use mathlib.Core.Path.{ap}
use Rattle.refusals.specs.Answer.{Outcome}
use Rattle.timers.specs.Calls.{Value, Lent}
use Rattle.depths.specs.Rules.{plain, seen_of}
use Rattle.depths.proofs.depth_perform.Goals as goal

pub returns : goal.returns
returns c =
    rw (c.told.ensures, ← c.built-s.ensures, ← c.call_of-call.ensures)
    (ap (λ (o : Outcome Lent Value). seen_of (plain o)) c.perform-a.ensures)
