-- The call is that of the rule, on the set of the rule and a list of zeros.
-- Assumes nothing.
use mathlib.Core.Path.{ap}
use Rattle.refusals.specs.Answer.{Outcome}
use Rattle.timers.specs.Calls.{Value, Lent}
use Rattle.depths.specs.Rules.{plain, seen_of}
use Rattle.depths.proofs.depth_advance.Goals as goal

pub returns : goal.returns
returns c =
    rw (c.told.ensures, ← c.built-s.ensures)
    (ap (λ (o : Outcome Lent Value). seen_of (plain o)) c.advance-a.ensures)
