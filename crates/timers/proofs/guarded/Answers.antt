-- The guard answers as the test does, and hands the fault on.
-- Assumes nothing.
use mathlib.Core.Path.{sym, ap, ◌∙◌}
use mathlib.Core.Option.{Option}
use Rattle.refusals.specs.declared.fault.Fault.{Fault}
use Rattle.refusals.specs.declared.Refusal.TheVariants.{Unsound}
use Rattle.refusals.specs.Answer.{accepted, refuse}
use Rattle.refusals.specs.Faults.{said_verdict}
use Rattle.timers.specs.Calls.{judged, guard_of}
use Rattle.timers.proofs.guarded.Goals as goal

pub returns-in-Ok : goal.returns-in-Ok
unfolding guard_of
returns-in-Ok c =
    ap (λ (o : Option Fault). judged o (accepted tt) (λ x. refuse (Unsound x)))
    (sym (ap said_verdict c.in-Ok.is) ∙ c.first_fault.ensures)

pub returns-in-Err : goal.returns-in-Err
unfolding guard_of
returns-in-Err c =
    ap (λ (o : Option Fault). judged o (accepted tt) (λ x. refuse (Unsound x)))
    (sym (ap said_verdict c.in-Err.is) ∙ c.first_fault.ensures)
