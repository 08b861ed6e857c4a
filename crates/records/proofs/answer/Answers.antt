-- The call is made as `step` says; the operation is the call's, and the wake that of the set after it.
-- Assumes nothing.
use mathlib.Core.Path.{ap, ◌∙◌}
use Rattle.refusals.specs.Answer.{Outcome}
use Rattle.timers.specs.Calls.{Value, Lent, lent, said}
use Rattle.records.specs.Answers.{made, tells, answer_of}
use Rattle.records.proofs.answer.Goals as goal

pub returns : goal.returns
unfolding answer_of
returns c =
    let r = c.perform-a.result in
    (λ i. record { state = lent r.state c.perform-a.new.list; told = made (c.operation.ensures i) (said r.answer) (c.wake_after-wake.ensures i) })
    ∙ ap (λ (o : Outcome Lent Value). tells c.args.call o) c.perform-a.ensures
