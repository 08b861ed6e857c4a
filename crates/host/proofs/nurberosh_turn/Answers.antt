-- What a host sees of the turn.
-- Assumes nothing.
use mathlib.Core.Path.{ap, ◌∙◌}
use Rattle.refusals.specs.Answer.{Outcome}
use Rattle.timers.specs.Values.{Value}
use Rattle.host.specs.Numbers.{status_of}
use Rattle.host.specs.Calls.{Board}
use Rattle.host.specs.Seen.{count_or}
use Rattle.host.proofs.Settled.{answer_status}
use Rattle.host.proofs.nurberosh_turn.Goals as goal

pub returns : goal.returns
returns c =
    let t = c.turn.ensures in
    record {
      image = ap (λ (o : Outcome Board Value). o.state.image) t.board;
      reports = ap (λ (o : Outcome Board Value). o.state.reports) t.board;
      reported = t.reported ∙ ap (λ (o : Outcome Board Value). count_or c.args.reported.now o.answer) t.board;
      status = c.status.ensures ∙ answer_status c.turn.result ∙ ap (λ (o : Outcome Board Value). status_of o.answer) t.board;
    }
