-- What a host sees of the add.
-- Assumes nothing.
use mathlib.Core.Path.{ap, ◌∙◌}
use mathlib.Core.List.{List}
use Prim.Native.Nat.{ℕ}
use Rattle.refusals.specs.Answer.{Outcome}
use Rattle.timers.specs.Values.{Value, handle_in}
use Rattle.host.specs.Numbers.{status_of}
use Rattle.host.specs.Seen.{word_or}
use Rattle.host.proofs.Settled.{answer_status}
use Rattle.host.proofs.nurberosh_add.Goals as goal

pub returns : goal.returns
returns c =
    let t = c.add.ensures in
    record {
      image = ap (λ (o : Outcome (List ℕ) Value). o.state) t.image;
      handle = t.handle ∙ ap (λ (o : Outcome (List ℕ) Value). word_or c.args.handle.now (handle_in o.answer)) t.image;
      status = c.status.ensures ∙ answer_status c.add.result ∙ ap (λ (o : Outcome (List ℕ) Value). status_of o.answer) t.image;
    }
