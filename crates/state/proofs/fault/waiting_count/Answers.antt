-- `fault::waiting_count` is right: as many timers pass the test as places wait.
-- Assumes nothing.
use mathlib.Core.Path.{◌≡◌, ◌∙◌}
use borrow.Author.Rules.{rules}
use Rattle.std.specs.List.{count_by}
use Rattle.theory.proofs.Stores.{unmapped}
use Rattle.state.specs.declared.Timer.{Timer}
use Rattle.state.specs.State.{is_waiting}
use Rattle.state.proofs.ListLaws.{count_waiting}
use Rattle.state.proofs.fault.waiting_count.Goals as goal

pub returns : goal.returns
returns c =
    let e : c.count.result ≡ count_by (λ (t : Timer). is_waiting t.waiting) c.args.s.timers = search rules in
    e ∙ count_waiting c.args.s (search (rules, unmapped))
