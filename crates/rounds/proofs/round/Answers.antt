-- The turn is that of the rule, and so are the counts that it answers and the list that it leaves.
-- Assumes nothing.
use Rattle.std.proofs.Common.{◌≤◌, length, ap, ◌∙◌, arith}
use Rattle.refusals.specs.Answer.{Outcome}
use Rattle.timers.specs.Calls.{Value, Lent}
use Rattle.rounds.specs.declared.Run.{Run}
use Rattle.rounds.specs.Promises.{lent}
use Rattle.rounds.specs.Rules.{turned_of, round_of}
use Rattle.rounds.proofs.Walks.{least_min, reset_first}
use Rattle.rounds.proofs.round.Goals as goal

pub returns : goal.returns
unfolding round_of
returns c =
    let l = c.turn-a.new.list in
    let in_list : c.min.result ≤ length l = omega arith in
    ap (λ (r : Run). lent r l) (c.reset_all.ensures ∙ reset_first c.min.result l _ in_list)
    ∙ rw (c.min.ensures, least_min, c.mixed-sum.ensures, c.mixed.ensures, c.counted-c.ensures)
    (ap (λ (o : Outcome Lent Value). turned_of c.args.run o) c.turn-a.ensures)
