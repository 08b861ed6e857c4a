-- At each turn the adds to go make of the set what all of them make of the fresh one.
-- Assumes nothing.
use Rattle.std.proofs.Common.{◌≡◌, ◌+◌, ◌-◌, sym, ap, ◌∙◌, arith}
use Rattle.refusals.specs.Answer.{Outcome}
use Rattle.heap.specs.Capacity.{cap}
use Rattle.state.specs.declared.Set.{Set}
use Rattle.state.specs.State.{fresh_of}
use Rattle.timers.specs.Calls.{Value, drain_of}
use Rattle.rounds.specs.Rules.{add_from, start_of}
use Rattle.rounds.proofs.Walks.{add_goes, add_done}
use Rattle.rounds.proofs.started.Goals as goal

pub loop-due-preserved : goal.loop-due-preserved
loop-due-preserved c =
    let l = c.loop-due in
    let left = cap + 1 - (l.due + 1) in
    ap (λ (o : Outcome Set Value). add_from left (l.due + 1) o.state) c.add.ensures
    ∙ sym (add_goes (cap + 1 - l.due) left l.due l.g (omega arith))
    ∙ l.invariant

pub returns : goal.returns
unfolding start_of
returns c =
    let l = c.loop-due in
    let full : l.g ≡ add_from cap 1 fresh_of =
    sym (add_done (cap + 1 - l.due) l.due l.g (omega arith)) ∙ l.invariant
    ∙ ap (λ (s : Set). add_from cap 1 s) c.fresh-g.ensures in
    ap (λ (o : Outcome Set Value). o.state) c.drain.ensures ∙ ap (λ (s : Set). (drain_of s).state) full
