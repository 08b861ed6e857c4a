-- At each turn the rounds to go answer what all of them answer from the start.
-- Assumes nothing.
use Rattle.std.proofs.Common.{ℕ, ◌+◌, ◌-◌, replicate, sym, ap, ◌∙◌, arith}
use Rattle.heap.specs.Capacity.{cap}
use Rattle.state.specs.declared.Set.{Set}
use Rattle.rounds.specs.Rules.{wrap, least_of, Lent, rounds_from, rounds_of}
use Rattle.rounds.specs.Promises.{lent}
use Rattle.rounds.proofs.Walks.{least_min, rounds_goes, rounds_done}
use Rattle.rounds.proofs.rounds_run.Goals as goal

pub loop-preserved : goal.loop-preserved
loop-preserved c =
    let l = c.loop in
    let n = c.min-step.result in
    let left = c.args.turns - (l.counter + 1) in
    let x = lent l.run l.list in
    ap (λ (y : Lent). rounds_from left n (wrap (l.reading + n)) y) c.round-run.ensures
    ∙ sym (rounds_goes (c.args.turns - l.counter) left n l.reading x (omega arith))
    ∙ l.invariant

pub returns : goal.returns
unfolding rounds_of
returns c =
    let a = c.args in
    let l = c.loop in
    let n = c.min-step.result in
    sym (rounds_done (a.turns - l.counter) n l.reading (lent l.run l.list) (omega arith))
    ∙ l.invariant
    ∙ ap (λ (n : ℕ). rounds_from a.turns n 0 (lent (record { set = c.started.result; last = cap; sum = 0 }) (replicate cap 0)))
    (c.min-step.ensures ∙ least_min a.due)
    ∙ ap (λ (s : Set). rounds_from a.turns (least_of a.due) 0 (lent (record { set = s; last = cap; sum = 0 }) (replicate cap 0)))
    c.started.ensures
