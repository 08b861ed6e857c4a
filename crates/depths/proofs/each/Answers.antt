-- At each turn the places to go make of the set what all of them make of the first one.
-- Assumes nothing.
use mathlib.Core.Path.{sym, ap, ◌∙◌}
use Prim.Native.Nat.{◌+◌, ◌-◌, ◌%◌}
use native.Mathlib.Omega.{arith}
use Rattle.heap.specs.Capacity.{cap}
use Rattle.state.specs.declared.Set.{Set}
use Rattle.depths.specs.Rules.{each_from, each_of}
use Rattle.depths.proofs.Walks.{each_goes, each_done}
use Rattle.depths.proofs.each.Goals as goal

pub loop-place-preserved : goal.loop-place-preserved
loop-place-preserved c =
    let l = c.loop-place in
    let n = c.args.stage % 16 in
    let left = cap - (l.place + 1) in
    ap (λ (s : Set). each_from left n (l.place + 1) s) c.made-s.ensures
    ∙ sym (each_goes (cap - l.place) left n l.place l.s (omega arith))
    ∙ l.invariant

pub returns : goal.returns
unfolding each_of
returns c =
    let l = c.loop-place in
    sym (each_done (cap - l.place) (c.args.stage % 16) l.place l.s (omega arith)) ∙ l.invariant
