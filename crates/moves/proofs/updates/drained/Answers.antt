-- At each turn the updates to go make of the set what all of them make of the first one. The heap stays sound.
-- Assumes nothing.
use mathlib.Core.Path.{◌≡◌, sym, ap, subst, ◌∙◌}
use Prim.Native.Nat.{ℕ, suc, ◌+◌, ◌-◌}
use native.Mathlib.Omega.{arith}
use Rattle.std.specs.Prelude.{Some}
use Rattle.heap.specs.Capacity.{cap}
use Rattle.heap.specs.declared.Place.{Place}
use Rattle.state.specs.declared.Set.{Set}
use Rattle.moves.specs.Rules.{settled_of, drain_from}
use Rattle.moves.proofs.DrainLaws.{settled_heap, drain_goes, drain_ends}
use Rattle.moves.proofs.updates.drained.Invariants.{Draining}
use Rattle.moves.proofs.updates.drained.Goals as goal

-- after an update it goes on
goes_on : {s g : Set} {left k : ℕ} {p : Place} → Draining s g left → left ≡ suc k → g.first ≡ Some p → Draining s (settled_of g p.0) k
goes_on {g = g} {k = k} v m e = record {
  rest = sym (drain_goes k g e) ∙ ap (λ n. drain_from n g) (sym m) ∙ v.rest;
  sound = settled_heap g _ v.sound;
}

pub loop-preserved : goal.loop-preserved
loop-preserved c =
    subst (λ (g : Set). Draining c.args.s g (cap - (c.loop.counter + 1))) (sym c.settled-s.ensures)
    (goes_on c.loop.invariant (omega arith) c.in-Some.is)

-- no turn is left
pub returns-after-loop : goal.returns-after-loop
unfolding drain_from
returns-after-loop c =
    let z : cap - c.loop.counter ≡ 0 = omega arith in
    ap (λ n. drain_from n c.loop.s) (sym z) ∙ c.loop.invariant.rest

-- the list has ended
pub returns-in_default : goal.returns-in_default
returns-in_default c = sym (drain_ends _ _ c.in_default.is) ∙ c.loop.invariant.rest
