-- At each turn the updates to go make of the set what all of them make of the first one. The heap stays sound.
-- Assumes nothing.
use mathlib.Core.Path.{◌≡◌}
use Prim.Native.Nat.{ℕ, ◌-◌}
use Rattle.heap.specs.Capacity.{cap}
use Rattle.heap.specs.Sound.{Sound}
use Rattle.state.specs.declared.Set.{Set}
use Rattle.moves.specs.Rules.{drain_from}
use Rattle.moves.proofs.updates.drained.Given as goal

-- the set g with so many turns to go, in a drain of s
pub record Draining (s g : Set) (left : ℕ) : Type 0 where
  pub rest : drain_from left g ≡ drain_from cap s
  pub sound : Sound g.heap

abbrev pub invariant-loop : goal.invariant-loop
invariant-loop l = Draining l.initial.s l.s (cap - l.counter)
