-- What is left of the list is always the whole of it, and each turn takes one timer off by the rule. A place out of range ends it.
-- Assumes nothing.
use mathlib.Core.Path.{◌≡◌}
use Prim.Native.Nat.{ℕ, ◌-◌}
use lib.ListN.{length}
use Rattle.heap.specs.Capacity.{cap}
use Rattle.state.specs.declared.Set.{Set}
use Rattle.moves.specs.Rules.{unlist_from}
use Rattle.moves.proofs.shut.unlisted.Given as goal

-- emptying the list of s has come to g, with at most `left` timers to take off
pub record Unlisting (s g : Set) (left : ℕ) : Type 0 where
  pub timers_long : length g.timers ≡ cap
  pub rest : unlist_from left g ≡ unlist_from cap s

abbrev pub invariant-loop : goal.invariant-loop
invariant-loop l = Unlisting l.initial.s l.s (cap - l.counter)
