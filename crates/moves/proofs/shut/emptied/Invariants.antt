-- What is left of the emptying is always the whole of it, and each turn is one pop of the rule.
-- Assumes nothing.
use mathlib.Core.Path.{◌≡◌}
use Prim.Native.Nat.{ℕ, ◌-◌}
use lib.ListN.{length}
use Rattle.heap.specs.Capacity.{cap}
use Rattle.heap.specs.Sound.{Sound}
use Rattle.state.specs.declared.Set.{Set}
use Rattle.moves.specs.Rules.{empty_from}
use Rattle.moves.proofs.shut.emptied.Given as goal

-- emptying the heap of s has come to g, with `left` entries to pop
pub record Emptying (s g : Set) (left : ℕ) : Type 0 where
  pub heap_sound : Sound g.heap
  pub timers_long : length g.timers ≡ cap
  pub rest : empty_from left g ≡ empty_from s.heap.len s

abbrev pub invariant-loop : goal.invariant-loop
invariant-loop l = Emptying l.initial.s l.s (l.end - l.counter)
