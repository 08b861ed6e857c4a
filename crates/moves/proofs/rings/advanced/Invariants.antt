-- What is left of the advance is always the whole of it, and each turn is one pop of the rule. No more timers are reported than
-- entries popped, so the reports fit in the list.
-- Assumes nothing.
use mathlib.Core.Path.{◌≡◌}
use mathlib.Core.List.{List}
use Prim.Native.Nat.{ℕ, ◌+◌, ◌-◌, ◌≤◌}
use lib.ListN.{length}
use Rattle.heap.specs.Capacity.{cap}
use Rattle.heap.specs.Sound.{Sound}
use Rattle.state.specs.declared.Set.{Set}
use Rattle.moves.specs.Rules.{Ring, ring_from, advanced_of}
use Rattle.moves.proofs.rings.advanced.Given as goal

-- the advance of s to N with the list l has come to r, with `left` turns to go
pub record Going (s : Set) (N : ℕ) (l : List ℕ) (r : Ring) (left : ℕ) : Type 0 where
  pub heap_sound : Sound r.set.heap
  pub timers_long : length r.set.timers ≡ cap
  pub list_long : length r.list ≡ length l
  pub fewer : r.reported ≤ r.popped
  pub counted : r.popped + left ≤ cap
  pub rest : ring_from left r N ≡ advanced_of s N l

abbrev pub invariant-loop : goal.invariant-loop
invariant-loop l = Going l.s l.reading l.initial.list
    (record { set = record { heap = l.h; timers = l.ts; first = l.s.first; closed = l.s.closed }; list = l.list; reported = l.reported; popped = l.popped })
    (l.end - l.counter)
