-- At each turn the places to go make of the set what all of them make of the first one.
-- Assumes nothing.
use mathlib.Core.Path.{◌≡◌}
use Prim.Native.Nat.{◌-◌}
use Rattle.heap.specs.Capacity.{cap}
use Rattle.depths.specs.Rules.{each_from}
use Rattle.depths.proofs.each.Given as goal

abbrev pub invariant-loop-place : goal.invariant-loop-place
invariant-loop-place l = each_from (cap - l.place) l.number l.place l.s ≡ each_from (cap - l.first) l.number l.first l.initial.s
