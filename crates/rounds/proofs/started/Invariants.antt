-- At each turn the adds to go make of the set what all of them make of the fresh one.
-- Assumes nothing.
use Rattle.std.proofs.Common.{◌≡◌, ◌+◌, ◌-◌}
use Rattle.heap.specs.Capacity.{cap}
use Rattle.rounds.specs.Rules.{add_from}
use Rattle.rounds.proofs.started.Given as goal

abbrev pub invariant-loop-due : goal.invariant-loop-due
invariant-loop-due l = add_from (cap + 1 - l.due) l.due l.g ≡ add_from cap 1 l.initial.g
