-- At each turn the rounds to go answer what all of them answer from the start.
-- Assumes nothing.
use Rattle.std.proofs.Common.{◌≡◌, ◌-◌}
use Rattle.rounds.specs.Rules.{rounds_from}
use Rattle.rounds.specs.Promises.{lent}
use Rattle.rounds.proofs.rounds_run.Given as goal

abbrev pub invariant-loop : goal.invariant-loop
invariant-loop l =
    rounds_from (l.turns - l.counter) l.step l.reading (lent l.run l.list) ≡ rounds_from l.turns l.step 0 (lent l.initial.run l.initial.list)
