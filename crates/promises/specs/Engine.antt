-- The project's engine: its states are the sets of timers, and a call is a step of the rules.
-- Assumes nothing.
use Rattle.std.specs.Prelude.{List, ℕ}
use Rattle.refusals.specs.Answer.{Outcome}
use Rattle.state.specs.declared.Set.{Set}
use Rattle.state.specs.State.{fresh_of}
use Rattle.timers.specs.Values.{Value}
use Rattle.timers.specs.Calls.{Lent, step}
use Rattle.promises.specs.Turns.{Engine}

-- the set and the lent list that a step leaves, beside what it answers
abbrev pub handed : Outcome Lent Value → Outcome (Set × List ℕ) Value
handed o = record { state = (o.state.set, o.state.list); answer = o.answer }

abbrev pub ours : Engine
ours = record { State = Set; fresh = fresh_of; step = λ s c l. handed (step s c l) }
