-- The engine without the test of soundness: a call answers what it answers of a sound set. No code is like that; the worked traces are
-- computed on it, since the test looks at every place (proofs/Untested.antt: from fresh the two are the same).
-- Assumes nothing.
use Rattle.state.specs.declared.Set.{Set}
use Rattle.state.specs.State.{fresh_of}
use Rattle.laws.specs.Unguarded.{unguarded}
use Rattle.promises.specs.Turns.{Engine}
use Rattle.promises.specs.Engine.{handed}

abbrev pub untested : Engine
untested = record { State = Set; fresh = fresh_of; step = λ s c l. handed (unguarded s c l) }
