-- `sound` is right: it says yes exactly where no fault is found.
-- Assumes nothing.
use native.Mathlib.Omega.{arith}
use Rattle.state.specs.Faults.{sound_of}
use Rattle.state.proofs.sound.Goals as goal

pub returns : goal.returns
unfolding sound_of
returns c = grind arith
