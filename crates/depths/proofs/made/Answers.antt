-- The call is made as `step` says, on a list of zeros.
-- Assumes nothing.
use native.Mathlib.Omega.{arith}
use Rattle.depths.specs.Rules.{made_of}
use Rattle.depths.proofs.made.Goals as goal

pub returns : goal.returns
unfolding made_of
returns c = grind arith
