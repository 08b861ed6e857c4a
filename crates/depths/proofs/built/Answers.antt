-- Each stage is that of the rule, on what the stages before it leave.
-- Assumes nothing.
use native.Mathlib.Omega.{arith}
use Rattle.depths.specs.Rules.{built_of}
use Rattle.depths.proofs.built.Goals as goal

pub returns : goal.returns
unfolding built_of
returns c = grind arith
