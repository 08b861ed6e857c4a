-- The logarithm, 1 and the leading zeros make 64, so 63 less the leading zeros is the logarithm; that of 0 is 0.
-- Assumes nothing.
use native.Mathlib.Omega.{arith}
use Rattle.theory.specs.Logarithm.{log_by, log2}
use Rattle.theory.proofs.Logarithm.{log2_zeros}
use Rattle.heap.proofs.height.Goals as goal

pub returns-then-n-eq0 : goal.returns-then-n-eq0
unfolding log2 log_by
returns-then-n-eq0 c = rw c.if-n-eq0.true

pub returns : goal.returns
returns c = omega (arith, log2_zeros c.args.n (omega arith) (omega (arith, c.ranges.n)))
