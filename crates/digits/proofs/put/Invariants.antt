-- The last byte is put first; what is left to put makes the whole.
-- Assumes nothing.
use mathlib.Core.Path.{◌≡◌}
use lib.Seq.{sets}
use Rattle.digits.specs.Digits.{digits}
use Rattle.digits.proofs.put.Given as goal

-- i bytes are left to put, and those of m are what is left
abbrev pub invariant-loop-i : goal.invariant-loop-i
invariant-loop-i l = sets l.out l.at (digits l.i l.m) ≡ sets l.initial.out l.at (digits l.k l.n)
