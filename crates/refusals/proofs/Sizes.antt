-- How far a number is from zero: where it is below, one more than what is left when it is taken from -1.
-- Assumes nothing.
use mathlib.Core.Path.{◌≡◌, refl, ap}
use mathlib.Core.Bool.{true, false}
use Prim.Native.Nat.{suc, ◌+◌, ◌-◌, zero-le}
use native.Mathlib.Omega.{arith}
use lib.IntN.{ℤ, pos, negsuc, nat_abs, ◌-ℤ◌}
use lib.Signed.{mag, lt_z}
use borrow.Author.Tests.{le-ltb}
use Rattle.theory.proofs.Tests.{true_false}

-- what is left of -1, for a number below zero
pub turned : (z : ℤ) → lt_z z (pos 0) ≡ true → negsuc 0 -ℤ z ≡ pos (mag z)
turned (pos n) e = true_false e (le-ltb n 0 zero-le)
turned (negsuc n) e = rw (le-ltb (suc n) 1 (omega arith)) (let m : suc n - 1 ≡ n = omega arith in ap pos m)

-- and one more than that
pub one_more : (z : ℤ) → lt_z z (pos 0) ≡ true → mag z + 1 ≡ nat_abs z
one_more (pos n) e = true_false e (le-ltb n 0 zero-le)
one_more (negsuc n) e = omega arith

-- any other number is zero or more
pub not_below : (z : ℤ) → lt_z z (pos 0) ≡ false → z ≡ pos (mag z)
not_below (pos n) e = refl
not_below (negsuc n) e = true_false refl e
