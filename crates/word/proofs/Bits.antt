-- What the masks of the code come to in plain arithmetic.
-- Assumes nothing.
use Rattle.std.proofs.Common.{◌≡◌, ℕ, ◌+◌, ◌*◌, ◌/◌, ◌%◌, ◌^◌, ◌<◌, not, eqb, ◌∙◌, arith, eq-eqb, ne_eqb}
use native.Mathlib.Decide.{ℕ_discrete}
use lib.Bits.{bit_and, bit_or, and_mask, and_high, or_add_and}

-- the lowest bit
low : (w : ℕ) → bit_and w 1 ≡ w % 2
low w = and_mask w 1

-- the bit above it, where it stands
pub second : (w : ℕ) → bit_and w 2 ≡ w / 2 % 2 * 2
second w = and_high w 1 1

-- both
pub marks : (w : ℕ) → bit_and w 3 ≡ w % 4
marks w = and_mask w 2

-- all bits of a 32-bit word but those two
pub unmarked : (w : ℕ) → w < 2 ^ 32 → bit_and w 0xffff_fffc ≡ w / 4 * 4
unmarked w h = let e : w / 4 % 2 ^ 30 * 4 ≡ w / 4 * 4 = omega arith in and_high w 30 2 ∙ e

-- the lowest bit set
pub low_set : (w : ℕ) → bit_or w 1 ≡ w / 2 * 2 + 1
low_set w = omega (arith, or_add_and w 1, low w)

-- the bit above it set
pub second_set : (w : ℕ) → bit_or w 2 ≡ w / 4 * 4 + 2 + w % 2
second_set w = omega (arith, or_add_and w 2, second w)

-- a bit is 1 where what a mask leaves of it is not 0
set_test : (x b : ℕ) → b < 2 → (b ≡ 0 → x ≡ 0) → (x ≡ 0 → b ≡ 0) → not (eqb x 0) ≡ eqb b 1
set_test x b h to from = go (ℕ_discrete x 0)
  where
    go : Dec (x ≡ 0) → not (eqb x 0) ≡ eqb b 1
    go (yes z) = rw (eq-eqb x 0 z, ne_eqb b 1 (λ e. omega (arith, from z)))
    go (no z) =
        let n : b ≡ 0 → ⊥ = λ e. z (to e) in
        rw (ne_eqb x 0 z, eq-eqb b 1 (omega arith))

-- the test of the lowest bit
pub low_test : (w : ℕ) → not (eqb (bit_and w 1) 0) ≡ eqb (w % 2) 1
low_test w = set_test (bit_and w 1) (w % 2) (omega arith) (λ e. low w ∙ e) (λ e. omega (arith, low w))

-- the test of the bit above it
pub second_test : (w : ℕ) → not (eqb (bit_and w 2) 0) ≡ eqb (w / 2 % 2) 1
second_test w = set_test (bit_and w 2) (w / 2 % 2) (omega arith) (λ e. omega (arith, second w)) (λ e. omega (arith, second w))

-- a word of the generation is the generation times four where neither mark is set
pub whole_test : (w g : ℕ) → w / 4 ≡ g → eqb (bit_and w 3) 0 ≡ eqb w (g * 4)
whole_test w g e = go (ℕ_discrete (bit_and w 3) 0)
  where
    go : Dec (bit_and w 3 ≡ 0) → eqb (bit_and w 3) 0 ≡ eqb w (g * 4)
    go (yes z) = rw (eq-eqb (bit_and w 3) 0 z, eq-eqb w (g * 4) (omega (arith, marks w)))
    go (no n) = rw (ne_eqb (bit_and w 3) 0 n, ne_eqb w (g * 4) (λ q. n (omega (arith, marks w))))
