-- `log2` is the logarithm: the largest power of 2 within a number, and the number of its leading zeros in a word.
-- Assumes nothing.
use mathlib.Core.Path.{◌≡◌}
use Prim.Native.Nat.{ℕ, zero, suc, ◌+◌, ◌-◌, ◌/◌, ◌^◌, ◌≤◌, ◌<◌}
use native.Mathlib.Nat.{lt_of_not-le}
use native.Mathlib.Omega.{arith}
use lib.Count.{count_leading_zeros, leading_unique}
use lib.Pow.{pow_pos, pow_mono}
use Rattle.theory.specs.Logarithm.{log_by, log2}
use Rattle.theory.proofs.Tests.{ref_lt, cond-ref}

log_by_le : (f m s : ℕ) → m ≤ f → 2 ^ s ≤ m → s ≤ log_by f m
unfolding log_by
log_by_le f m zero b h = omega arith
log_by_le zero m (suc s) b h = omega (arith, pow_pos s)
log_by_le (suc f) m (suc s) b h =
    cond-ref (λ (r : ℕ). suc s ≤ r) (ref_lt m 2) (λ l. omega (arith, pow_pos s)) (λ l. omega (arith, log_by_le f (m / 2) s (omega arith) (omega arith)))

-- where 2 ^ s is at most m, s is at most the logarithm of m
pub log2_le : (m s : ℕ) → 2 ^ s ≤ m → s ≤ log2 m
unfolding log2
log2_le m s h = log_by_le m m s (omega arith) h

log_by_pow : (f m : ℕ) → m ≤ f → 0 < m → (2 ^ log_by f m ≤ m) × (m < 2 ^ suc (log_by f m))
unfolding log_by
log_by_pow zero m b p = omega arith
log_by_pow (suc f) m b p =
    cond-ref (λ (r : ℕ). (2 ^ r ≤ m) × (m < 2 ^ suc r)) (ref_lt m 2) (λ l. omega arith) (λ l. omega (arith, log_by_pow f (m / 2) (omega arith) (omega arith)))

-- a number that is not 0 lies between 2 to its logarithm and the next power of 2
pub log2_pow : (m : ℕ) → 0 < m → (2 ^ log2 m ≤ m) × (m < 2 ^ suc (log2 m))
unfolding log2
log2_pow m p = log_by_pow m m (omega arith) p

-- in a word of 64 bits, the logarithm, 1 and the leading zeros make 64
pub log2_zeros : (m : ℕ) → 0 < m → m < 2 ^ 64 → log2 m + 1 + count_leading_zeros 64 m ≡ 64
log2_zeros m p h =
    let e = log2_pow m p in
    let b : log2 m < 64 = lt_of_not-le (λ (g : 64 ≤ log2 m). omega (arith, pow_mono g)) in
    omega (arith, leading_unique 64 m (63 - log2 m) (suc (log2 m)) (omega arith) e.1 (omega arith))
