-- A test of the first n numbers passes exactly where each of them does.
-- Assumes nothing.
use mathlib.Core.Path.{◌≡◌, refl, ap, subst}
use mathlib.Core.Bool.{Bool, true, false, ◌&&◌}
use mathlib.Core.Logic.{by_cases}
use Prim.Native.Nat.{ℕ, zero, suc, ◌+◌, ◌<◌}
use native.Mathlib.Decide.{dec_lt}
use native.Mathlib.Numerals.{add-one}
use native.Mathlib.Omega.{arith}
use Rattle.theory.proofs.Tests.{and_left, and_right, is_false, true_false}
use Rattle.digits.specs.Rows.{all_to}

module _ (ok : ℕ → Bool) where
  pub all_none : all_to ok 0 ≡ true
  unfolding all_to
  all_none = refl

  -- one number more
  pub all_more : (n : ℕ) → all_to ok (n + 1) ≡ (all_to ok n && ok n)
  unfolding all_to
  all_more n = ap (all_to ok) (add-one n)

  pub all_by : (n : ℕ) → ((j : ℕ) → j < n → ok j ≡ true) → all_to ok n ≡ true
  unfolding all_to
  all_by zero h = refl
  all_by (suc n) h = (λ k. all_by n (λ j q. h j (omega arith)) k && h n (omega arith) k)

  pub all_at : (n : ℕ) → all_to ok n ≡ true → (j : ℕ) → j < n → ok j ≡ true
  unfolding all_to
  all_at zero e j q = absurd (omega arith)
  all_at (suc n) e j q =
      by_cases (dec_lt j n) (λ p. all_at n (and_left (all_to ok n) (ok n) e) j p)
      (λ p. let d : n ≡ j = omega arith in subst (λ (m : ℕ). ok m ≡ true) d (and_right (all_to ok n) (ok n) e))

  -- one that does not pass
  pub all_not : (n j : ℕ) → j < n → ok j ≡ false → all_to ok n ≡ false
  all_not n j q e = is_false (all_to ok n) (λ a. true_false (all_at n a j q) e)

  -- two tests that are the same below n
  pub all_ext : (other : ℕ → Bool) (n : ℕ) → ((j : ℕ) → j < n → ok j ≡ other j) → all_to ok n ≡ all_to other n
  unfolding all_to
  all_ext other zero h = refl
  all_ext other (suc n) h = λ k. all_ext other n (λ j q. h j (omega arith)) k && h n (omega arith) k

-- two tests of two things, in either order
pub two_tests : (a b c d : Bool) → ((a && b) && (c && d)) ≡ ((a && c) && (b && d))
two_tests true true c d = refl
two_tests true false true d = refl
two_tests true false false d = refl
two_tests false b c d = refl

pub and_true : (b : Bool) → b ≡ (b && true)
and_true true = refl
and_true false = refl
