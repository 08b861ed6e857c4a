-- The decimal digits of a number: one digit, or those of a tenth and one more; and how many they are.
-- Assumes nothing.
use mathlib.Core.Path.{◌≡◌, ap}
use mathlib.Core.Logic.{by_cases}
use mathlib.Core.List.{List, [], ◌∷◌, ◌++◌}
use Prim.Native.Nat.{ℕ, zero, suc, ◌/◌, ◌%◌, ◌^◌, ◌≤◌, ◌<◌}
use native.Mathlib.Nat.{pow-suc}
use native.Mathlib.Decide.{dec_lt}
use native.Mathlib.Omega.{arith}
use borrow.Author.Tests.{lt-ltb, le-ltb}
use lib.ListN.{length, length-append}
use Rattle.records.specs.Lines.{digit, digits, decimal}

-- a bound on the number of digits, if it is one, does not matter
same : (f g n : ℕ) → n < f → n < g → digits f n ≡ digits g n
same zero g n p q = absurd (omega arith)
same (suc f) zero n p q = absurd (omega arith)
same (suc f) (suc g) n p q =
    by_cases (dec_lt n 10)
    (λ b. rw (lt-ltb n 10 b))
    (λ b.
    let t : 10 ≤ n = omega arith in
    rw (le-ltb n 10 t) (ap (λ (l : List ℕ). l ++ (digit (n % 10) ∷ [])) (same f g (n / 10) (omega arith) (omega arith))))

-- a number below 10 is its digit
pub decimal_one : (n : ℕ) → n < 10 → decimal n ≡ digit n ∷ []
unfolding decimal
decimal_one n h = rw (lt-ltb n 10 h)

-- any other is its tenth and the last digit
pub decimal_more : (n : ℕ) → 10 ≤ n → decimal n ≡ decimal (n / 10) ++ (digit (n % 10) ∷ [])
unfolding decimal
decimal_more n h = rw (le-ltb n 10 h) (ap (λ (l : List ℕ). l ++ (digit (n % 10) ∷ [])) (same n (suc (n / 10)) (n / 10) (omega arith) (omega arith)))

-- below a power of ten there are as many digits as it says, or fewer
decimal_short : (k n : ℕ) → n < 10 ^ suc k → length (decimal n) ≤ suc k
decimal_short zero n h = rw (decimal_one n h) (omega arith)
decimal_short (suc k) n h =
    by_cases (dec_lt n 10)
    (λ b. rw (decimal_one n b) (omega arith))
    (λ b.
    let t : 10 ≤ n = omega arith in
    let i : length (decimal (n / 10)) ≤ suc k = decimal_short k (n / 10) (omega (arith, pow-suc 10 (suc k))) in
    rw (decimal_more n t) (simp length-append (omega arith)))

-- a number of 32 bits has at most 10 digits, one of 64 bits at most 20
pub digits_of_32 : (n : ℕ) → n < 2 ^ 32 → length (decimal n) ≤ 10
digits_of_32 n h = decimal_short 9 n (omega arith)

pub digits_of_64 : (n : ℕ) → n < 2 ^ 64 → length (decimal n) ≤ 20
digits_of_64 n h = decimal_short 19 n (omega arith)
