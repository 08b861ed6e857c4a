-- How a count changes with its test and its bound.
-- Assumes nothing.
use mathlib.Core.Path.{◌≡◌, refl, sym, ◌∙◌, ap, ap₂, subst}
use mathlib.Core.Logic.{⊎_elim}
use mathlib.Core.Bool.{Bool, true, false}
use mathlib.Core.List.{List}
use Prim.Native.Nat.{ℕ, zero, suc, ◌+◌, ◌<◌, ◌≤◌}
use native.Mathlib.Nat.{eq-or-lt_of_le, le_of_suc-le-suc}
use native.Mathlib.Numerals.{add-one}
use native.Mathlib.Omega.{arith}
use lib.ListN.{length, get_or, take}
use Rattle.std.specs.List.{count_by}
use Rattle.std.proofs.lemmas.List.Sums.{count_by_more_yes, count_by_more_no}
use Rattle.theory.specs.Counting.{tally, count}
use Rattle.theory.proofs.Tests.{true_false}

-- a bound higher by one counts one more where the last number passes
pub count_yes : (f : ℕ → Bool) (i : ℕ) → f i ≡ true → count f (i + 1) ≡ count f i + 1
unfolding count
count_yes f i h = rw (add-one i, add-one (count f i), h)

-- a bound higher by one counts the same where the last number does not pass
pub count_no : (f : ℕ → Bool) (i : ℕ) → f i ≡ false → count f (i + 1) ≡ count f i
unfolding count
count_no f i h = rw (add-one i, h)

-- no more numbers pass than there are below the bound
pub count_le : (f : ℕ → Bool) (n : ℕ) → count f n ≤ n
unfolding count
count_le f zero = omega arith
count_le f (suc n) = go (f n) (count_le f n)
  where
    go : (b : Bool) → count f n ≤ n → tally b (count f n) ≤ suc n
    go true h = omega arith
    go false h = omega arith

-- tests that agree below the bound count the same
pub count_same : (f g : ℕ → Bool) (n : ℕ) → ((i : ℕ) → i < n → f i ≡ g i) → count f n ≡ count g n
unfolding count
count_same f g zero h = refl
count_same f g (suc n) h = ap₂ tally (h n (omega arith)) (count_same f g n (λ i l. h i (omega arith)))

-- tests that differ at one number below the bound, where f fails and g passes: g counts one more
pub count_off : (f g : ℕ → Bool) (n x : ℕ) → ((i : ℕ) → (i ≡ x → ⊥) → f i ≡ g i) → f x ≡ false → g x ≡ true → x < n
    → count g n ≡ suc (count f n)
unfolding count
count_off f g zero x h p q l = absurd (omega arith)
count_off f g (suc n) x h p q l =
    ⊎_elim
    (λ e. ap₂ tally (subst (λ (k : ℕ). g k ≡ true) e q) (count_same g f n (λ i b. sym (h i (omega arith))))
    ∙ ap (λ (b : Bool). suc (tally b (count f n))) (sym (subst (λ (k : ℕ). f k ≡ false) e p)))
    (λ b. ap₂ tally (sym (h n (omega arith))) (count_off f g n x h p q b) ∙ tally_suc (f n) (count f n))
    (eq-or-lt_of_le (le_of_suc-le-suc l))
  where
    tally_suc : (b : Bool) (k : ℕ) → tally b (suc k) ≡ suc (tally b k)
    tally_suc true k = refl
    tally_suc false k = refl

-- where none below the bound passes the count is 0
pub count_none : (f : ℕ → Bool) (n : ℕ) → ((i : ℕ) → i < n → f i ≡ false) → count f n ≡ 0
unfolding count
count_none f zero h = refl
count_none f (suc n) h = ap₂ tally (h n (omega arith)) (count_none f n (λ i l. h i (omega arith)))

-- where the count is 0 none below the bound passes
pub count_zero : (f : ℕ → Bool) (n : ℕ) → count f n ≡ 0 → (i : ℕ) → i < n → f i ≡ true → ⊥
unfolding count
count_zero f zero e i l t = omega arith
count_zero f (suc n) e i l t = go (f n) refl (λ e b. count_zero f n e i b t)
  where
    go : (b : Bool) → f n ≡ b → (count f n ≡ 0 → i < n → ⊥) → ⊥
    go true q r = let z : suc (count f n) ≡ 0 = sym (ap (λ (b : Bool). tally b (count f n)) q) ∙ e in omega arith
    go false q r =
        ⊎_elim (λ d. true_false t (ap f d ∙ q)) (r (sym (ap (λ (b : Bool). tally b (count f n)) q) ∙ e))
        (eq-or-lt_of_le (le_of_suc-le-suc l))

-- the items at the start of a list that pass a test, and the numbers at which they stand
pub count_listed : {X : Type 0} (test : X → Bool) (xs : List X) (d : X) (f : ℕ → Bool) (n : ℕ) → n ≤ length xs
    → ((i : ℕ) → i < n → test (get_or xs i d) ≡ f i) → count_by test (take n xs) ≡ count f n
unfolding count
count_listed test xs d f zero l h = refl
count_listed test xs d f (suc n) l h = go (f n) refl (count_listed test xs d f n (omega arith) (λ i b. h i (omega arith)))
  where
    go : (b : Bool) → f n ≡ b → count_by test (take n xs) ≡ count f n → count_by test (take (suc n) xs) ≡ tally b (count f n)
    go true e r = grind (arith, r, count_by_more_yes test xs n d (omega arith) (h n (omega arith) ∙ e), add-one n)
    go false e r = grind (arith, r, count_by_more_no test xs n d (omega arith) (h n (omega arith) ∙ e), add-one n)
