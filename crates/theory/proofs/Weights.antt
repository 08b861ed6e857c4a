-- What weighing a list and having all its entries have a property come to, place by place and part by part.
-- Assumes nothing.
use mathlib.Core.Path.{◌≡◌, refl}
use mathlib.Core.Bool.{not}
use mathlib.Core.List.{List, [], ◌∷◌, ◌++◌}
use Prim.Native.Nat.{ℕ, zero, suc, ◌+◌, ◌≤◌, ◌<◌}
use native.Mathlib.Nat.{not-suc-le-zero, le_of_suc-le-suc, suc_inj, zero-lt-suc}
use native.Mathlib.Omega.{arith}
use lib.ListN.{length, get_or, set, take}
use Rattle.theory.specs.Tests.{bit, is_yes}
use Rattle.theory.specs.Weights.{total, All}

-- two lists in a row weigh what each of them weighs
pub total_append : {A : Type 0} (w : A → ℕ) (xs ys : List A) → total w (xs ++ ys) ≡ total w xs + total w ys
total_append w [] ys = omega arith
total_append w (x ∷ xs) ys = omega (arith, total_append w xs ys)

module _ {A : Type 0} (w : A → ℕ) (d : A) where
  -- a store takes the old entry's weight away and adds the new one's
  pub total_set : (xs : List A) (i : ℕ) (a : A) → i < length xs → total w (set xs i a) + w (get_or xs i d) ≡ total w xs + w a
  total_set [] i a h = absurd (not-suc-le-zero h)
  total_set (x ∷ xs) zero a h = omega arith
  total_set (x ∷ xs) (suc i) a h = omega (arith, total_set xs i a (le_of_suc-le-suc h))

  -- a list weighs what it weighs without its last entry, and that entry
  pub total_last : (xs : List A) (n : ℕ) → length xs ≡ suc n → total w (take n xs) + w (get_or xs n d) ≡ total w xs
  total_last [] n h = omega arith
  total_last (x ∷ []) zero h = omega arith
  total_last (x ∷ (y ∷ ys)) zero h = omega arith
  total_last (x ∷ xs) (suc n) h = omega (arith, total_last xs n (suc_inj h))

module _ {A : Type 0} (P : A → Type 0) where
  -- what the entry at each place has, all have
  pub all_places : (d : A) (xs : List A) → ((i : ℕ) → i < length xs → P (get_or xs i d)) → All P xs
  all_places d [] h = tt
  all_places d (x ∷ xs) h = (h 0 (zero-lt-suc (length xs)), all_places d xs (λ i b. h (suc i) (omega arith)))

  -- where only what has the property weighs 0, a list that weighs 0 has it throughout
  all_zero : (w : A → ℕ) → ((x : A) → w x ≡ 0 → P x) → (xs : List A) → total w xs ≡ 0 → All P xs
  all_zero w f [] e = tt
  all_zero w f (x ∷ xs) e = (f x (omega arith), all_zero w f xs (omega arith))

  -- where all that has the property weighs 0, a list that has it throughout weighs 0
  pub zero_all : (w : A → ℕ) → ((x : A) → P x → w x ≡ 0) → (xs : List A) → All P xs → total w xs ≡ 0
  zero_all w f [] a = refl
  zero_all w f (x ∷ xs) a = omega (arith, f x a.0, zero_all w f xs a.1)

  -- two weights that agree on all that has the property weigh a list that has it throughout the same
  pub total_all : (v w : A → ℕ) → ((x : A) → P x → v x ≡ w x) → (xs : List A) → All P xs → total v xs ≡ total w xs
  total_all v w f [] a = refl
  total_all v w f (x ∷ xs) a = omega (arith, f x a.0, total_all v w f xs a.1)

lacks_zero : {P : Type 0} (q : Dec P) → bit (not (is_yes q)) ≡ 0 → P
lacks_zero (yes p) e = p
lacks_zero (no n) e = absurd (omega arith)

zero_lacks : {P : Type 0} (q : Dec P) → P → bit (not (is_yes q)) ≡ 0
zero_lacks (yes p) h = refl
zero_lacks (no n) h = absurd (n h)

-- where ys weighs no more than xs by any weight, ys has throughout what xs has throughout
pub sub_all : {A : Type 0} (P : A → Type 0) → ((x : A) → Dec (P x)) → (xs ys : List A) → ((w : A → ℕ) → total w ys ≤ total w xs) → All P xs → All P ys
sub_all {A = A} P dec xs ys sub a = all_zero P lacks (λ x. lacks_zero (dec x)) ys (omega (arith, sub lacks, zero_all P lacks (λ x. zero_lacks (dec x)) xs a))
  where
    lacks : A → ℕ
    lacks x = bit (not (is_yes (dec x)))
