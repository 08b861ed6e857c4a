-- A scan for the first number that fails a test: the turns of a loop that makes it, and what its answer tells.
-- Assumes nothing.
use mathlib.Core.Path.{◌≡◌, refl, sym, ap, ◌∙◌}
use mathlib.Core.Bool.{Bool, true, false, cond}
use mathlib.Core.Option.{Option, none, some}
use Prim.Native.Nat.{ℕ, zero, suc, ◌+◌, ◌-◌, ◌≤◌, ◌<◌}
use native.Mathlib.Omega.{arith}
use Rattle.theory.specs.First.{first_bad}
use Rattle.theory.proofs.Order.{split}
use Rattle.theory.proofs.Tests.{none_some, true_false, by-ref, ref_lt}

module _ (ok : ℕ → Bool) where
  -- a turn that goes on
  pub first_goes : (n k : ℕ) → 0 < n → ok k ≡ true → first_bad ok n k ≡ first_bad ok (n - 1) (k + 1)
  unfolding first_bad
  first_goes zero k h e = absurd (omega arith)
  first_goes (suc n) k h e = let m : n ≡ suc n - 1 = omega arith in rw e (ap (λ (j : ℕ). first_bad ok j (k + 1)) m)

  -- a turn that finds one
  pub first_here : (n k : ℕ) → 0 < n → ok k ≡ false → first_bad ok n k ≡ some k
  unfolding first_bad
  first_here zero k h e = absurd (omega arith)
  first_here (suc n) k h e = rw e

  -- no number is left
  pub first_done : (n k : ℕ) → n ≡ 0 → first_bad ok n k ≡ none
  unfolding first_bad
  first_done n k e = rw e

  -- where none is found, all pass
  pub none_all : (n k : ℕ) → first_bad ok n k ≡ none → (i : ℕ) → k ≤ i → i < k + n → ok i ≡ true
  unfolding first_bad
  none_all zero k e i l h = absurd (omega arith)
  none_all (suc n) k e i l h = go (ok k) refl e (λ q m. none_all n (k + 1) q i m (omega arith))
    where
      go : (b : Bool) → ok k ≡ b → cond b (first_bad ok n (k + 1)) (some k) ≡ none → (first_bad ok n (k + 1) ≡ none → k + 1 ≤ i → ok i ≡ true) → ok i ≡ true
      go true q e r = split i k (λ d. ap ok d ∙ q) (λ d. r e (omega arith))
      go false q e r = absurd (none_some e refl)

  -- where all pass, none is found
  pub all_none : (n k : ℕ) → ((i : ℕ) → k ≤ i → i < k + n → ok i ≡ true) → first_bad ok n k ≡ none
  unfolding first_bad
  all_none zero k h = refl
  all_none (suc n) k h = rw (h k (omega arith) (omega arith)) (all_none n (k + 1) (λ i l b. h i (omega arith) (omega arith)))

  -- where one is found it fails, and all before it pass
  pub some_first : (n k j : ℕ) → first_bad ok n k ≡ some j → (k ≤ j) × (j < k + n) × (ok j ≡ false) × ((i : ℕ) → k ≤ i → i < j → ok i ≡ true)
  unfolding first_bad
  some_first zero k j e = absurd (none_some refl e)
  some_first (suc n) k j e = go (ok k) refl e (some_first n (k + 1) j)
    where
      go : (b : Bool) → ok k ≡ b → cond b (first_bad ok n (k + 1)) (some k) ≡ some j
          → (first_bad ok n (k + 1) ≡ some j
          → (k + 1 ≤ j) × (j < k + 1 + n) × (ok j ≡ false) × ((i : ℕ) → k + 1 ≤ i → i < j → ok i ≡ true))
          → (k ≤ j) × (j < k + suc n) × (ok j ≡ false) × ((i : ℕ) → k ≤ i → i < j → ok i ≡ true)
      go true q e r =
          let a = r e in
          (omega arith, omega arith, a.2, λ i l h. split i k (λ d. ap ok d ∙ q) (λ d. a.3 i (omega arith) h))
      go false q e r =
          let d : k ≡ j = cc in
          (omega arith, omega arith, ap ok (sym d) ∙ q, λ i l h. absurd (omega arith))

  -- the first that fails is found
  pub first_some : (n k j : ℕ) → k ≤ j → j < k + n → ok j ≡ false → ((i : ℕ) → k ≤ i → i < j → ok i ≡ true) → first_bad ok n k ≡ some j
  first_some n k j l h e a = go (first_bad ok n k) refl
    where
      go : (o : Option ℕ) → first_bad ok n k ≡ o → o ≡ some j
      go none q = true_false (none_all n k q j l h) e
      go (some m) q =
          let b = some_first n k m q in
          split m j (λ d. ap some d)
          (λ d. by-ref (ref_lt m j) (λ g. true_false (a m b.0 g) b.2) (λ g. true_false (b.3 j l (omega arith)) e))

-- scans of tests that agree find the same
pub first_same : (ok ok' : ℕ → Bool) (n k : ℕ) → ((i : ℕ) → k ≤ i → i < k + n → ok i ≡ ok' i) → first_bad ok n k ≡ first_bad ok' n k
unfolding first_bad
first_same ok ok' zero k h = refl
first_same ok ok' (suc n) k h =
    rw (h k (omega arith) (omega arith), first_same ok ok' n (k + 1) (λ i l b. h i (omega arith) (omega arith)))
