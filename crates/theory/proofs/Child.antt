-- Which child of a place `child` chooses.
-- Assumes nothing.
use mathlib.Core.Path.{◌≡◌, ap}
use mathlib.Core.Logic.{◌≢◌}
use mathlib.Core.List.{List}
use Prim.Native.Nat.{ℕ, ◌+◌, ◌*◌, ◌≤◌, ◌<◌}
use native.Mathlib.Omega.{arith}
use Rattle.theory.specs.Order.{parent}
use Rattle.theory.specs.Heap.{at, child}
use Rattle.theory.proofs.Tests.{ref_lt, ref_and, cond-ref, cond-and}
use Rattle.theory.proofs.Order.{split}

module _ {A : Type 0} (key : A → ℕ) (d : A) (xs : List A) (n i : ℕ) where
  -- it is a child of i
  pub child_parent : (0 < child key d xs n i) × (parent (child key d xs n i) ≡ i)
  unfolding child
  child_parent = cond-ref (λ (c : ℕ). (0 < c) × (parent c ≡ i)) (ref_and (ref_lt (2 * i + 2) n) (ref_lt (at key d xs (2 * i + 2)) (at key d xs (2 * i + 1))))
      (λ q. omega arith) (λ q. omega arith)

  -- where i has a child below n, the one chosen is below n and no child's key is less
  pub child_least : (k : ℕ) → 0 < k → k < n → parent k ≡ i → (child key d xs n i < n) × (at key d xs (child key d xs n i) ≤ at key d xs k)
  unfolding child
  child_least k p h e =
      cond-and (λ (c : ℕ). (c < n) × (at key d xs c ≤ at key d xs k)) (ref_lt (2 * i + 2) n) (ref_lt (at key d xs (2 * i + 2)) (at key d xs (2 * i + 1)))
      (λ b l. split k (2 * i + 2) (λ a. omega (arith, ap (at key d xs) a)) (λ a. omega (arith, ap (at key d xs) (left_of a))))
      (λ b. omega (arith, ap (at key d xs) (left_of (omega arith))))
      (λ b l. split k (2 * i + 2) (λ a. omega (arith, ap (at key d xs) a)) (λ a. omega (arith, ap (at key d xs) (left_of a))))
    where
      left_of : k ≢ 2 * i + 2 → k ≡ 2 * i + 1
      left_of a = omega arith
