-- How many exchanges a push and a removal make: each one halves the way to the top, or doubles the distance from it.
-- Assumes nothing.
use mathlib.Core.Path.{ap}
use mathlib.Core.List.{List, [], ◌∷◌, ◌++◌}
use Prim.Native.Nat.{ℕ, ◌+◌, ◌-◌, ◌*◌, ◌^◌, ◌≤◌, ◌<◌}
use native.Mathlib.Nat.{mul-le-mul_left, pow-suc}
use native.Mathlib.Omega.{arith}
use lib.ListN.{length}
use Rattle.theory.specs.Heap.{Moved, at, push, fill, removeAt}
use Rattle.theory.specs.Walks.{Up, Down}
use Rattle.theory.specs.Logarithm.{log2}
use Rattle.theory.proofs.Tests.{ref_lt, ref_eq, cond-ref}
use Rattle.theory.proofs.Walks.{up_run, down_run}
use Rattle.theory.proofs.Logarithm.{log2_le}

module _ {A : Type 0} (key : A → ℕ) (d : A) where
  -- 2 to the exchanges of a walk up from i is at most i + 1
  up_swaps : {xs ys : List A} {i j s : ℕ} → Up key d xs i ys j s → 2 ^ s ≤ i + 1
  up_swaps (Up.stop {i = i} t) = omega arith
  up_swaps (Up.move {i = i} {s = s} p l r) = omega (arith, up_swaps r)

  -- 2 to the exchanges of a walk down from i among n entries, times i + 1, is at most n
  down_swaps : {n : ℕ} {xs ys : List A} {i j s : ℕ} → Down key d n xs i ys j s → i < n → 2 ^ s * (i + 1) ≤ n
  down_swaps (Down.stop {i = i} t) h = omega arith
  down_swaps (Down.move {i = i} {s = s} c z p b q l m r) h =
      let k : 2 * (i + 1) ≤ c + 1 = omega arith in
      omega (arith, down_swaps r b, mul-le-mul_left (2 ^ s) k, ap (λ (x : ℕ). x * (i + 1)) (pow-suc 2 s))

  -- 2 to the exchanges of a push is at most the entries that there are then
  push_swaps : (xs : List A) (x : A) → 2 ^ (push key d xs x).swaps ≤ length xs + 1
  unfolding push
  push_swaps xs x = up_swaps (up_run key d (length xs) (xs ++ (x ∷ [])) (length xs) (omega arith))

  -- 2 to the exchanges of a removal is at most the entries that are left, where any are
  remove_swaps : (xs : List A) (i : ℕ) → i < length xs → 1 < length xs → 2 ^ (removeAt key d xs i).swaps ≤ length xs - 1
  unfolding removeAt
  remove_swaps xs i h o =
      cond-ref (λ (r : Moved A). 2 ^ r.swaps ≤ length xs - 1) (ref_eq i (length xs - 1)) (λ e. omega arith)
      (λ m. cond-ref (λ (r : Moved A). 2 ^ r.swaps ≤ length xs - 1) (ref_lt (at key d xs (length xs - 1)) (at key d xs i))
      (λ l. omega (arith, up_swaps (up_run key d (length xs - 1) (fill d xs i) i (omega arith))))
      (λ l. omega (arith, down_swaps (down_run key d (length xs - 1) (fill d xs i) (length xs - 1) i (omega arith)) (omega arith))))

  -- a push makes at most as many exchanges as the logarithm of the entries that there are then
  pub push_log : (xs : List A) (x : A) → (push key d xs x).swaps ≤ log2 (length xs + 1)
  push_log xs x = log2_le (length xs + 1) (push key d xs x).swaps (push_swaps xs x)

  -- a removal makes at most as many exchanges as the logarithm of the entries that are left, where any are
  pub remove_log : (xs : List A) (i : ℕ) → i < length xs → 1 < length xs → (removeAt key d xs i).swaps ≤ log2 (length xs - 1)
  remove_log xs i h o = log2_le (length xs - 1) (removeAt key d xs i).swaps (remove_swaps xs i h o)
