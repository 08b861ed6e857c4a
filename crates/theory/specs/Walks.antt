-- The walks up and down as relations, free of bounds and tests: a property of a walk is then shown for its stop and for one move.
-- Assumes nothing.
use Rattle.std.specs.Prelude.{◌≡◌, List, ℕ, suc, ◌≤◌, ◌<◌}
use Rattle.theory.specs.Order.{parent, Under}
use Rattle.theory.specs.Heap.{at, swap_at, child}

module _ {A : Type 0} (key : A → ℕ) (d : A) where
  -- `Up xs i ys j s`: the entry at i of xs rises by s exchanges and stands at j of ys, where it may stay
  pub data Up : List A → ℕ → List A → ℕ → ℕ → Type 0 where
    stop : {xs : List A} {i : ℕ} → (0 < i → at key d xs (parent i) ≤ at key d xs i) → Up xs i xs i 0
    move : {xs ys : List A} {i j s : ℕ} → 0 < i → at key d xs i < at key d xs (parent i) → Up (swap_at d xs i (parent i)) (parent i) ys j s → Up xs i ys j (suc s)

  -- `Down n xs i ys j s`: among the first n entries, the one at i of xs sinks by s exchanges, each with a least child, to j of ys
  pub data Down (n : ℕ) : List A → ℕ → List A → ℕ → ℕ → Type 0 where
    stop : {xs : List A} {i : ℕ} → Under (at key d xs) n i (at key d xs i) → Down n xs i xs i 0
    move : {xs ys : List A} {i j s : ℕ} (c : ℕ) → c ≡ child key d xs n i → 0 < c → c < n → parent c ≡ i → at key d xs c < at key d xs i → Under (at key d xs) n i (at key d xs c)
        → Down n (swap_at d xs i c) c ys j s → Down n xs i ys j (suc s)
