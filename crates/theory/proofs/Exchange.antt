-- What a list holds after two of its entries are exchanged, and after its last entry is moved to another's place.
-- Assumes nothing.
use mathlib.Core.Path.{◌≡◌, sym, ap, ◌∙◌}
use mathlib.Core.Logic.{◌≢◌}
use mathlib.Core.List.{List}
use Prim.Native.Nat.{ℕ, ◌+◌, ◌-◌, ◌<◌}
use native.Mathlib.Omega.{arith}
use lib.ListN.{length, get_or, set, take, length-set}
use lib.Seq.{get_or-set_same, get_or-set_other, get_or-take, length-take-le, lt-length-set}
use Rattle.theory.specs.Order.{Swapped}
use Rattle.theory.specs.Heap.{swap_at, fill}
use Rattle.theory.specs.Weights.{total}
use Rattle.theory.proofs.Weights.{total_set, total_last}

module _ {A : Type 0} (d : A) where
  -- an exchange keeps the length
  pub length_swap : (xs : List A) (i j : ℕ) → length (swap_at d xs i j) ≡ length xs
  unfolding swap_at
  length_swap xs i j = simp length-set

  module _ (xs : List A) (i j : ℕ) (hi : i < length xs) (hj : j < length xs) (n : i ≢ j) where
    -- at i stands what stood at j
    pub swap_left : get_or (swap_at d xs i j) i d ≡ get_or xs j d
    unfolding swap_at
    swap_left = rw (get_or-set_other, get_or-set_same)

    -- at j stands what stood at i
    pub swap_right : get_or (swap_at d xs i j) j d ≡ get_or xs i d
    unfolding swap_at
    swap_right = get_or-set_same (set xs i (get_or xs j d)) j (get_or xs i d) d (lt-length-set xs i (get_or xs j d) hj)

    -- elsewhere nothing changes
    swap_other : (k : ℕ) → k ≢ i → k ≢ j → get_or (swap_at d xs i j) k d ≡ get_or xs k d
    unfolding swap_at
    swap_other k p q = rw (get_or-set_other, get_or-set_other)

    -- the keys are exchanged as the entries are
    pub swapped : (key : A → ℕ) → Swapped (λ k. key (get_or xs k d)) (λ k. key (get_or (swap_at d xs i j) k d)) i j
    swapped key = record { left = ap key swap_left; right = ap key swap_right; other = λ k p q. ap key (swap_other k p q) }

    -- an exchange keeps the weight
    pub total_swap : (w : A → ℕ) → total w (swap_at d xs i j) ≡ total w xs
    unfolding swap_at
    total_swap w =
        omega (
          arith,
          total_set w d xs i (get_or xs j d) hi,
          total_set w d (set xs i (get_or xs j d)) j (get_or xs i d) (lt-length-set xs i (get_or xs j d) hj),
          ap w (get_or-set_other xs i j (get_or xs j d) d (λ e. n (sym e))),
        )

  module _ (xs : List A) (i : ℕ) (h : i < length xs) where
    -- one entry fewer is left
    pub fill_length : length (fill d xs i) ≡ length xs - 1
    unfolding fill
    fill_length = length-set (take (length xs - 1) xs) i (get_or xs (length xs - 1) d) ∙ length-take-le (length xs - 1) xs (omega arith)

    -- at i stands what stood last
    pub fill_at : i < length xs - 1 → get_or (fill d xs i) i d ≡ get_or xs (length xs - 1) d
    unfolding fill
    fill_at b = get_or-set_same (take (length xs - 1) xs) i (get_or xs (length xs - 1) d) d (omega (arith, length-take-le (length xs - 1) xs (omega arith)))

    -- at the other places that are left nothing changes
    pub fill_other : (k : ℕ) → k < length xs - 1 → k ≢ i → get_or (fill d xs i) k d ≡ get_or xs k d
    unfolding fill
    fill_other k b n = rw (get_or-set_other, get_or-take)

    -- the list without its last entry, and that entry, weigh what the list weighs
    pub last_total : (w : A → ℕ) → total w (take (length xs - 1) xs) + w (get_or xs (length xs - 1) d) ≡ total w xs
    last_total w = total_last w d xs (length xs - 1) (omega arith)

    -- the weight falls by that of the entry that stood at i
    pub fill_total : (w : A → ℕ) → i < length xs - 1 → total w (fill d xs i) + w (get_or xs i d) ≡ total w xs
    unfolding fill
    fill_total w b =
        omega (
          arith,
          last_total w,
          ap w (get_or-take (length xs - 1) xs i d b),
          total_set w d (take (length xs - 1) xs) i (get_or xs (length xs - 1) d) (omega (arith, length-take-le (length xs - 1) xs (omega arith))),
        )
