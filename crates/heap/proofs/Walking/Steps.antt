-- The walks make swaps within the heap and nothing else, so what each swap keeps a walk keeps; and so do push and removal, after
-- their first step.
-- Assumes nothing.
use mathlib.Core.Path.{◌≡◌, refl}
use mathlib.Core.Bool.{Bool, true, false, cond}
use Prim.Native.Nat.{ℕ, zero, suc, ◌+◌, ◌-◌, ◌<◌}
use native.Mathlib.Omega.{arith}
use lib.Dec.{eqb}
use borrow.Author.Tests.{eqb-true, eqb-false}
use Rattle.theory.specs.Order.{parent}
use Rattle.heap.specs.declared.Slot.{Slot}
use Rattle.heap.specs.declared.Pos.{Pos}
use Rattle.heap.specs.declared.Place.{Place}
use Rattle.heap.specs.declared.Heap.{Heap}
use Rattle.heap.specs.declared.walk.Moved.{Moved}
use Rattle.heap.specs.Rules.{entry_at, before, put_at, swap_at, with_len, rises_at, up_from, child_of, down_from, taken_of, added_of, new_entry, pushed_of, vacated_of, filled_of, removed_of}
use Rattle.heap.proofs.Walking.Laws.{len_swap, child_below}

-- every swap of two positions below `len` keeps P
abbrev pub Swaps : (Heap → Type 0) → Type 0
Swaps P = (g : Heap) (i j : ℕ) → P g → i < g.len → j < g.len → P (swap_at g i j)

-- the last entry stands in the hole
abbrev pub move_last : Heap → Slot → Pos → Heap
move_last h t p = put_at (with_len (vacated_of h t) (h.len - 1)) p.0 (entry_at h (h.len - 1))

module _ (P : Heap → Type 0) where
  keeps_if : (t : Bool) (x y : Moved) → (t ≡ true → P x.heap) → (t ≡ false → P y.heap) → P (cond t x y).heap
  keeps_if true x y f g = f refl
  keeps_if false x y f g = g refl

  module _ (w : Swaps P) where
    -- the way up
    up_by : (k : ℕ) (h : Heap) (i n : ℕ) → P h → i < h.len → P (up_from k h i n).heap
    unfolding up_from
    up_by zero h i n p b = p
    up_by (suc k) h i n p b =
        let c : parent i < h.len = omega arith in
        keeps_if (rises_at h i) _ _
        (λ _. up_by k (swap_at h i (parent i)) (parent i) (n + 1) (w h i (parent i) p b c) (rw len_swap c))
        (λ _. p)

    -- the way down
    down_by : (k : ℕ) (h : Heap) (i n : ℕ) → P h → i < h.len → P (down_from k h i n).heap
    unfolding down_from
    down_by zero h i n p b = p
    down_by (suc k) h i n p b =
        keeps_if (eqb (child_of h i) i) _ _
        (λ _. p)
        (λ e. let c : child_of h i < h.len = (child_below h i (eqb-false _ _ e)).1 in
        down_by k (swap_at h i (child_of h i)) (child_of h i) (n + 1) (w h i (child_of h i) p b c) (rw len_swap c))

    -- a push: what holds once the new entry is last holds in the end
    pub push_by : (h : Heap) (at g : ℕ) (place : Place) → P (added_of (taken_of h) (new_entry h at g place)) → P (pushed_of h at g place).heap
    unfolding pushed_of added_of taken_of put_at
    push_by h at g place p = up_by h.len (added_of (taken_of h) (new_entry h at g place)) h.len 0 p (omega arith)

    -- a removal: what holds once the last position is given up, the last entry having moved into the hole where it was not there,
    -- holds in the end
    pub remove_by_lem : (h : Heap) (t : Slot) (p : Pos) → p.0 < h.len
        → (p.0 ≡ h.len - 1 → P (with_len (vacated_of h t) (h.len - 1))) → ((p.0 ≡ h.len - 1 → ⊥) → P (move_last h t p))
        → P (removed_of h t p).heap
    unfolding removed_of filled_of vacated_of put_at
    remove_by_lem h t p b f g =
        keeps_if (eqb p.0 (h.len - 1)) _ _
        (λ e. f (eqb-true _ _ e))
        (λ e. let n : p.0 ≡ h.len - 1 → ⊥ = eqb-false _ _ e in
        let c : p.0 < h.len - 1 = omega arith in
        keeps_if (before (entry_at h (h.len - 1)) (entry_at h p.0)) _ _
        (λ _. up_by p.0 (move_last h t p) p.0 0 (g n) c)
        (λ _. down_by (h.len - 1) (move_last h t p) p.0 0 (g n) c))
