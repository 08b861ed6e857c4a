-- The walks, and push and remove whole, on two heaps that differ only in room not in use: they choose the same way at each step,
-- since they compare entries in use only, take as many swaps, and go on differing only there.
-- Assumes nothing.
use mathlib.Core.Path.{◌≡◌, refl, sym, ◌∙◌, ap, subst}
use mathlib.Core.Bool.{Bool, true, false, cond}
use Prim.Native.Nat.{ℕ, zero, suc, ◌+◌, ◌-◌, ◌*◌, ◌<◌}
use native.Mathlib.Omega.{arith}
use lib.Dec.{ltb, eqb}
use borrow.Author.Tests.{ltb-true}
use Rattle.theory.specs.Tests.{Ref, holds, fails}
use Rattle.theory.specs.Order.{parent}
use Rattle.theory.proofs.Tests.{ref_eq}
use Rattle.heap.specs.declared.Slot.{Slot}
use Rattle.heap.specs.declared.Pos.{Pos}
use Rattle.heap.specs.declared.Place.{Place}
use Rattle.heap.specs.declared.Entry.{Entry}
use Rattle.heap.specs.declared.Heap.{Heap}
use Rattle.heap.specs.declared.walk.Moved.{Moved}
use Rattle.heap.specs.Rules.{entry_at, before, put_at, swap_at, moved, rises_at, up_from, pick_child, child_of, down_from, taken_of, with_len, added_of, new_entry, pushed_of, vacated_of, filled_of, removed_of}
use Rattle.heap.specs.Slab.{Slab}
use Rattle.heap.specs.InUse.{Twins}
use Rattle.heap.proofs.AsList.Items.{choose}
use Rattle.heap.proofs.Walking.Laws.{len_put, len_swap, len_added, len_taken, len_vacated, child_below}
use Rattle.heap.proofs.UnusedRoom.InUseStores.{put_twins, short_twins, vacated_twins, swap_twins, added_twins}

-- walks that took as many swaps, and left heaps that differ only in room not in use
pub record SameMoved (m n : Moved) : Type 0 where
  pub heaps : Twins m.heap n.heap
  pub same_swaps : m.swaps ≡ n.swaps

-- what two choices by tests that say the same have in the cases that those tell, they have
pub choose_ref : {A B : Type 0} (R : A → B → Type 0) {Q : Type 0} {s t : Bool} {x y : A} {u v : B} → s ≡ t → Ref Q t
    → (Q → R x u) → (¬ Q → R y v) → R (cond s x y) (cond t u v)
choose_ref R e (holds q) f g = rw e (f q)
choose_ref R e (fails n) f g = rw e (g n)

-- a child is picked by what the tests of the children there say
pick_same : (l r a b d a' b' d' : Bool) (i : ℕ) → (l ≡ true → a ≡ a') → (r ≡ true → b ≡ b') → (r ≡ true → d ≡ d')
    → pick_child l r a b d i ≡ pick_child l r a' b' d' i
pick_same false r a b d a' b' d' i p q s = refl
pick_same true false a b d a' b' d' i p q s = ap (λ (x : Bool). pick_child true false x b d i) (p refl) ∙ only a'
  where
    only : (x : Bool) → pick_child true false x b d i ≡ pick_child true false x b' d' i
    only true = refl
    only false = refl
pick_same true true a b d a' b' d' i p q s = λ t. pick_child true true (p refl t) (q refl t) (s refl t) i

module _ (g h : Heap) (r : Twins g h) (i : ℕ) (b : i < h.len) where
  before_same : (j k : ℕ) → j < h.len → k < h.len → before (entry_at g j) (entry_at g k) ≡ before (entry_at h j) (entry_at h k)
  before_same j k c d = λ t. before (r.same.entries j c t) (r.same.entries k d t)

  rises_same : rises_at g i ≡ rises_at h i
  unfolding rises_at
  rises_same = ap (cond (eqb i 0) false) (before_same i (parent i) b (omega arith))

  child_same : child_of g i ≡ child_of h i
  unfolding child_of
  child_same =
      ap (λ (n : ℕ). pick_child (ltb (2 * i + 1) n) (ltb (2 * i + 2) n)
      (before (entry_at g (2 * i + 1)) (entry_at g i))
      (before (entry_at g (2 * i + 2)) (entry_at g (2 * i + 1)))
      (before (entry_at g (2 * i + 2)) (entry_at g i)) i) r.same.same_len
      ∙ pick_same (ltb (2 * i + 1) h.len) (ltb (2 * i + 2) h.len) _ _ _ _ _ _ i
      (λ e. before_same (2 * i + 1) i (ltb-true _ _ e) b)
      (λ e. let c : 2 * i + 2 < h.len = ltb-true _ _ e in before_same (2 * i + 2) (2 * i + 1) c (omega arith))
      (λ e. before_same (2 * i + 2) i (ltb-true _ _ e) b)

-- the way up
up_in_use : (k : ℕ) (g h : Heap) (i n : ℕ) → Twins g h → i < h.len → SameMoved (up_from k g i n) (up_from k h i n)
unfolding up_from
up_in_use zero g h i n r b = record { heaps = r; same_swaps = refl }
up_in_use (suc k) g h i n r b =
    let c : parent i < h.len = omega arith in
    rw (rises_same g h r i b)
    (choose SameMoved (rises_at h i)
    (up_in_use k (swap_at g i (parent i)) (swap_at h i (parent i)) (parent i) (n + 1) (swap_twins g h r i (parent i) b c) (rw len_swap c))
    (record { heaps = r; same_swaps = refl }))

-- the way down
down_in_use : (k : ℕ) (g h : Heap) (i n : ℕ) → Twins g h → i < h.len → SameMoved (down_from k g i n) (down_from k h i n)
unfolding down_from
down_in_use zero g h i n r b = record { heaps = r; same_swaps = refl }
down_in_use (suc k) g h i n r b =
    rw (child_same g h r i b)
    (choose_ref SameMoved refl (ref_eq (child_of h i) i)
    (λ _. record { heaps = r; same_swaps = refl })
    (λ e. let c : child_of h i < h.len = (child_below h i e).1 in
    down_in_use k (swap_at g i (child_of h i)) (swap_at h i (child_of h i)) (child_of h i) (n + 1) (swap_twins g h r i (child_of h i) b c) (rw len_swap c)))

-- the filling of a hole at p, with n entries left, the last of which was e; t says whether it goes up
abbrev fill_by : Heap → ℕ → ℕ → Entry → Bool → Moved
fill_by h p n e t =
    cond (eqb p n) (moved (with_len h n) p 0)
    (cond t (up_from p (put_at (with_len h n) p e) p 0) (down_from n (put_at (with_len h n) p e) p 0))

-- the last entry moves into a hole in use
filled_in_use : (g h : Heap) → Twins g h → (p : ℕ) → p < h.len → SameMoved (filled_of g p) (filled_of h p)
unfolding filled_of
filled_in_use g h r p b =
    subst (λ (m : Moved). SameMoved m (filled_of h p)) (sym (λ t. fill_by g p (fewer t) (last t) (before (last t) (r.same.entries p b t))))
    (choose_ref SameMoved refl (ref_eq p (h.len - 1))
    (λ _. record { heaps = short_twins g h r (h.len - 1) (omega arith); same_swaps = refl })
    (λ n. let c : p < h.len - 1 = omega arith in
    let s = put_twins (with_len g (h.len - 1)) (with_len h (h.len - 1)) (short_twins g h r (h.len - 1) (omega arith)) p refl in
    choose SameMoved (before (entry_at h (h.len - 1)) (entry_at h p))
    (up_in_use p _ _ p 0 s (rw len_put c))
    (down_in_use (h.len - 1) _ _ p 0 s (rw len_put c))))
  where
    fewer : g.len - 1 ≡ h.len - 1
    fewer = ap (λ (n : ℕ). n - 1) r.same.same_len

    last : entry_at g (g.len - 1) ≡ entry_at h (h.len - 1)
    last = ap (entry_at g) fewer ∙ r.same.entries (h.len - 1) (omega arith)

module _ (g h : Heap) (r : Twins g h) where
  -- the entry at a position in use is removed
  pub removed_in_use : (s : Slot) (p : Pos) → p.0 < h.len → SameMoved (removed_of g s p) (removed_of h s p)
  unfolding removed_of
  removed_in_use s p b = filled_in_use (vacated_of g s) (vacated_of h s) (vacated_twins g h r s) p.0 (rw len_vacated b)

  -- a push
  pub pushed_in_use : Slab h → (at n : ℕ) (place : Place) → SameMoved (pushed_of g at n place) (pushed_of h at n place)
  unfolding pushed_of
  pushed_in_use s at n place =
      subst (λ (k : ℕ). SameMoved (up_from k (added_of (taken_of g) (new_entry g at n place)) k 0) (pushed_of h at n place)) (sym r.same.same_len)
      (up_in_use h.len _ _ h.len 0 (added_twins g h r s at n place) (rw (len_added, len_taken) (omega arith)))
