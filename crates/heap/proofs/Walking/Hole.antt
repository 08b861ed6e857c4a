-- A walk carries its entry aside: the heap has a hole where the entry would stand. Filled with the carried entry it is the heap of the
-- rule, which swaps, at every step; up or down is the same.
-- Assumes nothing.
use mathlib.Core.Path.{◌≡◌, refl, sym, ◌∙◌, ap, subst}
use mathlib.Core.Bool.{Bool, true, false, cond}
use mathlib.Core.List.{List, [], ◌∷◌}
use Prim.Native.Nat.{ℕ, zero, suc, ◌+◌, ◌*◌, ◌<◌, ◌≤◌}
use lib.ListN.{length, set}
use lib.Seq.{set-set}
use lib.Dec.{ltb}
use borrow.Author.Tests.{lt-ltb, le-ltb, ltb-true, ltb-false}
use Rattle.theory.proofs.Tests.{true_false}
use native.Mathlib.Omega.{arith}
use Rattle.theory.specs.Order.{parent}
use Rattle.heap.specs.Capacity.{cap}
use Rattle.heap.specs.declared.Entry.{Entry}
use Rattle.heap.specs.declared.SlotState.TheVariants.{Full}
use Rattle.heap.specs.declared.Heap.{Heap}
use Rattle.heap.specs.Rules.{entry_at, slot_at, before, put_at, swap_at, rises_at, pick_child, child_of}
use Rattle.heap.specs.Sound.{SlotsIn}
use Rattle.heap.proofs.Slots.Stored.{slot_of, entry_same, entry_other}
use Rattle.heap.proofs.Walking.Laws.{len_put, slots_in_swap, rises_is, child_picks}

-- a store that is made good later, whatever else was stored between, might as well not be made
set_past : {A : Type 0} (l : List A) (i j : ℕ) (x y z : A) → set (set (set l i x) j y) i z ≡ set (set l j y) i z
set_past [] i j x y z = refl
set_past (a ∷ l) zero zero x y z = refl
set_past (a ∷ l) zero (suc j) x y z = refl
set_past {A} (a ∷ l) (suc i) zero x y z = ap (λ (r : List A). y ∷ r) (set-set l i x z)
set_past {A} (a ∷ l) (suc i) (suc j) x y z = ap (λ (r : List A). a ∷ r) (set_past l i j x y z)

-- an entry that is put at i, gives way there to another and is put at j might as well be put at j alone
put_over : (g : Heap) (i j : ℕ) (e f : Entry) → put_at (put_at (put_at g i e) i f) j e ≡ put_at (put_at g i f) j e
unfolding put_at
put_over g i j e f = λ t.
    record {
      entries = set (set-set g.entries i e f t) j e;
      len = g.len;
      slots = set_past g.slots (slot_of e) (slot_of f) (record { state = Full (record { 0 = i }) }) (record { state = Full (record { 0 = i }) }) (record { state = Full (record { 0 = j }) }) t;
      made = g.made;
      free = g.free;
    }

-- A STEP: the entry at j gives way into the hole at i, and the hole is at j
pub hole_step : (g : Heap) (i j : ℕ) (e : Entry) → i < length g.entries → (j ≡ i → ⊥) → swap_at (put_at g i e) i j ≡ put_at (put_at g i (entry_at g j)) j e
unfolding swap_at
hole_step g i j e b n =
    ap (λ (x : Entry). put_at (put_at (put_at g i e) i x) j (entry_at (put_at g i e) i)) (entry_other g i e j n)
    ∙ ap (λ (x : Entry). put_at (put_at (put_at g i e) i (entry_at g j)) j x) (entry_same g i e b)
    ∙ put_over g i j e (entry_at g j)

-- the carried entry has its slot in the slab, and so has every other entry
pub carried_in : (g : Heap) (i : ℕ) (e : Entry) → i < length g.entries → i < g.len → SlotsIn (put_at g i e) → e.slot.0 < cap
carried_in g i e b l r = subst (λ (x : Entry). x.slot.0 < cap) (entry_same g i e b) (r.slots_in_range i (rw len_put l))

pub other_in : (g : Heap) (i j : ℕ) (e : Entry) → (j ≡ i → ⊥) → j < g.len → SlotsIn (put_at g i e) → slot_at g j < cap
other_in g i j e n l r = subst (λ (x : Entry). x.slot.0 < cap) (entry_other g i e j n) (r.slots_in_range j (rw len_put l))

-- a step keeps them there
pub step_in : (g : Heap) (i j : ℕ) (e : Entry) → i < length g.entries → i < g.len → j < g.len → (j ≡ i → ⊥) → SlotsIn (put_at g i e) → SlotsIn (put_at (put_at g i (entry_at g j)) j e)
step_in g i j e b l m n r = subst SlotsIn (hole_step g i j e b n) (slots_in_swap (put_at g i e) i j (rw len_put l) (rw len_put m) r)

-- off the head the carried entry rises where it is smaller than the parent of the hole
pub hole_rises : (g : Heap) (i : ℕ) (e : Entry) → i < length g.entries → 0 < i → rises_at (put_at g i e) i ≡ before e (entry_at g (parent i))
hole_rises g i e b p =
    let n : parent i ≡ i → ⊥ = λ q. omega (arith, p, q) in
    rises_is (put_at g i e) i p
    ∙ ap (λ (x : Entry). before x (entry_at (put_at g i e) (parent i))) (entry_same g i e b)
    ∙ ap (before e) (entry_other g i e (parent i) n)

-- WHICH CHILD of a hole is to rise: 0 for the left one, 1 for the right one where there is one and it is before the left
pub data Lesser (g : Heap) (i : ℕ) : ℕ → Type 0 where
  only : g.len ≤ 2 * i + 1 + 1 → Lesser g i 0
  left : 2 * i + 1 + 1 < g.len → before (entry_at g (2 * i + 1 + 1)) (entry_at g (2 * i + 1)) ≡ false → Lesser g i 0
  right : 2 * i + 1 + 1 < g.len → before (entry_at g (2 * i + 1 + 1)) (entry_at g (2 * i + 1)) ≡ true → Lesser g i 1

-- it is in the heap, where there is a child at all
pub in_heap : {g : Heap} {i k : ℕ} → Lesser g i k → 2 * i + 1 < g.len → 2 * i + 1 + k < g.len
in_heap (only m) l = omega (arith, l)
in_heap (left m f) l = omega (arith, l)
in_heap (right m f) l = m

-- what the rule picks by three tests it picks by two: first the lesser child, and then whether it is less than the entry
pick_only : (x b d : Bool) (i : ℕ) → pick_child true false x b d i ≡ cond x (2 * i + 1) i
pick_only true b d i = refl
pick_only false b d i = refl

pick_left : (x d : Bool) (i : ℕ) → (d ≡ true → x ≡ true) → pick_child true true x false d i ≡ cond x (2 * i + 1) i
pick_left true d i t = refl
pick_left false true i t = absurd (true_false (t refl) refl)
pick_left false false i t = refl

pick_right : (x d : Bool) (i : ℕ) → (x ≡ true → d ≡ true) → pick_child true true x true d i ≡ cond d (2 * i + 2) i
pick_right true true i t = refl
pick_right true false i t = absurd (true_false (t refl) refl)
pick_right false true i t = refl
pick_right false false i t = refl

-- a hole without a child is where the rule stays
pub hole_leaf : (g : Heap) (i : ℕ) (e : Entry) → g.len ≤ 2 * i + 1 → child_of (put_at g i e) i ≡ i
hole_leaf g i e m = child_picks (put_at g i e) i (le-ltb (2 * i + 1) (put_at g i e).len (rw len_put m)) refl refl refl refl

-- the rule goes to the lesser child where it is smaller than the carried entry, and stays otherwise
pub hole_child : (g : Heap) (i k : ℕ) (e : Entry) → i < length g.entries → 2 * i + 1 < g.len → Lesser g i k
    → child_of (put_at g i e) i ≡ cond (before (entry_at g (2 * i + 1 + k)) e) (2 * i + 1 + k) i
hole_child g i k e b l = go
  where
    h : Heap
    h = put_at g i e

    here : entry_at h i ≡ e
    here = entry_same g i e b

    there : (j : ℕ) → i < j → entry_at h j ≡ entry_at g j
    there j p = entry_other g i e j (λ q. omega (arith, p, q))

    one : 2 * i + 1 + 0 ≡ 2 * i + 1
    one = omega arith

    two : 2 * i + 1 + 1 ≡ 2 * i + 2
    two = omega arith

    -- the answer, at a number that is the child's
    at_child : (k j : ℕ) → 2 * i + 1 + k ≡ j → child_of h i ≡ cond (before (entry_at g j) e) j i → child_of h i ≡ cond (before (entry_at g (2 * i + 1 + k)) e) (2 * i + 1 + k) i
    at_child k j q p = p ∙ ap (λ (m : ℕ). cond (before (entry_at g m) e) m i) (sym q)

    first : before (entry_at h (2 * i + 1)) (entry_at h i) ≡ before (entry_at g (2 * i + 1)) e
    first = λ t. before (there (2 * i + 1) (omega arith) t) (here t)

    between : before (entry_at h (2 * i + 2)) (entry_at h (2 * i + 1)) ≡ before (entry_at g (2 * i + 2)) (entry_at g (2 * i + 1))
    between = λ t. before (there (2 * i + 2) (omega arith) t) (there (2 * i + 1) (omega arith) t)

    second : before (entry_at h (2 * i + 2)) (entry_at h i) ≡ before (entry_at g (2 * i + 2)) e
    second = λ t. before (there (2 * i + 2) (omega arith) t) (here t)

    has : (j : ℕ) → j < g.len → ltb j h.len ≡ true
    has j p = lt-ltb j h.len (rw len_put p)

    -- by what the tests of the two children say
    pair : {y : Bool} → before (entry_at g (2 * i + 1 + 1)) (entry_at g (2 * i + 1)) ≡ y → before (entry_at g (2 * i + 2)) (entry_at g (2 * i + 1)) ≡ y
    pair {y} f = subst (λ (j : ℕ). before (entry_at g j) (entry_at g (2 * i + 1)) ≡ y) two f

    go : {k : ℕ} → Lesser g i k → child_of h i ≡ cond (before (entry_at g (2 * i + 1 + k)) e) (2 * i + 1 + k) i
    go (only m) =
        let r : g.len ≤ 2 * i + 2 = omega (arith, m) in
        at_child 0 (2 * i + 1) one
        (child_picks h i (has (2 * i + 1) l) (le-ltb (2 * i + 2) h.len (rw len_put r)) first refl refl
        ∙ pick_only (before (entry_at g (2 * i + 1)) e) _ _ i)
    go (left m f) =
        let r : 2 * i + 2 < g.len = omega (arith, m) in
        at_child 0 (2 * i + 1) one
        (child_picks h i (has (2 * i + 1) l) (has (2 * i + 2) r) first (between ∙ pair f) second
        ∙ pick_left (before (entry_at g (2 * i + 1)) e) (before (entry_at g (2 * i + 2)) e) i
        (λ q. lt-ltb (entry_at g (2 * i + 1)).at e.at
        (omega (arith, ltb-true (entry_at g (2 * i + 2)).at e.at q, ltb-false (entry_at g (2 * i + 2)).at (entry_at g (2 * i + 1)).at (pair f)))))
    go (right m f) =
        let r : 2 * i + 2 < g.len = omega (arith, m) in
        at_child 1 (2 * i + 2) two
        (child_picks h i (has (2 * i + 1) l) (has (2 * i + 2) r) first (between ∙ pair f) second
        ∙ pick_right (before (entry_at g (2 * i + 1)) e) (before (entry_at g (2 * i + 2)) e) i
        (λ q. lt-ltb (entry_at g (2 * i + 2)).at e.at
        (omega (arith, ltb-true (entry_at g (2 * i + 1)).at e.at q, ltb-true (entry_at g (2 * i + 2)).at (entry_at g (2 * i + 1)).at (pair f)))))
