-- A walk down on a heap is the walk down on its list.
-- Assumes nothing.
use mathlib.Core.Path.{◌≡◌, refl, ap, subst}
use mathlib.Core.Bool.{Bool, cond, ◌&&◌}
use Prim.Native.Nat.{ℕ, zero, suc, ◌+◌, ◌*◌, ◌<◌}
use native.Mathlib.Omega.{arith}
use lib.Dec.{ltb, eqb}
use lib.ListN.{length}
use borrow.Author.Tests.{eq-eqb, ne_eqb}
use Rattle.theory.specs.Tests.{Ref, holds, fails}
use Rattle.theory.specs.Heap as T
use Rattle.theory.proofs.Tests.{ref_lt, ref_and, true_ref, false_ref}
use Rattle.heap.specs.declared.Heap.{Heap}
use Rattle.heap.specs.Rules.{no_entry, entry_at, items, key, before, swap_at, moved, pick_child, child_of, down_from}
use Rattle.heap.proofs.AsList.Items.{items_at, items_swap, swap_len, Walked, walked_stay, walked_more, and_same}

-- where the rules go from i, p, beside the child c that is the least, for keys f of n entries: to c if its key is less, else nowhere
pub data Choice (f : ℕ → ℕ) (n i p c : ℕ) : Type 0 where
  stays : p ≡ i → (c < n → f c < f i → ⊥) → Choice f n i p c
  goes : p ≡ c → i < c → c < n → f c < f i → Choice f n i p c

-- the five tests of the rules choose so: the right child is the least where it is there and less than the left one
picked : (f : ℕ → ℕ) (n i : ℕ) {a b l r s : Bool} → Ref (2 * i + 1 < n) a → Ref (2 * i + 2 < n) b
    → Ref (f (2 * i + 1) < f i) l → Ref (f (2 * i + 2) < f (2 * i + 1)) r → Ref (f (2 * i + 2) < f i) s
    → Choice f n i (pick_child a b l r s i) (cond (b && r) (2 * i + 2) (2 * i + 1))
picked f n i (fails a) (fails b) l r s = stays refl (λ p q. a p)
picked f n i (fails a) (holds b) l r s = absurd (omega arith)
picked f n i (holds a) (fails b) (fails l) r s = stays refl (λ p q. l q)
picked f n i (holds a) (fails b) (holds l) r s = goes refl (omega arith) a l
picked f n i (holds a) (holds b) (holds l) (holds r) s = goes refl (omega arith) b (omega arith)
picked f n i (holds a) (holds b) (holds l) (fails r) s = goes refl (omega arith) a l
picked f n i (holds a) (holds b) (fails l) (holds r) (holds s) = goes refl (omega arith) b s
picked f n i (holds a) (holds b) (fails l) (holds r) (fails s) = stays refl (λ p q. s q)
picked f n i (holds a) (holds b) (fails l) (fails r) (holds s) = absurd (omega arith)
picked f n i (holds a) (holds b) (fails l) (fails r) (fails s) = stays refl (λ p q. l q)

-- the least child in the list, by the tests of the rules
child_list : (h : Heap) (i : ℕ)
    → cond (ltb (2 * i + 2) h.len && before (entry_at h (2 * i + 2)) (entry_at h (2 * i + 1))) (2 * i + 2) (2 * i + 1) ≡ T.child key no_entry (items h) h.len i
unfolding T.child
child_list h i =
    ap (λ (t : Bool). cond t (2 * i + 2) (2 * i + 1))
    (and_same (ref_lt (2 * i + 2) h.len) (λ b. rw (items_at h (2 * i + 2) b, items_at h (2 * i + 1) (omega arith))))

-- the rules go down to the child that the walk on the list takes, and where that one does not move, nowhere
child_choice : (h : Heap) (i : ℕ) → Choice (λ k. key (entry_at h k)) h.len i (child_of h i) (T.child key no_entry (items h) h.len i)
unfolding child_of
child_choice h i =
    subst (λ (c : ℕ). Choice (λ k. key (entry_at h k)) h.len i (child_of h i) c) (child_list h i)
    (picked (λ k. key (entry_at h k)) h.len i (ref_lt (2 * i + 1) h.len) (ref_lt (2 * i + 2) h.len)
    (ref_lt (key (entry_at h (2 * i + 1))) (key (entry_at h i)))
    (ref_lt (key (entry_at h (2 * i + 2))) (key (entry_at h (2 * i + 1))))
    (ref_lt (key (entry_at h (2 * i + 2))) (key (entry_at h i))))

-- a walk down on the heap is the walk down on the list
pub down_walked : (k : ℕ) (h : Heap) (i n : ℕ) → i < h.len → Walked h.len (length h.entries) n (down_from k h i n) (T.down_from key no_entry k (items h) h.len i)
unfolding down_from T.down_from
down_walked zero h i n lt = walked_stay h i n
down_walked (suc k) h i n lt =
    go (child_of h i) (T.child key no_entry (items h) h.len i) (child_choice h i)
    (λ j b. subst (Walked (swap_at h i j).len (length (swap_at h i j).entries) (n + 1) (down_from k (swap_at h i j) j (n + 1)))
    (λ t. T.down_from key no_entry k (items_swap h i j lt b t) (swap_len h i j t) j)
    (down_walked k (swap_at h i j) j (n + 1) (omega (arith, swap_len h i j))))
  where
    test : (c : ℕ) → Ref ((c < h.len) × (T.at key no_entry (items h) c < T.at key no_entry (items h) i)) (ltb c h.len && ltb (T.at key no_entry (items h) c) (T.at key no_entry (items h) i))
    test c = ref_and (ref_lt c h.len) (ref_lt (T.at key no_entry (items h) c) (T.at key no_entry (items h) i))

    go : (p c : ℕ) → Choice (λ k. key (entry_at h k)) h.len i p c
        → ((j : ℕ) → j < h.len → Walked (swap_at h i j).len (length (swap_at h i j).entries) (n + 1) (down_from k (swap_at h i j) j (n + 1)) (T.down_from key no_entry k (T.swap_at no_entry (items h) i j) h.len j))
        → Walked h.len (length h.entries) n (cond (eqb p i) (moved h i n) (down_from k (swap_at h i p) p (n + 1)))
        (cond (ltb c h.len && ltb (T.at key no_entry (items h) c) (T.at key no_entry (items h) i)) (T.more (T.down_from key no_entry k (T.swap_at no_entry (items h) i c) h.len c)) (T.stay (items h) i))
    go p c (stays e none) rest =
        rw (eq-eqb p i e, false_ref (test c) (λ q. none q.0 (omega (arith, ap key (items_at h c q.0), ap key (items_at h i lt), q.1)))) (walked_stay h i n)
    go p c (goes e up b less) rest =
        rw (ne_eqb p i (λ (q : p ≡ i). omega arith), true_ref (test c) (b, omega (arith, ap key (items_at h c b), ap key (items_at h i lt), less)))
        (rw e (walked_more h i c (rest c b)))
