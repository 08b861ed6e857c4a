-- A walk up on a heap is the walk up on its list.
-- Assumes nothing.
use mathlib.Core.Path.{◌≡◌, subst}
use mathlib.Core.Bool.{◌&&◌}
use Prim.Native.Nat.{ℕ, zero, suc, ◌+◌, ◌<◌}
use native.Mathlib.Omega.{arith}
use lib.Dec.{ltb}
use lib.ListN.{length}
use borrow.Author.Tests.{eq-eqb, ne_eqb, lt-ltb, le-ltb}
use Rattle.theory.specs.Order.{parent}
use Rattle.theory.specs.Heap as T
use Rattle.theory.proofs.Order.{split}
use Rattle.heap.specs.declared.Heap.{Heap}
use Rattle.heap.specs.Rules.{no_entry, items, key, swap_at, rises_at, up_from}
use Rattle.heap.proofs.AsList.Items.{items_at, items_swap, swap_len, Walked, walked_stay, walked_more, choose}

-- an entry rises where it rises in the list
rises_list : (h : Heap) (i : ℕ) → i < h.len
    → rises_at h i ≡ (ltb 0 i && ltb (T.at key no_entry (items h) i) (T.at key no_entry (items h) (parent i)))
unfolding rises_at
rises_list h i lt =
    split i 0 (λ e. rw (eq-eqb i 0 e, le-ltb 0 i (omega arith)))
    (λ n. rw (ne_eqb i 0 n, lt-ltb 0 i (omega arith), items_at h i lt, items_at h (parent i) (omega arith)))

-- a walk up on the heap is the walk up on the list
pub up_walked : (k : ℕ) (h : Heap) (i n : ℕ) → i < h.len → Walked h.len (length h.entries) n (up_from k h i n) (T.up_from key no_entry k (items h) i)
unfolding up_from T.up_from
up_walked zero h i n lt = walked_stay h i n
up_walked (suc k) h i n lt =
    let b : parent i < h.len = omega arith in
    rw (← rises_list h i lt)
    (choose (Walked h.len (length h.entries) n) (rises_at h i)
    (walked_more h i (parent i)
    (subst (Walked (swap_at h i (parent i)).len (length (swap_at h i (parent i)).entries) (n + 1) (up_from k (swap_at h i (parent i)) (parent i) (n + 1)))
    (λ t. T.up_from key no_entry k (items_swap h i (parent i) lt b t) (parent i))
    (up_walked k (swap_at h i (parent i)) (parent i) (n + 1) (omega (arith, swap_len h i (parent i))))))
    (walked_stay h i n))
