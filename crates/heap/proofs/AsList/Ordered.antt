-- Heap order, as a sound heap has it: it is the order of the list of entries, a push and a removal keep it, and the head is least.
-- Assumes nothing.
use mathlib.Core.Path.{◌≡◌, sym, ap, subst}
use mathlib.Core.Bool.{false}
use Prim.Native.Nat.{ℕ, ◌≤◌, ◌<◌}
use native.Mathlib.Omega.{arith}
use lib.ListN.{length}
use borrow.Author.Tests.{ltb-false, le-ltb}
use Rattle.theory.specs.Order.{parent}
use Rattle.theory.specs.Heap as T
use Rattle.theory.proofs.Order.{head_least}
use Rattle.theory.proofs.Kept.{push_ordered, remove_ordered}
use Rattle.heap.specs.declared.Slot.{Slot}
use Rattle.heap.specs.declared.Pos.{Pos}
use Rattle.heap.specs.declared.Place.{Place}
use Rattle.heap.specs.declared.Entry.{Entry}
use Rattle.heap.specs.declared.Heap.{Heap}
use Rattle.heap.specs.declared.walk.Moved.{Moved}
use Rattle.heap.specs.Rules.{no_entry, entry_at, items, key, before, new_entry, pushed_of, removed_of}
use Rattle.heap.specs.Slab.{OrderedIn}
use Rattle.heap.proofs.AsList.Items.{items_length, items_at, Walked}
use Rattle.heap.proofs.AsList.ItemsCalls.{push_walked, remove_walked}

module _ (h : Heap) (fits : h.len ≤ length h.entries) where
  -- a heap in order has its list in order
  pub ordered_list : OrderedIn h → T.Ordered key no_entry (items h)
  ordered_list o k p b =
      let n = items_length h fits in
      let a : k < h.len = omega arith in
      omega (arith, ap key (items_at h k a), ap key (items_at h (parent k) (omega arith)), ltb-false (key (entry_at h k)) (key (entry_at h (parent k))) (o k p a))

  -- a heap whose list is in order is in order
  list_ordered : T.Ordered key no_entry (items h) → OrderedIn h
  list_ordered o k p b =
      le-ltb (key (entry_at h k)) (key (entry_at h (parent k)))
      (omega (arith, items_length h fits, ap key (items_at h k b), ap key (items_at h (parent k) (omega arith)), o k p (omega (arith, items_length h fits))))

-- a heap in order leaves a heap in order where its list leaves a list in order
walked_ordered : {len room n : ℕ} {m : Moved} {r : T.Moved Entry} → Walked len room n m r → len ≤ room → T.Ordered key no_entry r.list → OrderedIn m.heap
walked_ordered {m = m} w b o = list_ordered m.heap (omega arith) (subst (T.Ordered key no_entry) (sym w.listed) o)

-- a push keeps the order
pub push_keeps : (h : Heap) (at g : ℕ) (place : Place) → h.len < length h.entries → OrderedIn h → OrderedIn (pushed_of h at g place).heap
push_keeps h at g place room o =
    walked_ordered (push_walked h at g place room) (omega arith)
    (push_ordered key no_entry (items h) (new_entry h at g place) (ordered_list h (omega arith) o))

-- a removal keeps the order
pub remove_keeps : (h : Heap) (s : Slot) (p : Pos) → h.len ≤ length h.entries → p.0 < h.len → OrderedIn h → OrderedIn (removed_of h s p).heap
remove_keeps h s p fits b o =
    walked_ordered (remove_walked h s p fits b) (omega arith)
    (remove_ordered key no_entry (items h) p.0 (omega (arith, items_length h fits)) (ordered_list h fits o))

-- the head's deadline is the least
pub head_key : (h : Heap) → OrderedIn h → (k : ℕ) → k < h.len → key (entry_at h 0) ≤ key (entry_at h k)
head_key h o =
    head_least {f = λ k. key (entry_at h k)} {n = h.len} (λ k p b. ltb-false (key (entry_at h k)) (key (entry_at h (parent k))) (o k p b))

-- no entry is smaller than the head
pub head_first : (h : Heap) → OrderedIn h → (k : ℕ) → k < h.len → before (entry_at h k) (entry_at h 0) ≡ false
head_first h o k b = le-ltb (key (entry_at h k)) (key (entry_at h 0)) (head_key h o k b)
