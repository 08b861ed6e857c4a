-- The entries in use are a list: what the rules on heaps do to them is what the rules on lists do. Here: loads, stores and swaps, and
-- what it is for a walk on a heap to be a walk on its list.
-- Assumes nothing.
use mathlib.Core.Path.{◌≡◌, refl, ap, ◌∙◌}
use mathlib.Core.Bool.{Bool, true, false, cond, ◌&&◌}
use Prim.Native.Nat.{ℕ, ◌+◌, ◌≤◌, ◌<◌}
use native.Mathlib.Omega.{arith}
use lib.ListN.{length, get_or, set, length-set}
use lib.Seq.{take-set-lt, get_or-take, length-take-le}
use Rattle.theory.specs.Tests.{Ref, holds, fails}
use Rattle.theory.specs.Heap as T
use Rattle.heap.specs.declared.Entry.{Entry}
use Rattle.heap.specs.declared.Heap.{Heap}
use Rattle.heap.specs.declared.walk.Moved.{Moved}
use Rattle.heap.specs.Rules.{no_entry, entry_at, items, put_at, swap_at, moved}

-- there are as many as `len` says
pub items_length : (h : Heap) → h.len ≤ length h.entries → length (items h) ≡ h.len
items_length h fits = length-take-le h.len h.entries fits

-- the entry at a position in use is the one of the list
pub items_at : (h : Heap) (i : ℕ) → i < h.len → get_or (items h) i no_entry ≡ entry_at h i
items_at h i lt = get_or-take h.len h.entries i no_entry lt

-- an entry put at a position in use is put there in the list
pub items_put : (h : Heap) (i : ℕ) (e : Entry) → i < h.len → items (put_at h i e) ≡ set (items h) i e
unfolding put_at
items_put h i e lt = take-set-lt h.len h.entries i e lt

-- a swap of two positions in use is an exchange in the list
pub items_swap : (h : Heap) (i j : ℕ) → i < h.len → j < h.len → items (swap_at h i j) ≡ T.swap_at no_entry (items h) i j
unfolding swap_at put_at T.swap_at
items_swap h i j a b = rw (take-set-lt, take-set-lt, items_at h j b, items_at h i a)

-- a put keeps the count
pub put_len : (h : Heap) (i : ℕ) (e : Entry) → (put_at h i e).len ≡ h.len
unfolding put_at
put_len h i e = refl

-- and the room
pub put_long : (h : Heap) (i : ℕ) (e : Entry) → length (put_at h i e).entries ≡ length h.entries
unfolding put_at
put_long h i e = length-set h.entries i e

-- a swap keeps the count
pub swap_len : (h : Heap) (i j : ℕ) → (swap_at h i j).len ≡ h.len
unfolding swap_at put_at
swap_len h i j = refl

-- and the room
swap_long : (h : Heap) (i j : ℕ) → length (swap_at h i j).entries ≡ length h.entries
unfolding swap_at put_at
swap_long h i j = simp length-set

-- what is left of a heap after a walk is what is left of its list: the same entries, place and swaps after n before; and the heap
-- has so many entries and so much room
pub record Walked (len room n : ℕ) (m : Moved) (r : T.Moved Entry) : Type 0 where
  pub listed : items m.heap ≡ r.list
  pub placed : m.at.0 ≡ r.place
  pub counted : m.swaps ≡ n + r.swaps
  pub sized : m.heap.len ≡ len
  pub roomed : length m.heap.entries ≡ room

-- with none before it, the heap's swaps are the list's
pub walked_swaps : {len room : ℕ} {m : Moved} {r : T.Moved Entry} → Walked len room 0 m r → m.swaps ≡ r.swaps
walked_swaps w = omega arith

-- a walk that makes no swap
pub walked_stay : (h : Heap) (i n : ℕ) → Walked h.len (length h.entries) n (moved h i n) (T.stay (items h) i)
walked_stay h i n = record { listed = refl; placed = refl; counted = omega arith; sized = refl; roomed = refl }

-- a walk with one swap before it
pub walked_more : (h : Heap) (i j : ℕ) {n : ℕ} {m : Moved} {r : T.Moved Entry}
    → Walked (swap_at h i j).len (length (swap_at h i j).entries) (n + 1) m r → Walked h.len (length h.entries) n m (T.more r)
walked_more h i j w = record {
  listed = w.listed;
  placed = w.placed;
  counted = omega arith;
  sized = w.sized ∙ swap_len h i j;
  roomed = w.roomed ∙ swap_long h i j;
}

-- the same, where the numbers and the walk on the list are known by other names
pub walked_as : {a b c d n : ℕ} {m : Moved} {r s : T.Moved Entry} → a ≡ b → c ≡ d → r ≡ s → Walked a c n m r → Walked b d n m s
walked_as {n = n} p q e w = record {
  listed = w.listed ∙ ap (λ (x : T.Moved Entry). x.list) e;
  placed = w.placed ∙ ap (λ (x : T.Moved Entry). x.place) e;
  counted = w.counted ∙ ap (λ (x : T.Moved Entry). n + x.swaps) e;
  sized = w.sized ∙ p;
  roomed = w.roomed ∙ q;
}

-- what two choices by one test have case by case, they have
pub choose : {A B : Type 0} (R : A → B → Type 0) (t : Bool) {x y : A} {u v : B} → R x u → R y v → R (cond t x y) (cond t u v)
choose R true p q = p
choose R false p q = q

-- two tests that agree where the first is true are the same behind it
pub and_same : {P : Type 0} {a b c : Bool} → Ref P a → (P → b ≡ c) → (a && b) ≡ (a && c)
and_same (holds p) f = f p
and_same (fails n) f = refl
