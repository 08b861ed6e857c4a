-- What stands in each slot, and that no swap changes it: each entry takes its slot along.
-- Assumes nothing.
use mathlib.Core.Path.{◌≡◌, refl, sym, ◌∙◌, ap, ap₂}
use mathlib.Core.Bool.{Bool, true, false, cond, ◌&&◌}
use mathlib.Core.Option.{Option, none, some}
use Prim.Native.Nat.{ℕ, ◌<◌}
use native.Mathlib.Omega.{arith}
use lib.Dec.{ltb}
use borrow.Author.Tests.{lt-ltb, ltb-true}
use Rattle.theory.proofs.Tests.{by-ref, ref_eq, and_left, and_right}
use Rattle.heap.specs.declared.Pos.{Pos}
use Rattle.heap.specs.declared.Entry.{Entry}
use Rattle.heap.specs.declared.SlotState.{SlotState}
use Rattle.heap.specs.declared.SlotState.TheVariants.{Full, Empty}
use Rattle.heap.specs.declared.Heap.{Heap}
use Rattle.heap.specs.Rules.{entry_at, state_at, slot_at, swap_at}
use Rattle.heap.specs.Faults.{is_full, full_at}
use Rattle.heap.specs.Lookup.{standing, lookup, used_at}
use Rattle.heap.specs.Slab.{Slab}
use Rattle.heap.proofs.Slots.Slab.{back, full_pos}
use Rattle.heap.proofs.Slots.Spare.{Alike}
use Rattle.heap.proofs.Walking.Laws.{len_swap}
use Rattle.heap.proofs.Slots.Swap.{swap_alike, swap_left, swap_right, swap_other, slab_swap}
use Rattle.heap.proofs.Walking.Steps.{Swaps}

-- in a slot that is not in use there is nothing
pub lookup_none : (h : Heap) (k : ℕ) → used_at h k ≡ false → lookup h k ≡ none
unfolding lookup full_at
lookup_none h k = go (ltb k h.made) (state_at h k)
  where
    go : (b : Bool) (x : SlotState) → (b && is_full x) ≡ false → cond b (standing h x) none ≡ none
    go true (Full p) e = cc
    go true (Empty n) e = refl
    go false x e = refl

-- in a full slot stands the entry at the position that it names
pub lookup_full : (h : Heap) (k : ℕ) (p : Pos) → k < h.made → state_at h k ≡ Full p → lookup h k ≡ some (entry_at h p.0)
unfolding lookup
lookup_full h k p b e = simp (lt-ltb k h.made b, e)

-- the slot in which an entry stands was made and is full with the entry's position
pub lookup_state : (h : Heap) (k : ℕ) (e : Entry) → lookup h k ≡ some e → (p : Pos) × (k < h.made) × (state_at h k ≡ Full p) × (entry_at h p.0 ≡ e)
unfolding lookup
lookup_state h k e = go (ltb k h.made) (state_at h k) refl refl
  where
    go : (b : Bool) (x : SlotState) → ltb k h.made ≡ b → state_at h k ≡ x → cond b (standing h x) none ≡ some e
        → (p : Pos) × (k < h.made) × (state_at h k ≡ Full p) × (entry_at h p.0 ≡ e)
    go true (Full p) a c d = (p, ltb-true k h.made a, c, cc)
    go true (Empty n) a c d = let z : ◌≡◌ {A = ℕ} 0 1 = cc in absurd (omega arith)
    go false x a c d = let z : ◌≡◌ {A = ℕ} 0 1 = cc in absurd (omega arith)

module _ (h : Heap) (s : Slab h) where
  -- the entry at a position stands in its slot
  pub lookup_at : (p : ℕ) → p < h.len → lookup h (slot_at h p) ≡ some (entry_at h p)
  lookup_at p b = lookup_full h (slot_at h p) (record { 0 = p }) (s.forth p b).0 (s.forth p b).1

  -- the head stands in its slot
  pub lookup_head : 0 < h.len → lookup h (slot_at h 0) ≡ some (entry_at h 0)
  lookup_head b = lookup_at 0 b

  -- a slot in use is that of some position
  used_pos : (k : ℕ) → used_at h k ≡ true → (p : ℕ) × (p < h.len) × (slot_at h p ≡ k)
  unfolding full_at
  used_pos k e =
      let q = full_pos (state_at h k) (and_right (ltb k h.made) (full_at h k) e) in
      let r = back h s k q.0 (ltb-true k h.made (and_left (ltb k h.made) (full_at h k) e)) q.1 in
      (q.0.0, r.0, r.1)

  -- what stands in a slot stands at some position, and has that slot's number
  pub lookup_some : (k : ℕ) (e : Entry) → lookup h k ≡ some e → (p : ℕ) × (p < h.len) × (entry_at h p ≡ e) × (e.slot.0 ≡ k)
  lookup_some k e l =
      let q = lookup_state h k e l in
      let r = back h s k q.0 q.1 q.2 in
      (q.0.0, r.0, q.3, sym (ap (λ (x : Entry). x.slot.0) q.3) ∙ r.1)

-- a slot that is in use after as before, and whose entry stands somewhere still, holds what it held
pub lookup_kept : (h g : Heap) → Slab h → Slab g → (k : ℕ) → used_at g k ≡ used_at h k
    → ((p : ℕ) → p < h.len → slot_at h p ≡ k → (q : ℕ) × (q < g.len) × (entry_at g q ≡ entry_at h p))
    → lookup g k ≡ lookup h k
lookup_kept h g s r k u c = go (used_at h k) refl
  where
    go : (b : Bool) → used_at h k ≡ b → lookup g k ≡ lookup h k
    go false e = lookup_none g k (u ∙ e) ∙ sym (lookup_none h k e)
    go true e =
        let p = used_pos h s k e in
        let q = c p.0 p.1 p.2 in
        let o : slot_at g q.0 ≡ k = ap (λ (x : Entry). x.slot.0) q.2 ∙ p.2 in
        ap (lookup g) (sym o) ∙ lookup_at g r q.0 q.1 ∙ ap some q.2 ∙ sym (lookup_at h s p.0 p.1) ∙ ap (lookup h) p.2

-- the same slots are in use
alike_used : (h g : Heap) → Alike h g → (k : ℕ) → used_at g k ≡ used_at h k
alike_used h g a k = ap₂ (λ (m : ℕ) (f : Bool). ltb k m && f) a.made (a.full k)

-- a swap changes no slot's entry
lookup_swap : (h : Heap) → Slab h → (i j : ℕ) → i < h.len → j < h.len → (k : ℕ) → lookup (swap_at h i j) k ≡ lookup h k
unfolding swap_at
lookup_swap h s i j a b k =
    lookup_kept h (swap_at h i j) s (slab_swap h s i j a b) k (alike_used h (swap_at h i j) (swap_alike h s i j a b) k)
    (λ p c e. by-ref (ref_eq p i)
    (λ q. (j, rw len_swap b, swap_right h s i j a b ∙ ap (entry_at h) (sym q)))
    (λ ni. by-ref (ref_eq p j)
    (λ q. (i, rw len_swap a, swap_left h s i j a b ∙ ap (entry_at h) (sym q)))
    (λ nj. (p, rw len_swap c, swap_other h s i j a b p ni nj))))

-- a slab in which one slot has an entry, or has none
pub record Holds (k : ℕ) (o : Option Entry) (g : Heap) : Type 0 where
  pub slab : Slab g
  pub at_slot : lookup g k ≡ o

-- swaps keep it
pub swaps_hold : (k : ℕ) (o : Option Entry) → Swaps (Holds k o)
swaps_hold k o g i j r a b = record {
  slab = slab_swap g r.slab i j a b;
  at_slot = lookup_swap g r.slab i j a b k ∙ r.at_slot;
}
