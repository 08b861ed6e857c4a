-- The slab part of a sound heap: all that `Sound` says, save the order of the entries. The slots and the positions name each other
-- both ways: each entry's slot is full with its position, there are no more full slots than entries, so each full slot names an entry.
-- Assumes nothing.
use mathlib.Core.Path.{◌≡◌, refl, sym, ◌∙◌, ap, subst}
use mathlib.Core.Logic.{inl, inr}
use mathlib.Core.Bool.{true, false}
use mathlib.Core.List.{List, [], ◌∷◌}
use Prim.Native.Nat.{ℕ, zero, suc, ◌<◌, ◌≤◌}
use native.Mathlib.Omega.{arith}
use lib.ListN.{length}
use Rattle.theory.specs.Order.{parent}
use Rattle.theory.specs.Counting.{Mem, Distinct}
use Rattle.theory.proofs.Pigeonhole.{pigeonhole}
use Rattle.heap.specs.declared.Slot.{Slot}
use Rattle.heap.specs.declared.Pos.{Pos}
use Rattle.heap.specs.declared.SlotState.{SlotState}
use Rattle.heap.specs.declared.SlotState.TheVariants.{Full, Empty}
use Rattle.heap.specs.declared.Heap.{Heap}
use Rattle.heap.specs.Rules.{entry_at, state_at, slot_at, before}
use Rattle.heap.specs.Faults.{is_full, full_at}
use Rattle.heap.specs.Sound.{Sound}
use Rattle.heap.specs.Slab.{Slab}

-- a sound heap has it
pub sound_slab : (h : Heap) → Sound h → Slab h
sound_slab h s = record {
  entries_long = s.entries_long;
  slots_long = s.slots_long;
  len_in = s.len_in;
  made_in = s.made_in;
  counted = s.counted;
  forth = s.forth;
  chained = s.chained;
}

-- with the order, it makes a sound heap
pub slab_sound : (h : Heap) → Slab h → ((i : ℕ) → 0 < i → i < h.len → before (entry_at h i) (entry_at h (parent i)) ≡ false) → Sound h
slab_sound h s o = record {
  entries_long = s.entries_long;
  slots_long = s.slots_long;
  len_in = s.len_in;
  made_in = s.made_in;
  counted = s.counted;
  forth = s.forth;
  ordered = o;
  chained = s.chained;
}

-- no slot is both full and empty
pub not_full : {x : SlotState} {n : Slot} {p : Pos} → x ≡ Empty n → x ≡ Full p → ⊥
not_full e f = let z : ◌≡◌ {A = ℕ} 0 1 = cc in omega arith

-- a full slot names one position
full_same : {x : SlotState} {p q : Pos} → x ≡ Full p → x ≡ Full q → p ≡ q
full_same e f = cc

-- a slot that passes for full is full with some position
pub full_pos : (x : SlotState) → is_full x ≡ true → (p : Pos) × (x ≡ Full p)
full_pos (Full p) e = (p, refl)
full_pos (Empty n) e = (record { 0 = 0 }, cc)

-- a slot that does not pass for full names a next one
pub empty_next : (x : SlotState) → is_full x ≡ false → (n : Slot) × (x ≡ Empty n)
empty_next (Full p) e = (record { 0 = 0 }, cc)
empty_next (Empty n) e = (n, refl)

-- a full slot passes for full
pub full_at_lem : (h : Heap) (s : ℕ) (p : Pos) → state_at h s ≡ Full p → full_at h s ≡ true
unfolding full_at
full_at_lem h s p e = ap is_full e

-- an empty slot does not pass for full
pub not_full_at : (h : Heap) (k : ℕ) (n : Slot) → state_at h k ≡ Empty n → full_at h k ≡ false
unfolding full_at
not_full_at h k n e = ap is_full e

-- the slots of the positions below n
slots_below : Heap → ℕ → List ℕ
slots_below h zero = []
slots_below h (suc n) = slot_at h n ∷ slots_below h n

slots_length : (h : Heap) (n : ℕ) → length (slots_below h n) ≡ n
unfolding slots_below
slots_length h zero = refl
slots_length h (suc n) = ap suc (slots_length h n)

slots_mem : (h : Heap) (n x : ℕ) → Mem x (slots_below h n) → (p : ℕ) × (p < n) × (slot_at h p ≡ x)
unfolding slots_below
slots_mem h zero x m = absurd m
slots_mem h (suc n) x (inl e) = (n, omega arith, sym e)
slots_mem h (suc n) x (inr m) = let r = slots_mem h n x m in (r.0, omega arith, r.2)

module _ (h : Heap) (s : Slab h) where
  -- two positions below `len` have different slots
  pub slot_apart : (p q : ℕ) → p < h.len → q < h.len → (p ≡ q → ⊥) → slot_at h p ≡ slot_at h q → ⊥
  slot_apart p q a b f e = f (ap (λ (x : Pos). x.0) (full_same (s.forth p a).1 (ap (state_at h) e ∙ (s.forth q b).1)))

  slots_distinct : (n : ℕ) → n ≤ h.len → Distinct (slots_below h n)
  unfolding slots_below
  slots_distinct zero b = tt
  slots_distinct (suc n) b = (
    λ m. let r = slots_mem h n (slot_at h n) m in slot_apart r.0 n (omega arith) (omega arith) (λ e. omega arith) r.2,
    slots_distinct n (omega arith),
  )

  slots_full : (x : ℕ) → Mem x (slots_below h h.len) → (x < h.made) × (full_at h x ≡ true)
  slots_full x m =
      let r = slots_mem h h.len x m in
      let f = s.forth r.0 r.1 in
      subst (λ (k : ℕ). (k < h.made) × (full_at h k ≡ true)) r.2 (f.0, full_at_lem h (slot_at h r.0) _ f.1)

  -- a full slot is the slot of the entry at the position that it names
  pub back : (t : ℕ) (p : Pos) → t < h.made → state_at h t ≡ Full p → (p.0 < h.len) × (slot_at h p.0 ≡ t)
  back t p b e =
      let m = pigeonhole (slots_below h h.len) (full_at h) h.made (slots_distinct h.len (omega arith)) slots_full
      (slots_length h h.len ∙ sym s.counted) t b (full_at_lem h t p e) in
      let r = slots_mem h h.len t m in
      let q : r.0 ≡ p.0 = ap (λ (x : Pos). x.0) (full_same (ap (state_at h) (sym r.2) ∙ (s.forth r.0 r.1).1) e) in
      subst (λ (k : ℕ). (k < h.len) × (slot_at h k ≡ t)) q (r.1, r.2)
