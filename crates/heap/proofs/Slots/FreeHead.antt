-- The free head: either it is the number of slots so far and all of them are full, or it is an empty slot. No entry has it.
-- Assumes nothing.
use mathlib.Core.Path.{◌≡◌, refl, sym, ◌∙◌, ap}
use mathlib.Core.Logic.{◌⊎◌, inl, inr, ⊎_elim}
use mathlib.Core.Bool.{Bool, true, false}
use mathlib.Core.Option.{none}
use Prim.Native.Nat.{ℕ, zero, suc, ◌+◌, ◌<◌}
use native.Mathlib.Omega.{arith}
use borrow.Author.Tests.{eq-eqb, ne_eqb}
use Rattle.theory.specs.Counting.{count}
use Rattle.theory.specs.Chain.{chain_okb}
use Rattle.theory.proofs.Tests.{by-ref, ref_eq}
use Rattle.theory.proofs.Counting.{count_zero}
use Rattle.theory.proofs.ChainTest.{ok_head, ok_none}
use Rattle.heap.specs.declared.Slot.{Slot}
use Rattle.heap.specs.declared.SlotState.TheVariants.{Empty}
use Rattle.heap.specs.declared.Heap.{Heap}
use Rattle.heap.specs.Rules.{state_at, slot_at, with_slots, taken_of}
use Rattle.heap.specs.Faults.{full_at, empty_at, next_at}
use Rattle.heap.specs.Slab.{Slab}
use Rattle.heap.proofs.Slots.Slab.{not_full, empty_next}
use Rattle.heap.proofs.Slots.Spare.{empty_told, empty_tells}

-- where all pass, the count is the bound
count_all : (f : ℕ → Bool) (n : ℕ) → ((i : ℕ) → i < n → f i ≡ true) → count f n ≡ n
unfolding count
count_all f zero a = refl
count_all f (suc n) a = rw (a n (omega arith)) (ap suc (count_all f n (λ i b. a i (omega arith))))

module _ (h : Heap) (s : Slab h) where
  -- the free head is the number of slots, all of which are full, or it was made and is empty
  pub free_view : ((h.free.0 ≡ h.made) × ((i : ℕ) → i < h.made → full_at h i ≡ true))
      ⊎ ((n : Slot) × (h.free.0 < h.made) × (state_at h h.free.0 ≡ Empty n))
  unfolding full_at
  free_view =
      by-ref (ref_eq h.free.0 h.made)
      (λ q. inl (q, λ i b. all_full (rw (eq-eqb h.free.0 h.made q) at s.chained) i b (full_at h i) refl))
      (λ q. let r = empty_told h h.free.0 (ok_head (empty_at h) (next_at h) h.made h.free.0 (rw (ne_eqb h.free.0 h.made q) at s.chained)) in
      let n = empty_next (state_at h h.free.0) r.1 in
      inr (n.0, r.0, n.1))
    where
      all_full : chain_okb (empty_at h) (next_at h) h.made none ≡ true → (i : ℕ) → i < h.made → (b : Bool) → full_at h i ≡ b → b ≡ true
      all_full w i b true e = refl
      all_full w i b false e =
          absurd (count_zero (empty_at h) h.made (ok_none (empty_at h) (next_at h) h.made w) i b (empty_tells h i b e))

  -- where the free head is the number of slots there are as many slots as entries
  pub all_used : ((i : ℕ) → i < h.made → full_at h i ≡ true) → h.made ≡ h.len
  all_used a = sym (count_all (full_at h) h.made a) ∙ s.counted

  -- the free head is the slot of no entry
  pub free_apart : (p : ℕ) → p < h.len → slot_at h p ≡ h.free.0 → ⊥
  free_apart p b e =
      ⊎_elim
      (λ w. omega (arith, w.0, (s.forth p b).0))
      (λ w. not_full w.2 (ap (state_at h) (sym e) ∙ (s.forth p b).1))
      free_view

-- taking it makes a slot
pub taken_new : (h : Heap) → h.free.0 ≡ h.made → taken_of h ≡ with_slots h (h.made + 1) (record { 0 = h.made + 1 })
unfolding taken_of
taken_new h q = simp (eq-eqb _ _ q)

-- or takes the empty one, and the next one is free
pub taken_old : (h : Heap) (n : Slot) → h.free.0 < h.made → state_at h h.free.0 ≡ Empty n → taken_of h ≡ with_slots h h.made n
unfolding taken_of
taken_old h n b e = simp (ne_eqb h.free.0 h.made (λ q. omega arith), e)
