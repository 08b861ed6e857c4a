-- A push takes the front off the free chain, or makes a slot where the chain is at its end, and puts the new entry last under it:
-- the slab is kept.
-- Assumes nothing.
use mathlib.Core.Path.{◌≡◌, refl, sym, ◌∙◌, ap, subst}
use mathlib.Core.Logic.{⊎_elim}
use mathlib.Core.Bool.{true}
use mathlib.Core.Option.{Option}
use Prim.Native.Nat.{ℕ, ◌+◌, ◌<◌, ◌≤◌}
use native.Mathlib.Omega.{arith}
use lib.ListN.{length-set}
use borrow.Author.Tests.{eq-eqb, ne_eqb}
use Rattle.theory.specs.Chain.{chain_okb}
use Rattle.theory.proofs.Tests.{by-ref, ref_eq}
use Rattle.theory.proofs.Counting.{count_yes, count_same, count_off, count_none}
use Rattle.theory.proofs.ChainTest.{none_ok}
use Rattle.theory.proofs.ChainChange.{pop_ok}
use Rattle.heap.specs.Capacity.{cap}
use Rattle.heap.specs.declared.Slot.{Slot}
use Rattle.heap.specs.declared.Place.{Place}
use Rattle.heap.specs.declared.SlotState.TheVariants.{Full, Empty}
use Rattle.heap.specs.declared.Heap.{Heap}
use Rattle.heap.specs.Rules.{entry_at, state_at, put_at, with_slots, with_len, taken_of, added_of, new_entry}
use Rattle.heap.specs.Faults.{is_full, link_of, full_at, empty_at, next_at}
use Rattle.heap.specs.Slab.{Slab}
use Rattle.heap.proofs.Slots.Slab.{full_at_lem, not_full_at}
use Rattle.heap.proofs.Slots.Stored.{entry_same, entry_other, state_same, state_other, put_here, put_there}
use Rattle.heap.proofs.Slots.Spare.{Spare, empty_same, full_empty, link_empty}
use Rattle.heap.proofs.Slots.FreeHead.{free_view, all_used, free_apart, taken_new, taken_old}

-- the new entry last, with m slots and f as the free head from then on
module _ (h : Heap) (s : Slab h) (at g : ℕ) (place : Place) (room : h.len < cap) (m : ℕ) (f : Slot) where
  -- the heap so grown
  abbrev pub grown : Heap
  grown = added_of (with_slots h m f) (new_entry h at g place)

  abbrev wide : Heap
  wide = with_len (with_slots h m f) (h.len + 1)

  -- the new entry stands last
  pub grown_last : entry_at grown h.len ≡ new_entry h at g place
  unfolding added_of
  grown_last = entry_same wide h.len (new_entry h at g place) (omega (arith, s.entries_long))

  -- elsewhere what stood there
  pub grown_entry : (p : ℕ) → (p ≡ h.len → ⊥) → entry_at grown p ≡ entry_at h p
  unfolding added_of
  grown_entry p n = entry_other wide h.len (new_entry h at g place) p n

  -- the free head is full with the last position
  pub grown_slot : h.free.0 < cap → state_at grown h.free.0 ≡ Full (record { 0 = h.len })
  unfolding added_of
  grown_slot b = state_same wide h.len (new_entry h at g place) (omega (arith, s.slots_long))

  -- no other slot changes
  grown_state : (k : ℕ) → (k ≡ h.free.0 → ⊥) → state_at grown k ≡ state_at h k
  unfolding added_of
  grown_state k n = state_other wide h.len (new_entry h at g place) k n

  -- no other slot becomes full, or empty
  pub grown_full : (k : ℕ) → (k ≡ h.free.0 → ⊥) → full_at grown k ≡ full_at h k
  unfolding full_at
  grown_full k n = ap is_full (grown_state k n)

  slab_grown : m ≤ cap → h.made ≤ m → h.free.0 < m → Spare grown (h.len + 1) → Slab grown
  unfolding added_of put_at
  slab_grown a b c r = record {
    entries_long = simp length-set s.entries_long;
    slots_long = simp length-set s.slots_long;
    len_in = omega arith;
    made_in = a;
    counted = r.counted;
    forth = λ p d. by-ref (ref_eq p h.len)
        (λ q. rw q (put_here wide h.len (new_entry h at g place) (omega (arith, s.entries_long)) (omega (arith, s.slots_long)) c))
        (λ q. let l : p < h.len = omega arith in
        put_there wide h.len (new_entry h at g place) p q (free_apart h s p l) (omega (arith, (s.forth p l).0), (s.forth p l).1));
    chained = r.chained;
  }

module _ (h : Heap) (s : Slab h) (at g : ℕ) (place : Place) (room : h.len < cap) where
  -- a slot is made: there was no empty one, and there is none
  spare_new : h.free.0 ≡ h.made → ((i : ℕ) → i < h.made → full_at h i ≡ true)
      → Spare (grown h s at g place room (h.made + 1) (record { 0 = h.made + 1 })) (h.len + 1)
  unfolding added_of put_at
  spare_new q a =
      let u = grown h s at g place room (h.made + 1) (record { 0 = h.made + 1 }) in
      let l : h.made ≡ h.len = all_used h s a in
      let t : full_at u h.made ≡ true =
      ap (full_at u) (sym q) ∙ full_at_lem u h.free.0 _ (grown_slot h s at g place room (h.made + 1) (record { 0 = h.made + 1 }) (omega arith)) in
      let o : (i : ℕ) → i < h.made → full_at u i ≡ full_at h i =
      λ i b. grown_full h s at g place room (h.made + 1) (record { 0 = h.made + 1 }) i (λ e. omega (arith, q, e)) in
      record {
        counted = count_yes (full_at u) h.made t ∙ ap (λ (n : ℕ). n + 1) (count_same (full_at u) (full_at h) h.made o ∙ s.counted);
        chained =
            rw (eq-eqb (h.made + 1) (h.made + 1) refl)
            (none_ok (empty_at u) (next_at u) (h.made + 1)
            (count_none (empty_at u) (h.made + 1) (λ i b. full_empty u i
            (by-ref (ref_eq i h.made) (λ e. ap (full_at u) e ∙ t) (λ e. let c : i < h.made = omega arith in o i c ∙ a i c))))).0;
      }

  -- the links of the other slots stay
  next_other : (n : Slot) (k : ℕ) → (k ≡ h.free.0 → ⊥) → next_at h k ≡ next_at (grown h s at g place room h.made n) k
  unfolding next_at added_of put_at
  next_other n k q = ap (link_of h.made) (sym (grown_state h s at g place room h.made n k q))

  -- the front of the chain is taken off
  spare_old : (n : Slot) → h.free.0 < h.made → state_at h h.free.0 ≡ Empty n
      → Spare (grown h s at g place room h.made n) (h.len + 1)
  unfolding added_of put_at
  spare_old n b e =
      let u = grown h s at g place room h.made n in
      let t : full_at u h.free.0 ≡ true = full_at_lem u h.free.0 _ (grown_slot h s at g place room h.made n (omega (arith, s.made_in))) in
      let o : (k : ℕ) → (k ≡ h.free.0 → ⊥) → full_at h k ≡ full_at u k = λ k q. sym (grown_full h s at g place room h.made n k q) in
      record {
        counted = count_off (full_at h) (full_at u) h.made h.free.0 o (not_full_at h h.free.0 n e) t b ∙ omega (arith, s.counted);
        chained =
            subst (λ (x : Option ℕ). chain_okb (empty_at u) (next_at u) h.made x ≡ true) (link_empty h h.free.0 n e)
            (pop_ok (empty_at h) (empty_at u) (next_at h) (next_at u) h.made h.free.0
            (λ k q. empty_same u h k refl (o k q)) (next_other n)
            b (full_empty u h.free.0 t) (rw (ne_eqb h.free.0 h.made (λ q. omega arith)) at s.chained)).0;
      }

module _ (h : Heap) (s : Slab h) (at g : ℕ) (place : Place) (room : h.len < cap) where
  -- what holds of the grown heap, either way, holds once the free head is taken and the entry added
  pub taken_by_lem : (P : Heap → Type 0)
      → ((m : ℕ) (f : Slot) → (h.made ≤ m) × (h.free.0 < m) × (m ≤ cap) × ((k : ℕ) → (k ≡ h.free.0 → ⊥) → k < m → k < h.made)
      → Slab (grown h s at g place room m f) → P (grown h s at g place room m f))
      → P (added_of (taken_of h) (new_entry h at g place))
  taken_by_lem P p =
      ⊎_elim
      (λ w. let l : h.made ≡ h.len = all_used h s w.1 in
      rw (taken_new h w.0)
      (p (h.made + 1) (record { 0 = h.made + 1 })
      (omega arith, omega (arith, w.0), omega arith, λ k q b. omega (arith, w.0))
      (slab_grown h s at g place room (h.made + 1) (record { 0 = h.made + 1 }) (omega arith) (omega arith) (omega (arith, w.0))
      (spare_new h s at g place room w.0 w.1))))
      (λ w. rw (taken_old h w.0 w.1 w.2)
      (p h.made w.0
      (omega arith, w.1, s.made_in, λ k q b. b)
      (slab_grown h s at g place room h.made w.0 s.made_in (omega arith) w.1
      (spare_old h s at g place room w.0 w.1 w.2))))
      (free_view h s)
