-- What push, remove and pop do, told by slots: at the slot that the call is about an entry comes or goes, and every other slot
-- keeps what stands in it. So a slot names its entry for as long as the entry is in the heap.
-- Assumes nothing.
use mathlib.Core.Path.{◌≡◌, refl, sym, ◌∙◌, ap, ap₂}
use mathlib.Core.Logic.{⊎_elim}
use mathlib.Core.Bool.{Bool, true, false, cond, ◌&&◌, and-false}
use mathlib.Core.Option.{none, some}
use Prim.Native.Nat.{ℕ, ◌-◌, ◌<◌}
use native.Mathlib.Omega.{arith}
use lib.Dec.{ltb}
use borrow.Author.Tests.{lt-ltb, le-ltb, ltb-true}
use Rattle.theory.proofs.Tests.{by-ref, ref_eq, ref_lt, is_false}
use Rattle.refusals.specs.declared.Refusal.TheVariants.{VacantSlot}
use Rattle.refusals.specs.Answer.{refuse, accepted, kept}
use Rattle.heap.specs.Capacity.{cap}
use Rattle.heap.specs.declared.Slot.{Slot}
use Rattle.heap.specs.declared.Pos.{Pos}
use Rattle.heap.specs.declared.Place.{Place}
use Rattle.heap.specs.declared.Entry.{Entry}
use Rattle.heap.specs.declared.SlotState.{SlotState}
use Rattle.heap.specs.declared.SlotState.TheVariants.{Full, Empty}
use Rattle.heap.specs.declared.Heap.{Heap}
use Rattle.heap.specs.Rules.{entry_at, state_at, slot_at, put_at, with_len, added_of, new_entry, pushed_of, vacated_of, removed_of}
use Rattle.heap.specs.Faults.{full_at}
use Rattle.heap.specs.Lookup.{standing, lookup}
use Rattle.heap.specs.Slab.{Slab}
use Rattle.heap.specs.Calls.{remove_by, remove_sound, pop_sound}
use Rattle.heap.proofs.Slots.Slab.{not_full_at}
use Rattle.heap.proofs.Walking.Steps.{move_last, push_by, remove_by_lem}
use Rattle.heap.proofs.Slots.FreeHead.{free_view}
use Rattle.heap.proofs.Slots.Pushing.{grown, grown_last, grown_entry, grown_slot, grown_full, taken_by_lem}
use Rattle.heap.proofs.Slots.Removing.{here, own, gone_state, gone_full, slab_last, fill_entry, fill_other, fill_alike, slab_fill}
use Rattle.heap.proofs.Slots.Kept.{remove_full, pop_head}
use Rattle.heap.proofs.Slots.Lookup.{lookup_none, lookup_full, lookup_state, lookup_kept, Holds, swaps_hold}

-- two bounds that a number is below of alike
below_same : (k m n : ℕ) → (k < m → k < n) → (k < n → k < m) → ltb k m ≡ ltb k n
below_same k m n f g =
    by-ref (ref_lt k n)
    (λ b. lt-ltb k m (g b) ∙ sym (lt-ltb k n b))
    (λ b. is_false (ltb k m) (λ e. b (f (ltb-true k m e))) ∙ sym (is_false (ltb k n) (λ e. b (ltb-true k n e))))

module _ (h : Heap) (s : Slab h) where
  -- before a push nothing stands in the free head
  pub free_none : lookup h h.free.0 ≡ none
  free_none =
      lookup_none h h.free.0
      (⊎_elim
      (λ w. ap (λ (b : Bool). b && full_at h h.free.0) (le-ltb h.free.0 h.made (omega (arith, w.0))))
      (λ w. ap (◌&&◌ (ltb h.free.0 h.made)) (not_full_at h h.free.0 w.0 w.2) ∙ and-false (ltb h.free.0 h.made))
      (free_view h s))

  module _ (at g : ℕ) (place : Place) (room : h.len < cap) where
    -- after it the new entry stands there
    pub push_new : lookup (pushed_of h at g place).heap h.free.0 ≡ some (new_entry h at g place)
    unfolding added_of put_at
    push_new =
        (push_by (Holds h.free.0 (some (new_entry h at g place))) (swaps_hold h.free.0 (some (new_entry h at g place))) h at g place
        (taken_by_lem h s at g place room (Holds h.free.0 (some (new_entry h at g place)))
        (λ m f r k. record {
          slab = k;
          at_slot =
              lookup_full (grown h s at g place room m f) h.free.0 (record { 0 = h.len }) r.1
              (grown_slot h s at g place room m f (omega (arith, r.1, r.2)))
              ∙ ap some (grown_last h s at g place room m f);
        }))
        ).at_slot

    -- every other slot keeps its entry
    pub push_other : (k : ℕ) → (k ≡ h.free.0 → ⊥) → lookup (pushed_of h at g place).heap k ≡ lookup h k
    unfolding added_of put_at
    push_other k n =
        (push_by (Holds k (lookup h k)) (swaps_hold k (lookup h k)) h at g place
        (taken_by_lem h s at g place room (Holds k (lookup h k))
        (λ m f r l. record {
          slab = l;
          at_slot =
              lookup_kept h (grown h s at g place room m f) s l k
              (ap₂ ◌&&◌ (below_same k m h.made (r.3 k n) (λ b. omega (arith, r.0))) (grown_full h s at g place room m f k n))
              (λ p b e. (p, omega arith, grown_entry h s at g place room m f p (λ q. omega arith)));
        }))
        ).at_slot

-- the slot t is full with the position p
module _ (h : Heap) (s : Slab h) (t : Slot) (p : Pos) (b : t.0 < h.made) (full : state_at h t.0 ≡ Full p) where
  gone_unused : (g : Heap) → full_at g t.0 ≡ full_at (vacated_of h t) t.0 → lookup g t.0 ≡ none
  gone_unused g e =
      lookup_none g t.0
      (ap (◌&&◌ (ltb t.0 g.made)) (e ∙ not_full_at (vacated_of h t) t.0 h.free (gone_state h s t p b full)) ∙ and-false (ltb t.0 g.made))

  -- after it nothing does
  pub remove_gone : lookup (removed_of h t p).heap t.0 ≡ none
  unfolding full_at
  remove_gone =
      (remove_by_lem (Holds t.0 none) (swaps_hold t.0 none) h t p (here h s t p b full)
      (λ l. record { slab = slab_last h s t p b full l; at_slot = gone_unused (with_len (vacated_of h t) (h.len - 1)) refl })
      (λ n. record { slab = slab_fill h s t p b full n; at_slot = gone_unused (move_last h t p) ((fill_alike h s t p b full n).full t.0) })
      ).at_slot

  -- every other slot keeps its entry
  pub remove_other : (k : ℕ) → (k ≡ t.0 → ⊥) → lookup (removed_of h t p).heap k ≡ lookup h k
  unfolding full_at vacated_of put_at
  remove_other k n =
      (remove_by_lem (Holds k (lookup h k)) (swaps_hold k (lookup h k)) h t p (here h s t p b full)
      (λ l. record {
        slab = slab_last h s t p b full l;
        at_slot =
            lookup_kept h (with_len (vacated_of h t) (h.len - 1)) s (slab_last h s t p b full l) k
            (ap (◌&&◌ (ltb k h.made)) (gone_full h s t p b full k n))
            (λ q c e. let d : q ≡ p.0 → ⊥ = λ x. n (sym e ∙ ap (slot_at h) x ∙ own h s t p b full) in
            (q, omega arith, refl));
      })
      (λ f. record {
        slab = slab_fill h s t p b full f;
        at_slot =
            lookup_kept h (move_last h t p) s (slab_fill h s t p b full f) k
            (ap (◌&&◌ (ltb k h.made)) ((fill_alike h s t p b full f).full k ∙ gone_full h s t p b full k n))
            (λ q c e. let d : q ≡ p.0 → ⊥ = λ x. n (sym e ∙ ap (slot_at h) x ∙ own h s t p b full) in
            by-ref (ref_eq q (h.len - 1))
            (λ x. (p.0, omega (arith, here h s t p b full), fill_entry h s t p b full f ∙ ap (entry_at h) (sym x)))
            (λ x. (q, omega arith, fill_other h s t p b full f q d)));
      })
      ).at_slot

module _ (h : Heap) (s : Slab h) (b : 0 < h.len) where
  -- after a pop nothing stands in the head's slot
  pub pop_gone : lookup (pop_sound h).state (slot_at h 0) ≡ none
  pop_gone = rw (pop_head h s b) (remove_gone h s (entry_at h 0).slot (record { 0 = 0 }) (s.forth 0 b).0 (s.forth 0 b).1)

  -- every other slot keeps its entry
  pub pop_other : (k : ℕ) → (k ≡ slot_at h 0 → ⊥) → lookup (pop_sound h).state k ≡ lookup h k
  pop_other k n = rw (pop_head h s b) (remove_other h s (entry_at h 0).slot (record { 0 = 0 }) (s.forth 0 b).0 (s.forth 0 b).1 k n)

-- a slot in which nothing stands is refused
pub remove_vacant : (h : Heap) (t : Slot) → lookup h t.0 ≡ none → remove_sound h t ≡ kept h (refuse VacantSlot)
unfolding lookup remove_sound
remove_vacant h t = go (ltb t.0 h.made) (state_at h t.0)
  where
    go : (b : Bool) (x : SlotState) → cond b (standing h x) none ≡ none
        → cond b (remove_by h t x) (kept h (refuse VacantSlot)) ≡ kept h (refuse VacantSlot)
    go true (Full p) e = let z : ◌≡◌ {A = ℕ} 0 1 = cc in absurd (omega arith)
    go true (Empty n) e = refl
    go false x e = refl

-- of a slot in which an entry stands the entry is given; nothing stands there then, and every other slot keeps its entry
pub remove_found : (h : Heap) → Slab h → (t : Slot) (e : Entry) → lookup h t.0 ≡ some e
    → (n : ℕ) × ((remove_sound h t).answer ≡ accepted (some (e, n))) × (lookup (remove_sound h t).state t.0 ≡ none)
    × ((k : ℕ) → (k ≡ t.0 → ⊥) → lookup (remove_sound h t).state k ≡ lookup h k)
remove_found h s t e l =
    let q = lookup_state h t.0 e l in
    rw (remove_full h s t q.0 q.1 q.2) (
      (removed_of h t q.0).swaps,
      ap (λ (x : Entry). accepted (some (x, (removed_of h t q.0).swaps))) q.3,
      remove_gone h s t q.0 q.1 q.2,
      remove_other h s t q.0 q.1 q.2,
    )
