-- Two heaps that differ only in room not in use, and single steps on them: stores at the same place of arrays of one length leave
-- the heaps as alike as they were, and what more is in use is what was stored.
-- Assumes nothing.
use mathlib.Core.Path.{◌≡◌, refl, sym, ◌∙◌, ap, subst}
use mathlib.Core.Logic.{⊎_elim}
use mathlib.Core.List.{List, [], ◌∷◌}
use Prim.Native.Nat.{ℕ, zero, suc, ◌+◌, ◌<◌, ◌≤◌}
use native.Mathlib.Omega.{arith}
use lib.ListN.{length, get_or, set, length-set}
use Rattle.heap.specs.declared.Slot.{Slot}
use Rattle.heap.specs.declared.Place.{Place}
use Rattle.heap.specs.declared.Entry.{Entry}
use Rattle.heap.specs.declared.SlotState.TheVariants.{Empty}
use Rattle.heap.specs.declared.SlabSlot.{SlabSlot}
use Rattle.heap.specs.declared.Heap.{Heap}
use Rattle.heap.specs.Rules.{no_entry, no_slot, entry_at, state_at, put_at, swap_at, with_slots, taken_of, with_len, added_of, vacated_of, new_entry}
use Rattle.heap.specs.Slab.{Slab}
use Rattle.heap.specs.InUse.{Twins}
use Rattle.heap.proofs.Slots.FreeHead.{free_view, taken_new, taken_old}

-- stores at the same place of lists of one length leave what is read there the same, and elsewhere what was the same
set_agree : {A B : Type 0} (f : A → B) (l m : List A) (i k : ℕ) (a d : A) → length l ≡ length m
    → ((k ≡ i → ⊥) → f (get_or l k d) ≡ f (get_or m k d)) → f (get_or (set l i a) k d) ≡ f (get_or (set m i a) k d)
set_agree f [] [] i k a d e r = refl
set_agree f [] (y ∷ m) i k a d e r = absurd (omega arith)
set_agree f (x ∷ l) [] i k a d e r = absurd (omega arith)
set_agree f (x ∷ l) (y ∷ m) zero zero a d e r = refl
set_agree f (x ∷ l) (y ∷ m) zero (suc k) a d e r = r (λ q. omega arith)
set_agree f (x ∷ l) (y ∷ m) (suc i) zero a d e r = r (λ q. omega arith)
set_agree f (x ∷ l) (y ∷ m) (suc i) (suc k) a d e r = set_agree f l m i k a d (omega arith) (λ n. r (λ q. n (omega arith)))

module _ (g h : Heap) (r : Twins g h) where
  entries_even : length g.entries ≡ length h.entries
  entries_even = r.left.entries_long ∙ sym r.right.entries_long

  slots_even : length g.slots ≡ length h.slots
  slots_even = r.left.slots_long ∙ sym r.right.slots_long

  -- an entry is put anywhere, with n entries and m slots and f as the free head from then on: what more is in use is what is stored
  put_grown : (n m : ℕ) (f : Slot) (i : ℕ) (e : Entry) → ((k : ℕ) → (k ≡ i → ⊥) → k < n → k < h.len)
      → ((s : ℕ) → (s ≡ e.slot.0 → ⊥) → s < m → s < h.made)
      → Twins (put_at (record { entries = g.entries; len = n; slots = g.slots; made = m; free = f }) i e)
      (put_at (record { entries = h.entries; len = n; slots = h.slots; made = m; free = f }) i e)
  unfolding put_at
  put_grown n m f i e old-entry old-slot = record {
    same = record {
      same_len = refl;
      same_made = refl;
      same_free = refl;
      entries = λ k b. set_agree (λ (x : Entry). x) g.entries h.entries i k e no_entry entries_even (λ q. r.same.entries k (old-entry k q b));
      slots = λ s b. set_agree (λ (y : SlabSlot). y.state) g.slots h.slots e.slot.0 s _ no_slot slots_even (λ q. r.same.slots s (old-slot s q b));
    };
    left = record { entries_long = simp length-set r.left.entries_long; slots_long = simp length-set r.left.slots_long };
    right = record { entries_long = simp length-set r.right.entries_long; slots_long = simp length-set r.right.slots_long };
  }

  -- the counts and the free head of one are those of the other
  as_counted : g ≡ record { entries = g.entries; len = h.len; slots = g.slots; made = h.made; free = h.free }
  as_counted = λ t. record { entries = g.entries; len = r.same.same_len t; slots = g.slots; made = r.same.same_made t; free = r.same.same_free t }

  -- the same entry is put at the same position
  pub put_twins : (i : ℕ) {e e' : Entry} → e ≡ e' → Twins (put_at g i e) (put_at h i e')
  put_twins i {e' = e'} q =
      subst (λ (x : Heap). Twins x (put_at h i e')) (sym (λ t. put_at (as_counted t) i (q t)))
      (put_grown h.len h.made h.free i e' (λ k _ b. b) (λ s _ b. b))

  -- no more entries are in use than were
  pub short_twins : (n : ℕ) → n ≤ h.len → Twins (with_len g n) (with_len h n)
  short_twins n b = record {
    same = record {
      same_len = refl;
      same_made = r.same.same_made;
      same_free = r.same.same_free;
      entries = λ k c. r.same.entries k (omega arith);
      slots = r.same.slots;
    };
    left = record { entries_long = r.left.entries_long; slots_long = r.left.slots_long };
    right = record { entries_long = r.right.entries_long; slots_long = r.right.slots_long };
  }

  -- the same slot is vacated
  pub vacated_twins : (s : Slot) → Twins (vacated_of g s) (vacated_of h s)
  unfolding vacated_of
  vacated_twins s = record {
    same = record {
      same_len = r.same.same_len;
      same_made = r.same.same_made;
      same_free = refl;
      entries = r.same.entries;
      slots = λ k b. ap (λ (f : Slot). (get_or (set g.slots s.0 (record { state = Empty f })) k no_slot).state) r.same.same_free
          ∙ set_agree (λ (y : SlabSlot). y.state) g.slots h.slots s.0 k _ no_slot slots_even (λ _. r.same.slots k b);
    };
    left = record { entries_long = r.left.entries_long; slots_long = simp length-set r.left.slots_long };
    right = record { entries_long = r.right.entries_long; slots_long = simp length-set r.right.slots_long };
  }

-- the same two positions in use are swapped
pub swap_twins : (g h : Heap) → Twins g h → (i j : ℕ) → i < h.len → j < h.len → Twins (swap_at g i j) (swap_at h i j)
unfolding swap_at
swap_twins g h r i j a b =
    put_twins (put_at g i (entry_at g j)) (put_at h i (entry_at h j)) (put_twins g h r i (r.same.entries j b)) j (r.same.entries i a)

module _ (g h : Heap) (r : Twins g h) (s : Slab h) (at n : ℕ) (place : Place) where
  -- the free head is taken, and the new entry goes last
  pub added_twins : Twins (added_of (taken_of g) (new_entry g at n place)) (added_of (taken_of h) (new_entry h at n place))
  unfolding added_of
  added_twins =
      ⊎_elim
      (λ w. step (h.made + 1) (record { 0 = h.made + 1 })
      (taken_new g (free_same ∙ w.0 ∙ sym r.same.same_made) ∙ ap (λ (m : ℕ). with_slots g (m + 1) (record { 0 = m + 1 })) r.same.same_made)
      (taken_new h w.0) (λ k q c. omega (arith, w.0)))
      (λ w. step h.made w.0
      (taken_old g w.0 (omega (arith, free_same, w.1, r.same.same_made)) (ap (state_at g) free_same ∙ r.same.slots h.free.0 w.1 ∙ w.2)
      ∙ ap (λ (m : ℕ). with_slots g m w.0) r.same.same_made)
      (taken_old h w.0 w.1 w.2) (λ k q c. c))
      (free_view h s)
    where
      free_same : g.free.0 ≡ h.free.0
      free_same = ap (λ (f : Slot). f.0) r.same.same_free

      step : (m : ℕ) (f : Slot) → taken_of g ≡ with_slots g m f → taken_of h ≡ with_slots h m f
          → ((k : ℕ) → (k ≡ h.free.0 → ⊥) → k < m → k < h.made)
          → Twins (added_of (taken_of g) (new_entry g at n place)) (added_of (taken_of h) (new_entry h at n place))
      step m f p q old =
          let grown : added_of (taken_of g) (new_entry g at n place) ≡ put_at (with_len (with_slots g m f) (h.len + 1)) h.len (new_entry h at n place) =
          (λ t. added_of (p t) (record { at = at; generation = n; place = place; slot = r.same.same_free t }))
          ∙ (λ t. put_at (with_len (with_slots g m f) (r.same.same_len t + 1)) (r.same.same_len t) (new_entry h at n place)) in
          rw (grown, q) (put_grown g h r (h.len + 1) m f h.len (new_entry h at n place) (λ k e c. omega arith) old)
