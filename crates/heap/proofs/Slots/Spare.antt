-- The slots that hold no entry: as many slots are full as there are entries, and the free chain goes through the others. Storing
-- another position in a full slot leaves both.
-- Assumes nothing.
use mathlib.Core.Path.{◌≡◌, refl, sym, ◌∙◌, ap, ap₂}
use mathlib.Core.Bool.{Bool, true, false, not, ◌&&◌, and-false}
use mathlib.Core.Option.{none}
use Prim.Native.Nat.{ℕ, ◌<◌}
use lib.Dec.{ltb}
use lib.ListN.{length}
use borrow.Author.Tests.{lt-ltb, ltb-true, not-true}
use Rattle.theory.specs.Counting.{count}
use Rattle.theory.specs.Chain.{unless, chain_okb}
use Rattle.theory.proofs.Tests.{by-ref, ref_eq, and_left, and_right}
use Rattle.theory.proofs.Counting.{count_same}
use Rattle.theory.proofs.ChainChange.{chain_same}
use Rattle.heap.specs.declared.Slot.{Slot}
use Rattle.heap.specs.declared.Entry.{Entry}
use Rattle.heap.specs.declared.SlotState.TheVariants.{Empty}
use Rattle.heap.specs.declared.Heap.{Heap}
use Rattle.heap.specs.Rules.{state_at, put_at, with_len}
use Rattle.heap.specs.Faults.{is_full, link_of, full_at, empty_at, next_at}
use Rattle.heap.proofs.Slots.Slab.{full_pos, full_at_lem}
use Rattle.heap.proofs.Slots.Stored.{slot_of, state_same, state_other}

-- n slots are full, and the free chain visits the others
pub record Spare (h : Heap) (n : ℕ) : Type 0 where
  pub counted : count (full_at h) h.made ≡ n
  pub chained : chain_okb (empty_at h) (next_at h) h.made (unless h.made h.free.0) ≡ true

-- the same slots are full and the others are linked in the same way
pub record Alike (h g : Heap) : Type 0 where
  pub made : g.made ≡ h.made
  pub free : g.free.0 ≡ h.free.0
  pub full : (k : ℕ) → full_at g k ≡ full_at h k
  pub next : (k : ℕ) → next_at g k ≡ next_at h k

-- two such steps are one
pub alike_both : (a b c : Heap) → Alike a b → Alike b c → Alike a c
alike_both a b c r s = record {
  made = s.made ∙ r.made;
  free = s.free ∙ r.free;
  full = λ k. s.full k ∙ r.full k;
  next = λ k. s.next k ∙ r.next k;
}

-- heaps that agree on which slots were made and which are full agree on which are empty
pub empty_same : (h g : Heap) (k : ℕ) → ltb k g.made ≡ ltb k h.made → full_at g k ≡ full_at h k → empty_at g k ≡ empty_at h k
unfolding empty_at full_at
empty_same h g k m e = ap₂ (λ (x y : Bool). x && not y) m e

-- a slot that passes for empty was made and is not full
pub empty_told : (h : Heap) (k : ℕ) → empty_at h k ≡ true → (k < h.made) × (full_at h k ≡ false)
unfolding empty_at full_at
empty_told h k e = (ltb-true k h.made (and_left (ltb k h.made) (not (full_at h k)) e), not-true _ (and_right (ltb k h.made) (not (full_at h k)) e))

-- a slot that was made and is not full passes for empty
pub empty_tells : (h : Heap) (k : ℕ) → k < h.made → full_at h k ≡ false → empty_at h k ≡ true
unfolding empty_at full_at
empty_tells h k b e = rw (lt-ltb k h.made b, e)

-- a full slot does not pass for empty
pub full_empty : (h : Heap) (k : ℕ) → full_at h k ≡ true → empty_at h k ≡ false
unfolding empty_at full_at
full_empty h k e = rw e (and-false (ltb k h.made))

-- an empty slot links to the next one
pub link_empty : (h : Heap) (k : ℕ) (n : Slot) → state_at h k ≡ Empty n → next_at h k ≡ unless h.made n.0
unfolding next_at
link_empty h k n e = ap (link_of h.made) e

-- the spare slots stay
pub alike_spare : (h g : Heap) (n : ℕ) → Alike h g → Spare h n → Spare g n
alike_spare h g n a s = record {
  counted =
      ap (count (full_at g)) a.made ∙ count_same (full_at g) (full_at h) h.made (λ i _. a.full i) ∙ s.counted;
  chained =
      chain_same (empty_at g) (empty_at h) (next_at g) (next_at h)
      (λ k. empty_same h g k (ap (ltb k) a.made) (a.full k)) (λ k _. a.next k) g.made (unless g.made g.free.0)
      ∙ ap₂ (λ (m f : ℕ). chain_okb (empty_at h) (next_at h) m (unless m f)) a.made a.free ∙ s.chained;
}

-- a full slot is on no chain
full_next : (h : Heap) (k : ℕ) → full_at h k ≡ true → next_at h k ≡ none
unfolding full_at next_at
full_next h k e = ap (link_of h.made) (full_pos (state_at h k) e).1

-- the number of entries says nothing of the slots
pub len_alike : (h : Heap) (n : ℕ) → Alike h (with_len h n)
unfolding full_at next_at
len_alike h n = record { made = refl; free = refl; full = λ k. refl; next = λ k. refl }

module _ (h : Heap) (i : ℕ) (e : Entry) (b : slot_of e < length h.slots) (f : full_at h (slot_of e) ≡ true) where
  put_full : (k : ℕ) → full_at (put_at h i e) k ≡ full_at h k
  unfolding full_at
  put_full k =
      by-ref (ref_eq k (slot_of e))
      (λ q. ap (full_at (put_at h i e)) q ∙ full_at_lem (put_at h i e) (slot_of e) _ (state_same h i e b) ∙ sym f ∙ ap (full_at h) (sym q))
      (λ q. ap is_full (state_other h i e k q))

  put_next : (k : ℕ) → next_at (put_at h i e) k ≡ next_at h k
  unfolding next_at put_at
  put_next k =
      by-ref (ref_eq k (slot_of e))
      (λ q. full_next (put_at h i e) k (put_full k ∙ ap (full_at h) q ∙ f) ∙ sym (full_next h k (ap (full_at h) q ∙ f)))
      (λ q. ap (link_of h.made) (state_other h i e k q))

  -- an entry whose slot is full already is put anywhere
  pub put_alike : Alike h (put_at h i e)
  unfolding put_at
  put_alike = record { made = refl; free = refl; full = put_full; next = put_next }
