-- Where a place names no slot there is room in the heap: the entries are held by different places, all below the capacity, and that
-- place is not among them.
-- Assumes nothing.
use mathlib.Core.Path.{◌≡◌, refl, sym, ◌∙◌, ap}
use mathlib.Core.Logic.{inl, inr}
use mathlib.Core.Bool.{true}
use mathlib.Core.List.{List, [], ◌∷◌}
use Prim.Native.Nat.{ℕ, zero, suc, ◌<◌, ◌≤◌}
use native.Mathlib.Omega.{arith}
use lib.ListN.{length}
use Rattle.std.specs.Prelude.{Option, None}
use Rattle.theory.specs.Counting.{count, Mem, Distinct}
use Rattle.theory.proofs.Tests.{by-ref, ref_lt}
use Rattle.theory.proofs.Pigeonhole.{pigeonhole}
use Rattle.heap.specs.Capacity.{cap}
use Rattle.heap.specs.declared.Slot.{Slot}
use Rattle.heap.specs.declared.Heap.{Heap}
use Rattle.heap.specs.Rules.{entry_at, slot_at}
use Rattle.heap.proofs.Slots.Slab.{sound_slab, slot_apart}
use Rattle.heap.proofs.Slots.Lookup.{lookup_at}
use Rattle.laws.proofs.Parts.OpenSlots.{Fits, Slots, nothing_at, at_same}

-- the places of the entries below n
places_below : Heap → ℕ → List ℕ
places_below h zero = []
places_below h (suc n) = (entry_at h n).place.0 ∷ places_below h n

places_length : (h : Heap) (n : ℕ) → length (places_below h n) ≡ n
unfolding places_below
places_length h zero = refl
places_length h (suc n) = ap suc (places_length h n)

places_mem : (h : Heap) (n x : ℕ) → Mem x (places_below h n) → (i : ℕ) × (i < n) × ((entry_at h i).place.0 ≡ x)
unfolding places_below
places_mem h zero x m = absurd m
places_mem h (suc n) x (inl e) = (n, omega arith, sym e)
places_mem h (suc n) x (inr m) = let r = places_mem h n x m in (r.0, omega arith, r.2)

-- all numbers below n pass the test that all pass
count_all : (n : ℕ) → count (λ _. true) n ≡ n
unfolding count
count_all zero = refl
count_all (suc n) = ap suc (count_all n)

module _ (h : Heap) (held : ℕ → Option Slot) (s : Slots h held) where
  -- the entry at a position is named by its place
  pub fits_at : (i : ℕ) → i < h.len → Fits held (entry_at h i)
  fits_at i b = s.fits (slot_at h i) (entry_at h i) (lookup_at h (sound_slab h s.sound) i b)

  -- two entries have different places
  place_apart : (i j : ℕ) → i < h.len → j < h.len → (i ≡ j → ⊥) → (entry_at h i).place.0 ≡ (entry_at h j).place.0 → ⊥
  place_apart i j a b n e =
      slot_apart h (sound_slab h s.sound) i j a b n
      (ap (λ (z : Slot). z.0) (at_same (fits_at i a).named (ap held e ∙ (fits_at j b).named)))

  places_distinct : (n : ℕ) → n ≤ h.len → Distinct (places_below h n)
  unfolding places_below
  places_distinct zero b = tt
  places_distinct (suc n) b = (
    λ m. let r = places_mem h n (entry_at h n).place.0 m in place_apart r.0 n (omega arith) (omega arith) (λ e. omega arith) r.2,
    places_distinct n (omega arith),
  )

  places_in : (n : ℕ) → n ≤ h.len → (x : ℕ) → Mem x (places_below h n) → (x < cap) × (◌≡◌ true true)
  places_in n b x m =
      let r = places_mem h n x m in
      let l : r.0 < h.len = omega (arith, r.1) in
      (omega (arith, (fits_at r.0 l).place_in, r.2), refl)

  -- a place that names no slot leaves room for an entry
  pub room : (p : ℕ) → p < cap → held p ≡ None → h.len < cap
  room p b e = by-ref (ref_lt h.len cap) (λ l. l) (λ n. absurd (full (omega (arith, s.sound.len_in))))
    where
      full : h.len ≡ cap → ⊥
      full q =
          let m = pigeonhole (places_below h h.len) (λ _. true) cap (places_distinct h.len (omega arith)) (places_in h.len (omega arith))
          (places_length h h.len ∙ q ∙ sym (count_all cap)) p b refl in
          let r = places_mem h h.len p m in
          nothing_at e (ap held (sym r.2) ∙ (fits_at r.0 r.1).named)
