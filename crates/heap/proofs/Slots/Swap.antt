-- A swap of two positions keeps the slab: each of the two entries takes its slot along.
-- Assumes nothing.
use mathlib.Core.Path.{◌≡◌, sym, ◌∙◌, ap}
use mathlib.Core.Bool.{true}
use Prim.Native.Nat.{ℕ, ◌<◌}
use native.Mathlib.Omega.{arith}
use lib.ListN.{length, length-set}
use Rattle.theory.proofs.Tests.{by-ref, ref_eq}
use Rattle.heap.specs.declared.Heap.{Heap}
use Rattle.heap.specs.Rules.{entry_at, slot_at, put_at, swap_at}
use Rattle.heap.specs.Faults.{full_at}
use Rattle.heap.specs.Sound.{Placed}
use Rattle.heap.specs.Slab.{Slab}
use Rattle.heap.proofs.Slots.Slab.{slot_apart, full_at_lem}
use Rattle.heap.proofs.Slots.Stored.{slot_of, entry_same, entry_other, long_entries, long_slots, put_here, put_there}
use Rattle.heap.proofs.Slots.Spare.{Alike, alike_both, alike_spare, put_alike}

module _ (h : Heap) (s : Slab h) (i j : ℕ) (a : i < h.len) (b : j < h.len) where
  abbrev first : Heap
  first = put_at h i (entry_at h j)

  slot_in_range : (p : ℕ) → p < h.len → slot_at h p < length h.slots
  slot_in_range p c = omega (arith, s.slots_long, s.made_in, (s.forth p c).0)

  slot_full : (p : ℕ) → p < h.len → full_at h (slot_at h p) ≡ true
  slot_full p c = full_at_lem h (slot_at h p) _ (s.forth p c).1

  step : Alike h first
  step = put_alike h i (entry_at h j) (slot_in_range j b) (slot_full j b)

  -- the same slots are full after a swap
  pub swap_alike : Alike h (swap_at h i j)
  unfolding swap_at
  swap_alike =
      alike_both h first (swap_at h i j) step
      (put_alike first j (entry_at h i) (rw long_slots (slot_in_range i a)) (step.full (slot_at h i) ∙ slot_full i a))

  -- the entries after a swap: at j what stood at i
  pub swap_right : entry_at (swap_at h i j) j ≡ entry_at h i
  unfolding swap_at
  swap_right = entry_same first j (entry_at h i) (rw long_entries (omega (arith, s.entries_long, s.len_in)))

  -- at i what stood at j
  pub swap_left : entry_at (swap_at h i j) i ≡ entry_at h j
  unfolding swap_at
  swap_left =
      by-ref (ref_eq i j)
      (λ q. ap (entry_at (swap_at h i j)) q ∙ swap_right ∙ ap (entry_at h) q)
      (λ q. entry_other first j (entry_at h i) i q ∙ entry_same h i (entry_at h j) (omega (arith, s.entries_long, s.len_in)))

  -- elsewhere what stood there
  pub swap_other : (k : ℕ) → (k ≡ i → ⊥) → (k ≡ j → ⊥) → entry_at (swap_at h i j) k ≡ entry_at h k
  unfolding swap_at
  swap_other k f g = entry_other first j (entry_at h i) k g ∙ entry_other h i (entry_at h j) k f

  swap_forth : (p : ℕ) → p < h.len → Placed (swap_at h i j) p
  unfolding swap_at put_at
  swap_forth p c =
      by-ref (ref_eq p j)
      (λ q. rw q
      (put_here first j (entry_at h i) (rw long_entries (omega (arith, s.entries_long, s.len_in))) (rw long_slots (slot_in_range i a)) (s.forth i a).0))
      (λ nj. by-ref (ref_eq p i)
      (λ q. rw q
      (put_there first j (entry_at h i) i (λ e. nj (q ∙ e))
      (λ e. slot_apart h s j i b a (λ x. nj (q ∙ sym x)) (sym (ap slot_of (entry_same h i (entry_at h j) (omega (arith, s.entries_long, s.len_in)))) ∙ e))
      (put_here h i (entry_at h j) (omega (arith, s.entries_long, s.len_in)) (slot_in_range j b) (s.forth j b).0)))
      (λ ni. put_there first j (entry_at h i) p nj
      (λ e. slot_apart h s p i c a ni (sym (ap slot_of (entry_other h i (entry_at h j) p ni)) ∙ e))
      (put_there h i (entry_at h j) p ni (slot_apart h s p j c b nj) (s.forth p c))))

  -- a swap keeps the slab
  pub slab_swap : Slab (swap_at h i j)
  unfolding swap_at put_at
  slab_swap =
      let r = alike_spare h (swap_at h i j) h.len swap_alike (record { counted = s.counted; chained = s.chained }) in
      record {
        entries_long = simp length-set s.entries_long;
        slots_long = simp length-set s.slots_long;
        len_in = s.len_in;
        made_in = s.made_in;
        counted = r.counted;
        forth = swap_forth;
        chained = r.chained;
      }
