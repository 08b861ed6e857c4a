-- Push and remove keep the slab of a sound heap, that is all of `Sound` but the order. A swap keeps the
-- slab, and before its swaps a push takes the free head and a removal gives a slot back to the chain.
-- Assumes nothing.
use mathlib.Core.Path.{◌≡◌, refl, ◌∙◌}
use Prim.Native.Nat.{ℕ, ◌-◌, ◌<◌}
use native.Mathlib.Omega.{arith}
use borrow.Author.Tests.{ne_eqb, lt-ltb}
use Rattle.heap.specs.Capacity.{cap}
use Rattle.heap.specs.declared.Slot.{Slot}
use Rattle.heap.specs.declared.Pos.{Pos}
use Rattle.heap.specs.declared.Place.{Place}
use Rattle.heap.specs.declared.SlotState.TheVariants.{Full}
use Rattle.heap.specs.declared.Heap.{Heap}
use Rattle.heap.specs.Rules.{entry_at, state_at, put_at, pushed_of, vacated_of, removed_of}
use Rattle.heap.specs.Slab.{Slab}
use Rattle.heap.specs.Calls.{remove_sound, remove_gives, pop_sound}
use Rattle.heap.proofs.Walking.Laws.{len_swap}
use Rattle.heap.proofs.Slots.Swap.{slab_swap}
use Rattle.heap.proofs.Walking.Steps.{Swaps, push_by, remove_by_lem}
use Rattle.heap.proofs.Slots.Pushing.{taken_by_lem}
use Rattle.heap.proofs.Slots.Removing.{here, slab_last, slab_fill}

swaps_slab : Swaps Slab
swaps_slab g i j s a b = slab_swap g s i j a b

swaps_len : (n : ℕ) → Swaps (λ g. g.len ≡ n)
swaps_len n g i j e a b = len_swap g i j ∙ e

module _ (h : Heap) (at g : ℕ) (place : Place) where
  -- a push keeps the slab
  pub push_slab : Slab h → h.len < cap → Slab (pushed_of h at g place).heap
  push_slab s room = push_by Slab swaps_slab h at g place (taken_by_lem h s at g place room Slab (λ m f r k. k))

module _ (h : Heap) (s : Slab h) (t : Slot) (p : Pos) (b : t.0 < h.made) (full : state_at h t.0 ≡ Full p) where
  -- a removal keeps the slab
  pub remove_slab : Slab (removed_of h t p).heap
  remove_slab = remove_by_lem Slab swaps_slab h t p (here h s t p b full) (slab_last h s t p b full) (slab_fill h s t p b full)

  -- it takes one entry
  pub remove_len : (removed_of h t p).heap.len ≡ h.len - 1
  unfolding vacated_of put_at
  remove_len =
      remove_by_lem (λ x. x.len ≡ h.len - 1) (swaps_len (h.len - 1)) h t p (here h s t p b full) (λ _. refl) (λ _. refl)

  -- it is what the call that works on a sound heap does
  pub remove_full : remove_sound h t ≡ remove_gives (entry_at h p.0) (removed_of h t p)
  unfolding remove_sound
  remove_full = simp (lt-ltb t.0 h.made b, full)

-- the pop of a heap that is not empty is the removal of the head
pub pop_head : (h : Heap) → Slab h → 0 < h.len → pop_sound h ≡ remove_gives (entry_at h 0) (removed_of h (entry_at h 0).slot (record { 0 = 0 }))
unfolding pop_sound
pop_head h s b =
    let f = s.forth 0 b in
    rw (ne_eqb h.len 0 (λ q. omega arith)) (remove_full h s (entry_at h 0).slot (record { 0 = 0 }) f.0 f.1)
