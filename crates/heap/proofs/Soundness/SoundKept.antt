-- Push, remove and pop keep a heap sound, whether they are refused or not: the slab by one way, the order by another.
-- Assumes nothing.
use mathlib.Core.Path.{◌≡◌, refl}
use Prim.Native.Nat.{ℕ, ◌<◌}
use native.Mathlib.Omega.{arith}
use Rattle.theory.proofs.Tests.{ref_lt, ref_eq, cond-ref}
use Rattle.refusals.specs.Answer.{Outcome}
use Rattle.heap.specs.declared.Slot.{Slot}
use Rattle.heap.specs.declared.Place.{Place}
use Rattle.heap.specs.declared.SlotState.{SlotState}
use Rattle.heap.specs.declared.SlotState.TheVariants.{Full, Empty}
use Rattle.heap.specs.declared.Heap.{Heap}
use Rattle.heap.specs.Capacity.{cap}
use Rattle.heap.specs.Rules.{entry_at, state_at}
use Rattle.heap.specs.Sound.{Sound}
use Rattle.heap.specs.Calls.{Off, remove_by, push_sound, remove_sound, pop_sound}
use Rattle.heap.proofs.Soundness.SoundFacts.{full_back}
use Rattle.heap.proofs.Slots.Slab.{sound_slab, slab_sound}
use Rattle.heap.proofs.Slots.Kept.{push_slab, remove_slab}
use Rattle.heap.proofs.AsList.Ordered.{push_keeps, remove_keeps}

module _ (h : Heap) (s : Sound h) where
  -- after a push the heap is sound
  pub push_sound_lem : (at g : ℕ) (place : Place) → Sound (push_sound h at g place).state
  unfolding push_sound
  push_sound_lem at g place =
      cond-ref (λ (o : Outcome Heap (Slot × ℕ)). Sound o.state) (ref_lt h.len cap)
      (λ room. slab_sound _ (push_slab h at g place (sound_slab h s) room) (push_keeps h at g place (omega arith) s.ordered))
      (λ full. s)

  removed_sound : (t : Slot) → t.0 < h.made → (x : SlotState) → state_at h t.0 ≡ x → Sound (remove_by h t x).state
  removed_sound t b (Full p) e =
      slab_sound _ (remove_slab h (sound_slab h s) t p b e) (remove_keeps h t p (omega arith) (full_back h s t.0 p b e).0 s.ordered)
  removed_sound t b (Empty n) e = s

  -- after a removal, of whatever slot
  pub remove_sound_lem : (t : Slot) → Sound (remove_sound h t).state
  unfolding remove_sound
  remove_sound_lem t =
      cond-ref (λ (o : Outcome Heap Off). Sound o.state) (ref_lt t.0 h.made)
      (λ b. removed_sound t b (state_at h t.0) refl)
      (λ n. s)

  -- after a pop
  pub pop_sound_lem : Sound (pop_sound h).state
  unfolding pop_sound
  pop_sound_lem =
      cond-ref (λ (o : Outcome Heap Off). Sound o.state) (ref_eq h.len 0) (λ e. s) (λ n. remove_sound_lem (entry_at h 0).slot)
