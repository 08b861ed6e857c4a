-- Two heaps that differ only in room not in use give the same answers, and go on differing only there: the test finds the same
-- fault in both (`fault_in_use` of proofs/UnusedRoom/InUseTest.antt), and where it says yes the calls read in use only, and store alike.
-- Assumes nothing.
use mathlib.Core.Path.{◌≡◌, refl, ap}
use mathlib.Core.Option.{Option, none, some}
use Prim.Native.Nat.{ℕ, ◌<◌}
use native.Mathlib.Omega.{arith}
use lib.Dec.{ltb, eqb}
use Rattle.theory.proofs.Tests.{ref_lt, ref_eq}
use Rattle.refusals.specs.declared.fault.Fault.{Fault}
use Rattle.refusals.specs.declared.Refusal.TheVariants.{Unsound, Full, VacantSlot}
use Rattle.theory.specs.Chain.{clear}
use Rattle.refusals.specs.Answer.{Answer, accepted, refuse, Outcome, kept}
use Rattle.heap.specs.Capacity.{cap}
use Rattle.heap.specs.declared.Slot.{Slot}
use Rattle.heap.specs.declared.Place.{Place}
use Rattle.heap.specs.declared.Entry.{Entry}
use Rattle.heap.specs.declared.SlotState.{SlotState}
use Rattle.heap.specs.declared.SlotState.TheVariants as State
use Rattle.heap.specs.declared.Heap.{Heap}
use Rattle.heap.specs.Rules.{entry_at, state_at}
use Rattle.heap.specs.Faults.{fault_of, consistent_of}
use Rattle.heap.specs.Sound.{Sound}
use Rattle.heap.specs.InUse.{Twins, SameOutcome}
use Rattle.heap.specs.Calls.{guard_of, guarded, push_sound, remove_by, remove_sound, pop_sound, peek_sound, push_of, remove_of, pop_of, peek_of}
use Rattle.heap.proofs.Soundness.SoundFacts.{full_back}
use Rattle.heap.proofs.Slots.Slab.{sound_slab}
use Rattle.heap.proofs.Soundness.Guarding.{judged, guarded_is}
use Rattle.heap.proofs.Testing.Test.{consistent_sound}
use Rattle.heap.proofs.UnusedRoom.InUseTest.{fault_in_use}
use Rattle.heap.proofs.UnusedRoom.InUseWalks.{choose_ref, pushed_in_use, removed_in_use}

module _ (g h : Heap) (r : Twins g h) where
  -- a refusal leaves both as they were
  kept_in_use : {A : Type 0} (a : Answer A) → SameOutcome (kept g a) (kept h a)
  kept_in_use a = record { answers = refl; states = r }

  module _ (s : Sound h) where
    -- push onto sound heaps
    pub push_sound_in_use : (at n : ℕ) (place : Place) → SameOutcome (push_sound g at n place) (push_sound h at n place)
    unfolding push_sound
    push_sound_in_use at n place =
        choose_ref SameOutcome (ap (λ (k : ℕ). ltb k cap) r.same.same_len) (ref_lt h.len cap)
        (λ _. let m = pushed_in_use g h r (sound_slab h s) at n place in
        record { answers = λ t. accepted (r.same.same_free t, m.same_swaps t); states = m.heaps })
        (λ _. kept_in_use (refuse Full))

    removed : (t : Slot) → t.0 < h.made → (x : SlotState) → state_at h t.0 ≡ x → SameOutcome (remove_by g t x) (remove_by h t x)
    removed t b (State.Full p) e =
        let c : p.0 < h.len = (full_back h s t.0 p b e).0 in
        let m = removed_in_use g h r t p c in
        record { answers = λ i. accepted (some (r.same.entries p.0 c i, m.same_swaps i)); states = m.heaps }
    removed t b (State.Empty n) e = kept_in_use (refuse VacantSlot)

    -- removal from sound heaps, by whatever slot
    pub remove_sound_in_use : (t : Slot) → SameOutcome (remove_sound g t) (remove_sound h t)
    unfolding remove_sound
    remove_sound_in_use t =
        choose_ref SameOutcome (ap (ltb t.0) r.same.same_made) (ref_lt t.0 h.made)
        (λ b. rw (r.same.slots t.0 b) (removed t b (state_at h t.0) refl))
        (λ _. kept_in_use (refuse VacantSlot))

    -- pop of sound heaps
    pub pop_sound_in_use : SameOutcome (pop_sound g) (pop_sound h)
    unfolding pop_sound
    pop_sound_in_use =
        choose_ref SameOutcome (ap (λ (k : ℕ). eqb k 0) r.same.same_len) (ref_eq h.len 0)
        (λ _. record { answers = refl; states = r })
        (λ n. let b : 0 < h.len = omega arith in rw (r.same.entries 0 b) (remove_sound_in_use (entry_at h 0).slot))

  -- peek at heaps, sound or not
  pub peek_sound_in_use : peek_sound g ≡ peek_sound h
  unfolding peek_sound
  peek_sound_in_use =
      choose_ref (◌≡◌) (ap (λ (k : ℕ). eqb k 0) r.same.same_len) (ref_eq h.len 0)
      (λ _. refl)
      (λ n. let b : 0 < h.len = omega arith in ap (λ (e : Entry). accepted (some e)) (r.same.entries 0 b))

  -- a call begins with the test, and goes on where it finds no fault
  guarded_in_use : {A : Type 0} {o q : Outcome Heap A} → (Sound h → SameOutcome o q) → SameOutcome (guarded g o) (guarded h q)
  unfolding consistent_of
  guarded_in_use {o = o} {q} f = rw (guarded_is g o, guarded_is h q, fault_in_use g h r.same) (go (fault_of h) refl)
    where
      go : (x : Option Fault) → fault_of h ≡ x → SameOutcome (judged g o x) (judged h q x)
      go none e = f (consistent_sound h r.right.entries_long r.right.slots_long (ap clear e))
      go (some k) e = kept_in_use (refuse (Unsound k))

  -- push
  pub push_in_use : (at n : ℕ) (place : Place) → SameOutcome (push_of g at n place) (push_of h at n place)
  push_in_use at n place = guarded_in_use (λ s. push_sound_in_use s at n place)

  -- remove
  pub remove_in_use : (t : Slot) → SameOutcome (remove_of g t) (remove_of h t)
  remove_in_use t = guarded_in_use (λ s. remove_sound_in_use s t)

  -- pop
  pub pop_in_use : SameOutcome (pop_of g) (pop_of h)
  pop_in_use = guarded_in_use pop_sound_in_use

  -- peek
  pub peek_in_use : peek_of g ≡ peek_of h
  unfolding guard_of
  peek_in_use = rw (fault_in_use g h r.same, peek_sound_in_use)
