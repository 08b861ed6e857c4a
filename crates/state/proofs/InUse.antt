-- The test of soundness finds the same in two sets that differ only in room not in use: the list and the places are read in full,
-- and the heap past its counts not at all, since the places are tested only where the heap is sound, and there a full slot names
-- an entry in use.
-- Assumes nothing.
use mathlib.Core.Path.{◌≡◌, refl, sym, ◌∙◌, ap, subst}
use mathlib.Core.Bool.{Bool, cond, ◌&&◌}
use mathlib.Core.Option.{Option, none, some}
use Prim.Native.Nat.{ℕ, zero, suc, ◌<◌, ◌≤◌}
use native.Mathlib.Omega.{arith}
use lib.Dec.{ltb, eqb}
use Rattle.std.specs.Prelude as Code
use Rattle.std.specs.Prelude.{Some, None}
use Rattle.heap.specs.declared.Slot.{Slot}
use Rattle.theory.proofs.Tests.{ref_lt}
use Rattle.theory.proofs.First.{first_same}
use Rattle.refusals.specs.declared.fault.Fault.{Fault}
use Rattle.refusals.specs.declared.fault.Fault.TheVariants.{List, Place}
use Rattle.theory.specs.Chain.{clear}
use Rattle.refusals.specs.Faults.{or_else, fault_by}
use Rattle.heap.specs.Capacity.{cap}
use Rattle.heap.specs.declared.Entry.{Entry}
use Rattle.heap.specs.declared.SlotState.{SlotState}
use Rattle.heap.specs.declared.SlotState.TheVariants.{Full, Empty}
use Rattle.heap.specs.declared.Heap.{Heap}
use Rattle.heap.specs.Rules.{state_at}
use Rattle.heap.specs.Faults as Heaps
use Rattle.heap.specs.Sound.{Sound}
use Rattle.heap.specs.InUse as Heap
use Rattle.heap.proofs.AsList.Items.{and_same}
use Rattle.heap.proofs.Soundness.SoundFacts.{full_back}
use Rattle.heap.proofs.Testing.Test.{consistent_sound}
use Rattle.heap.proofs.UnusedRoom.InUseTest as HeapTest
use Rattle.state.specs.declared.Set.{Set}
use Rattle.state.specs.State.{timer_at}
use Rattle.state.specs.Faults.{waits_at, after_at, list_scan, entry_has, held_ok, life_ok, closed_ok, place_ok, entry_fits, entry_ok, lower, entry_scan, first_place, place_scan, fault_of, sound_of}
use Rattle.state.specs.InUse.{SameInUse, Twins}

-- their heaps differ only there
pub heap_twins : {a b : Set} → Twins a b → Heap.Twins a.heap b.heap
heap_twins r = record { same = r.same.heaps; left = r.left; right = r.right }

-- a set with another heap
abbrev pub over : Set → Heap → Set
over s g = record { heap = g; timers = s.timers; first = s.first; closed = s.closed }

-- the one set is the other with a heap of its own
pub as_over : {a b : Set} → SameInUse a b → a ≡ over b a.heap
as_over {a} r = λ t. record { heap = a.heap; timers = r.same_timers t; first = r.same_first t; closed = r.same_closed t }

-- so what a set has with every heap that differs only there, each two such sets have
pub by_heap : (P : Set → Set → Type 0) → ((s : Set) (g : Heap) → Heap.Twins g s.heap → P (over s g) s) → {a b : Set} → Twins a b → P a b
by_heap P f {a} {b} r = subst (λ (x : Set). P x b) (sym (as_over r.same)) (f b a.heap (heap_twins r))

module _ (s : Set) (g : Heap) (r : Heap.Twins g s.heap) where
  module _ (sound : Sound s.heap) where
    -- an entry that a full slot names is in use
    has_same : (q p : ℕ) → q < s.heap.made → (x : SlotState) → state_at s.heap q ≡ x → entry_has g x p ≡ entry_has s.heap x p
    has_same q p m (Full i) e =
        ap (λ (y : Entry). eqb y.place.0 p) (r.same.entries i.0 (full_back s.heap sound q i m e).0)
    has_same q p m (Empty n) e = refl

    held_same : (p : ℕ) (d : Code.Option Slot) → held_ok g p d ≡ held_ok s.heap p d
    held_same p None = refl
    held_same p (Some q) =
        ap (λ (m : ℕ). ltb q.0 m && entry_has g (state_at g q.0) p) r.same.same_made
        ∙ and_same (ref_lt q.0 s.heap.made)
        (λ m. ap (λ (x : SlotState). entry_has g x p) (r.same.slots q.0 m) ∙ has_same q.0 p m (state_at s.heap q.0) refl)

    place_same : (p : ℕ) → place_ok (over s g) p ≡ place_ok s p
    unfolding place_ok
    place_same p =
        ap (λ (b : Bool). life_ok s.closed (timer_at s p) (timer_at s p).life && (closed_ok s.closed (timer_at s p) && b))
        (held_same p (timer_at s p).held)

    entry_scan_same : (n : ℕ) → n ≤ s.heap.len → entry_scan (over s g) n ≡ entry_scan s n
    unfolding entry_scan entry_ok
    entry_scan_same zero l = refl
    entry_scan_same (suc n) l =
        let e = r.same.entries n (omega arith) in
        λ t. lower (entry_scan_same n (omega arith) t)
        (cond (ltb (e t).place.0 cap && entry_fits (e t) (timer_at s (e t).place.0).held) none (some (e t).place.0))

    places_same : place_scan (over s g) ≡ place_scan s
    unfolding place_scan first_place
    places_same = λ t. lower
        (first_same (place_ok (over s g)) (place_ok s) cap 0 (λ p l b. place_same p) t)
        ((ap (entry_scan (over s g)) r.same.same_len ∙ entry_scan_same s.heap.len (omega arith)) t)

  no_fault : Heaps.fault_of s.heap ≡ none → Sound s.heap
  unfolding Heaps.consistent_of
  no_fault e = consistent_sound s.heap r.right.entries_long r.right.slots_long (ap clear e)

  -- the places are asked only where the heap has no fault
  fault_over : fault_of (over s g) ≡ fault_of s
  unfolding fault_of list_scan waits_at after_at
  fault_over =
      ap (λ (f : Option Fault). or_else f (or_else (fault_by List (list_scan s)) (fault_by Place (place_scan (over s g)))))
      (HeapTest.fault_in_use g s.heap r.same)
      ∙ go (Heaps.fault_of s.heap) refl
    where
      go : (f : Option Fault) → Heaps.fault_of s.heap ≡ f
          → or_else f (or_else (fault_by List (list_scan s)) (fault_by Place (place_scan (over s g))))
          ≡ or_else f (or_else (fault_by List (list_scan s)) (fault_by Place (place_scan s)))
      go none e = ap (λ (o : Option ℕ). or_else (fault_by List (list_scan s)) (fault_by Place o)) (places_same (no_fault e))
      go (some f) e = refl

-- the scans find the same fault
pub fault_in_use : {a b : Set} → Twins a b → fault_of a ≡ fault_of b
fault_in_use r = by_heap (λ (a b : Set). fault_of a ≡ fault_of b) fault_over r

-- the test says the same
pub sound_in_use : {a b : Set} → Twins a b → sound_of a ≡ sound_of b
unfolding sound_of
sound_in_use r = ap clear (fault_in_use r)
