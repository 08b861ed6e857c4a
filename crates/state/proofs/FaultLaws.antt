-- Which fault of a set is the first: the heap's, then that of the list, then that of the places.
-- Assumes nothing.
use mathlib.Core.Path.{◌≡◌, sym, ap, ◌∙◌}
use mathlib.Core.Option.{Option, none, some}
use Prim.Native.Nat.{ℕ}
use lib.ListN.{length}
use Rattle.std.specs.Prelude as Code
use Rattle.std.specs.Prelude.{Some, None}
use Rattle.refusals.specs.declared.fault.Fault.{Fault}
use Rattle.refusals.specs.declared.fault.Fault.TheVariants.{List, Place}
use Rattle.theory.specs.Chain.{clear}
use Rattle.refusals.specs.Faults.{fault_by}
use Rattle.refusals.proofs.Faults.{stops}
use Rattle.heap.specs.Capacity.{cap}
use Rattle.heap.specs.declared.Place as Places
use Rattle.heap.specs.Faults as Heaps
use Rattle.heap.specs.Sound as HeapSound
use Rattle.heap.proofs.Testing.Test.{consistent_sound}
use Rattle.state.specs.declared.Set.{Set}
use Rattle.state.specs.Faults.{list_scan, lower, entry_scan, first_place, place_scan, walked, scanned, fault_of}

module _ (s : Set) {o : Option Fault} (e : o ≡ Heaps.fault_of s.heap) where
  -- a fault of the heap is the first
  pub heap_first : {f : Fault} → o ≡ some f → o ≡ fault_of s
  unfolding fault_of
  heap_first q = stops _ e q

  module _ (z : o ≡ none) where
    -- where the heap has none it is sound; how long the arrays are the code's types say
    pub heap_sound : length s.heap.entries ≡ cap → length s.heap.slots ≡ cap → HeapSound.Sound s.heap
    unfolding Heaps.consistent_of
    heap_sound n m = consistent_sound s.heap n m (ap clear (sym e ∙ z))

    -- then that of the list
    pub list_next : {r : Code.Option ℕ} {k : ℕ} → walked r ≡ list_scan s → r ≡ Some k → some (List k) ≡ fault_of s
    unfolding fault_of
    list_next {r} l a = rw (sym e ∙ z, sym l, a)

    -- and then that of the places
    pub place_last : {r : Code.Option ℕ} (a b q : Code.Option Places.Place) → walked r ≡ list_scan s → r ≡ None → scanned a ≡ first_place s
        → scanned b ≡ entry_scan s s.heap.len → scanned q ≡ lower (scanned a) (scanned b) → fault_by Place (scanned q) ≡ fault_of s
    unfolding fault_of place_scan
    place_last a b q l n x y w = rw (sym e ∙ z, sym l, n, sym x, sym y, w)
