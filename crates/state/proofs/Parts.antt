-- The test of soundness has four parts: the heap, the list, the places and the entries.
-- Assumes nothing.
use mathlib.Core.Path.{◌≡◌, refl, sym, ap, subst, ◌∙◌}
use mathlib.Core.Bool.{Bool, true, ◌&&◌}
use mathlib.Core.Option.{Option, none, some}
use Prim.Native.Nat.{ℕ, ◌<◌}
use native.Mathlib.Omega.{arith}
use lib.ListN.{length}
use Rattle.theory.specs.Tests.{Ref, holds, fails}
use Rattle.theory.specs.Chain.{chain_okb, clear}
use Rattle.theory.specs.First.{first_bad}
use Rattle.theory.proofs.Tests.{ref_and, ref_map, ref_true, true_ref, none_some, and_left, and_right}
use Rattle.theory.proofs.First.{none_all, all_none}
use Rattle.theory.proofs.WrongStep.{wrong_none}
use Rattle.refusals.specs.declared.fault.Fault.TheVariants.{List, Place}
use Rattle.refusals.specs.Faults.{or_else, fault_by}
use Rattle.refusals.proofs.Faults.{clear_else, clear_by}
use Rattle.heap.specs.Capacity.{cap}
use Rattle.heap.specs.Faults as Heaps
use Rattle.heap.specs.Sound as Heap
use Rattle.heap.proofs.Testing.Test as HeapTest
use Rattle.state.specs.declared.Set.{Set}
use Rattle.state.specs.State.{head_of}
use Rattle.state.specs.Faults.{waits_at, after_at, list_scan, place_ok, lower, entry_scan, first_place, place_scan, fault_of, sound_of}
use Rattle.state.proofs.ListLaws.{waits_below}
use Rattle.state.specs.Named.{PlaceRight, EntryRight}
use Rattle.state.proofs.PlaceTest.{ref_self, ref_place, ref_entries}

-- neither of two scans found one
no_lower : (a b : Option ℕ) → clear (lower a b) ≡ (clear a && clear b)
no_lower none b = refl
no_lower (some p) none = refl
no_lower (some p) (some q) = refl

module _ (s : Set) where
  -- the list holds exactly the waiting timers
  abbrev pub list_test : Bool
  list_test = chain_okb (waits_at s) (after_at s) cap (head_of s.first)

  list_no : clear (list_scan s) ≡ list_test
  unfolding list_scan
  list_no = wrong_none (waits_at s) (after_at s) (head_of s.first) cap (waits_below s)

  -- the four parts of the test
  tested : Heaps.consistent_of s.heap && (list_test && (clear (first_place s) && clear (entry_scan s s.heap.len))) ≡ sound_of s
  unfolding sound_of fault_of place_scan Heaps.consistent_of
  tested =
      let a = Heaps.fault_of s.heap in
      let b = fault_by List (list_scan s) in
      let c = fault_by Place (place_scan s) in
      sym (clear_else a (or_else b c)
      ∙ ap (λ (x : Bool). clear a && x) (clear_else b c
      ∙ ap (λ (x : Bool). x && clear c) (clear_by List (list_scan s) ∙ list_no)
      ∙ ap (λ (x : Bool). list_test && x) (clear_by Place (place_scan s) ∙ no_lower (first_place s) (entry_scan s s.heap.len))))

  -- the scan over the places finds none exactly where all pass
  ref_places : Ref ((p : ℕ) → p < cap → PlaceRight s p) (clear (first_place s))
  unfolding first_place
  ref_places = go (first_bad (place_ok s) cap 0) refl
    where
      go : (o : Option ℕ) → first_bad (place_ok s) cap 0 ≡ o → Ref ((p : ℕ) → p < cap → PlaceRight s p) (clear o)
      go none e = holds (λ p l. ref_true (ref_place s p) (none_all (place_ok s) cap 0 e p (omega arith) (omega arith)))
      go (some j) e = fails (λ a. none_some (all_none (place_ok s) cap 0 (λ p z l. true_ref (ref_place s p) (a p (omega arith)))) e)

  -- of a set that passes, every place does, however long its arrays are
  pub places_fine : sound_of s ≡ true → (p : ℕ) → p < cap → PlaceRight s p
  places_fine e = ref_true ref_places (and_left _ _ (and_right list_test _ (and_right (Heaps.consistent_of s.heap) _ (tested ∙ e))))

  -- all that the test tells
  pub record Passed : Type 0 where
    pub heap : Heap.Sound s.heap
    pub list : list_test ≡ true
    pub places : (p : ℕ) → p < cap → PlaceRight s p
    pub entries : (i : ℕ) → i < s.heap.len → EntryRight s i

  -- the test, part by part; how long the arrays are the code's types say
  pub ref_passed : length s.heap.entries ≡ cap → length s.heap.slots ≡ cap → Ref Passed (sound_of s)
  ref_passed m k =
      subst (Ref Passed) tested
      (ref_map (ref_and (HeapTest.sound_test s.heap m k) (ref_and (ref_self list_test) (ref_and ref_places (ref_entries s s.heap.len))))
      (λ t. record { heap = t.0; list = t.1.0; places = t.1.1.0; entries = t.1.1.1 })
      (λ t. (t.heap, (t.list, (t.places, t.entries)))))
