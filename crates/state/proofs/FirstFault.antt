-- The fault that the test of a set names is what it says: the kinds before it are in order, of its own kind nothing lower is at fault,
-- and what is named is.
-- Assumes nothing.
use mathlib.Core.Path.{◌≡◌, refl, sym, ap, subst, ◌∙◌}
use mathlib.Core.Logic.{inl, inr, ⊎_elim}
use mathlib.Core.Bool.{Bool, true, false, cond}
use mathlib.Core.Option.{Option, none, some}
use Prim.Native.Nat.{ℕ, zero, suc, ◌≤◌, ◌<◌, min}
use native.Mathlib.Omega.{arith}
use lib.ListN.{length}
use Rattle.theory.specs.Chain.{clear}
use Rattle.theory.specs.First.{first_bad}
use Rattle.theory.proofs.Tests.{none_some, true_false, by-ref, ref_eq, ref_le, ref_true, true_ref}
use Rattle.theory.proofs.First.{none_all, some_first}
use Rattle.theory.proofs.WrongStep.{wrong_none, wrong_at}
use Rattle.refusals.specs.declared.fault.Fault.{Fault}
use Rattle.refusals.specs.declared.fault.Fault.TheVariants.{Count, Position, Order, FreeChain, List, Place}
use Rattle.refusals.specs.Faults.{or_else, fault_by}
use Rattle.heap.specs.Capacity.{cap}
use Rattle.heap.specs.Rules.{entry_at}
use Rattle.heap.specs.Faults as Heaps
use Rattle.heap.specs.Sound as Heap
use Rattle.heap.specs.Named as HeapNamed
use Rattle.heap.proofs.Testing.Test.{consistent_sound}
use Rattle.heap.proofs.Testing.Named as HeapProof
use Rattle.state.specs.declared.Set.{Set}
use Rattle.state.specs.State.{head_of}
use Rattle.state.specs.Faults.{waits_at, after_at, list_scan, place_ok, entry_ok, lower, entry_scan, first_place, place_scan, fault_of}
use Rattle.state.specs.Named.{PlaceRight, EntryRight, WrongPlace, Listed, Named}
use Rattle.state.proofs.ListLaws.{waits_below}
use Rattle.state.proofs.PlaceTest.{ref_place, ref_entry}

module _ (s : Set) where
  -- a fault of the heap means for the set what it means for the heap
  of_heap : (f : Fault) → HeapNamed.Named s.heap f → Named s f
  of_heap Count n = n
  of_heap (Position i) n = n
  of_heap (Order i) n = n
  of_heap (FreeChain k) n = n
  of_heap (List k) n = absurd n
  of_heap (Place p) n = absurd n

  -- the place number of an entry
  abbrev holder : ℕ → ℕ
  holder i = (entry_at s.heap i).place.0

  -- what the scan of the first n entries tells: all are in order, or one that is not holds the place, and none that is not a lower one
  abbrev Scanned : ℕ → Option ℕ → Type 0
  Scanned n none = (i : ℕ) → i < n → entry_ok s i ≡ true
  Scanned n (some p) = ((i : ℕ) × (i < n) × (holder i ≡ p) × (entry_ok s i ≡ false)) × ((i : ℕ) → i < n → entry_ok s i ≡ false → p ≤ holder i)

  scan_told : (n : ℕ) → Scanned n (entry_scan s n)
  unfolding entry_scan
  scan_told zero = λ i l. absurd (omega arith)
  scan_told (suc n) = step (entry_scan s n) (scan_told n) (entry_ok s n) refl
    where
      both : (P : ℕ → Type 0) → ((i : ℕ) → i < n → P i) → P n → (i : ℕ) → i < suc n → P i
      both P below last i l = by-ref (ref_eq i n) (λ e. subst P (sym e) last) (λ d. below i (omega arith))

      step : (o : Option ℕ) → Scanned n o → (b : Bool) → entry_ok s n ≡ b → Scanned (suc n) (lower o (cond b none (some (holder n))))
      step none k true e = both (λ i. entry_ok s i ≡ true) k e
      step none k false e = (
        (n, omega arith, refl, e),
        both (λ i. entry_ok s i ≡ false → holder n ≤ holder i) (λ i l q. true_false (k i l) q) (λ q. omega arith),
      )
      step (some p) k true e =
          let l = k.0.1 in (
            (k.0.0, omega arith, k.0.2, k.0.3),
            both (λ i. entry_ok s i ≡ false → p ≤ holder i) k.1 (λ q. true_false e q),
          )
      step (some p) k false e =
          by-ref (ref_le p (holder n))
          (λ m. let z : p ≡ min p (holder n) = omega arith in
          let l = k.0.1 in
          ((k.0.0, omega arith, k.0.2 ∙ z, k.0.3), least))
          (λ m. let z : holder n ≡ min p (holder n) = omega arith in ((n, omega arith, z, e), least))
        where
          least : (i : ℕ) → i < suc n → entry_ok s i ≡ false → min p (holder n) ≤ holder i
          least = both (λ i. entry_ok s i ≡ false → min p (holder n) ≤ holder i) (λ i l q. let m = k.1 i l q in omega arith) (λ q. omega arith)

  -- what the scan of the places tells: all are in order, or the place is not and all below it are
  abbrev Looked : Option ℕ → Type 0
  Looked none = (q : ℕ) → q < cap → PlaceRight s q
  Looked (some p) = (p < cap) × ¬ PlaceRight s p × ((q : ℕ) → q < p → PlaceRight s q)

  look_told : Looked (first_place s)
  unfolding first_place
  look_told = go (first_bad (place_ok s) cap 0) refl
    where
      go : (o : Option ℕ) → first_bad (place_ok s) cap 0 ≡ o → Looked o
      go none e = λ q l. ref_true (ref_place s q) (none_all (place_ok s) cap 0 e q (omega arith) (omega arith))
      go (some p) e =
          let a = some_first (place_ok s) cap 0 p e in (
            omega (arith, a.1),
            (λ r. true_false (true_ref (ref_place s p) r) a.2),
            (λ q l. ref_true (ref_place s q) (a.3 q (omega arith) l)),
          )

  -- nothing is wrong at a place below what both scans found
  under_looked : (o : Option ℕ) → Looked o → (r : ℕ) → ((p : ℕ) → o ≡ some p → r < p) → r < cap → PlaceRight s r
  under_looked none k r b l = k r l
  under_looked (some p) k r b l = k.2 r (b p refl)

  under_scanned : (o : Option ℕ) → Scanned s.heap.len o → (r : ℕ) → ((q : ℕ) → o ≡ some q → r < q) → (i : ℕ) → i < s.heap.len → holder i ≡ r → EntryRight s i
  under_scanned none k r b i l e = ref_true (ref_entry s i) (k i l)
  under_scanned (some q) k r b i l e = go (entry_ok s i) refl
    where
      go : (t : Bool) → entry_ok s i ≡ t → EntryRight s i
      go true t = ref_true (ref_entry s i) t
      go false t = let m = k.1 i l t in let c = b q refl in absurd (omega arith)

  -- the lowest place at fault
  lowest : (a b : Option ℕ) → Looked a → Scanned s.heap.len b → Heap.Sound s.heap → Listed s → (f : Fault) → fault_by Place (lower a b) ≡ some f → Named s f
  lowest a b x y h l f e = go a b x y e
    where
      named : (p : ℕ) → Place p ≡ f → WrongPlace s p → ((q : ℕ) → q < p → ¬ WrongPlace s q) → Named s f
      named p z w u = subst (Named s) z (h, l, w, u)

      -- below p nothing is wrong, where p is not above what either scan found
      clean : (a b : Option ℕ) → Looked a → Scanned s.heap.len b → (p : ℕ) → ((q : ℕ) → a ≡ some q → p ≤ q) → ((q : ℕ) → b ≡ some q → p ≤ q)
          → (q : ℕ) → q < p → ¬ WrongPlace s q
      clean a b x y p u v q l =
          ⊎_elim (λ w. w.1 (under_looked a x q (λ r e. let m = u r e in omega arith) w.0))
          (λ w. w.3 (under_scanned b y q (λ r e. let m = v r e in omega arith) w.0 w.1 w.2))

      wrong_entry : {q : ℕ} → Scanned s.heap.len (some q) → WrongPlace s q
      wrong_entry y = inr (y.0.0, y.0.1, y.0.2, λ r. true_false (true_ref (ref_entry s y.0.0) r) y.0.3)

      go : (a b : Option ℕ) → Looked a → Scanned s.heap.len b → fault_by Place (lower a b) ≡ some f → Named s f
      go none none x y e = absurd (none_some refl e)
      go none (some q) x y e =
          let z : Place q ≡ f = cc in
          named q z (wrong_entry y) (clean none (some q) x y q (λ r c. absurd (none_some refl c)) (λ r c. let m : q ≡ r = cc in omega arith))
      go (some p) none x y e =
          let z : Place p ≡ f = cc in
          named p z (inl (x.0, x.1)) (clean (some p) none x y p (λ r c. let m : p ≡ r = cc in omega arith) (λ r c. absurd (none_some refl c)))
      go (some p) (some q) x y e =
          let z : Place (min p q) ≡ f = cc in
          named (min p q) z
          (by-ref (ref_le p q)
          (λ m. let n : p ≡ min p q = omega arith in subst (WrongPlace s) n (inl (x.0, x.1)))
          (λ m. let n : q ≡ min p q = omega arith in subst (WrongPlace s) n (wrong_entry y)))
          (clean (some p) (some q) x y (min p q) (λ r c. let m : p ≡ r = cc in omega arith) (λ r c. let m : q ≡ r = cc in omega arith))

  place_named : Heap.Sound s.heap → Listed s → (f : Fault) → fault_by Place (place_scan s) ≡ some f → Named s f
  unfolding place_scan
  place_named h l f e = lowest (first_place s) (entry_scan s s.heap.len) look_told (scan_told s.heap.len) h l f e

  -- THE FAULT THAT IS NAMED; how long the heap's arrays are the code's types say
  pub fault_named : length s.heap.entries ≡ cap → length s.heap.slots ≡ cap → (f : Fault) → fault_of s ≡ some f → Named s f
  unfolding fault_of list_scan Heaps.consistent_of
  fault_named m k f e = go (Heaps.fault_of s.heap) refl e
    where
      listed : Heap.Sound s.heap → (x : Option ℕ) → list_scan s ≡ x → or_else (fault_by List x) (fault_by Place (place_scan s)) ≡ some f → Named s f
      listed h none q e = place_named h (sym (wrong_none (waits_at s) (after_at s) (head_of s.first) cap (waits_below s)) ∙ ap clear q) f e
      listed h (some j) q e =
          let z : List j ≡ f = cc in
          subst (Named s) z (h, wrong_at (waits_at s) (after_at s) (head_of s.first) cap (waits_below s) j q)

      go : (x : Option Fault) → Heaps.fault_of s.heap ≡ x → or_else x (or_else (fault_by List (list_scan s)) (fault_by Place (place_scan s))) ≡ some f → Named s f
      go none q e = listed (consistent_sound s.heap m k (ap clear q)) (list_scan s) refl e
      go (some y) q e = let z : y ≡ f = cc in of_heap f (HeapProof.fault_named s.heap f (q ∙ ap some z))
