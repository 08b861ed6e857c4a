-- A row is right where its sets break what they must: the test of soundness says no more and no less, by `clauses_sound`.
-- Assumes nothing.
use mathlib.Core.Path.{◌≡◌, refl, sym, ap, ap₂, ◌∙◌}
use mathlib.Core.Bool.{Bool, true, false, not, cond, ◌&&◌, false≢true}
use mathlib.Core.Option.{Option, none, some}
use mathlib.Core.List.{List, [], ◌∷◌, ◌++◌}
use Prim.Native.Nat.{ℕ, ◌+◌, ◌≤◌}
use native.Mathlib.Omega.{arith}
use lib.Dec.{leb, eqb}
use lib.ListN.{length}
use borrow.Author.Tests.{eqb-true, eq-eqb, not-true}
use Rattle.theory.specs.Tests.{bit}
use Rattle.theory.proofs.Tests.{ref_le, ref_true, is_false, and_left, and_right, true_false}
use Rattle.refusals.specs.declared.fault.Fault.{Fault}
use Rattle.refusals.specs.declared.fault.Fault.TheVariants as Where
use Rattle.theory.specs.Chain.{clear}
use Rattle.refusals.specs.Faults.{or_else, fault_by}
use Rattle.heap.specs.Capacity.{cap}
use Rattle.heap.specs.Rules.{no_entry}
use Rattle.heap.specs.Faults as Heap
use Rattle.heap.specs.Faults.{consistent_of}
use Rattle.state.specs.State.{no_timer}
use Rattle.state.specs.Faults as State
use Rattle.state.specs.Faults.{sound_of}
use Rattle.promises.specs.Bench.{same_numbers}
use Rattle.promises.specs.Clauses.{is_empty, broken_of, broken}
use Rattle.promises.specs.States.{Drawn, empty, heap_of, set_of, of_set, tested, Row, right, wrong}
use Rattle.promises.proofs.Clauses.{clauses_sound}
use Rattle.promises.proofs.Drawn.Room.{room_length, drawn_length}
use Rattle.promises.proofs.Drawn.Few.{clauses_few, fits}
use Rattle.promises.proofs.Drawn.Same.{few_broken}
use Rattle.promises.proofs.Drawn.Small.{breaks_few, right_few}

-- lists of numbers that are the same by their test are one, and the other way round
numbers_same : (xs ys : List ℕ) → same_numbers xs ys ≡ true → xs ≡ ys
numbers_same [] [] e = refl
numbers_same [] (y ∷ ys) e = absurd (false≢true e)
numbers_same (x ∷ xs) [] e = absurd (false≢true e)
numbers_same (x ∷ xs) (y ∷ ys) e = ap₂ ◌∷◌ (eqb-true x y (and_left (eqb x y) _ e)) (numbers_same xs ys (and_right (eqb x y) _ e))

same_numbers_lem : (xs : List ℕ) → same_numbers xs xs ≡ true
same_numbers_lem [] = refl
same_numbers_lem (x ∷ xs) = rw (eq-eqb x x refl, same_numbers_lem xs)

-- two tests that say yes
pub both : {a b : Bool} → a ≡ true → b ≡ true → (a && b) ≡ true
both p q = ap₂ ◌&&◌ p q

-- where neither of two faults is there, the first is not
first_clear : (a b : Option Fault) → clear (or_else a b) ≡ true → clear a ≡ true
first_clear none b e = refl
first_clear (some f) b e = e

module _ (d : Drawn) (t : d.start + length d.timers ≤ cap) (e : length d.heap.entries ≤ cap) (q : length d.heap.slots ≤ cap) where
  -- the test says yes of a set that is drawn exactly where it breaks no clause
  pub drawn_sound : (sound_of (set_of d) ≡ true → broken (set_of d) ≡ []) × (broken (set_of d) ≡ [] → sound_of (set_of d) ≡ true)
  unfolding set_of heap_of
  drawn_sound =
      let a = room_length no_entry 0 d.heap.entries (omega (arith, e)) in
      let b = room_length (empty 0) 0 d.heap.slots (omega (arith, q)) in
      clauses_sound (set_of d) (drawn_length no_timer d.start d.timers t) (omega (arith, a)) (omega (arith, b))

  -- so what it says is known from the clauses that are broken
  sound_is : (cs : List ℕ) → broken (set_of d) ≡ cs → sound_of (set_of d) ≡ is_empty cs
  sound_is [] b = drawn_sound.1 b
  sound_is (c ∷ cs) b = is_false _ (λ s. true_false (ap is_empty (drawn_sound.0 s)) (ap is_empty b))

  -- so a set is tested as it must be where it breaks what it must and the heap's test says what it must
  pub tested_by : (cs : List ℕ) → eqb (bit (consistent_of (heap_of d.heap))) (bit (of_set cs)) ≡ true → broken (set_of d) ≡ cs
      → tested (set_of d) (is_empty cs) cs ≡ true
  unfolding set_of
  tested_by cs h b =
      both (eq-eqb _ _ (ap bit (sound_is cs b))) (both h (ap (λ (l : List ℕ). same_numbers l cs) b ∙ same_numbers_lem cs))

  -- a set that breaks no clause is sound, and so is its heap
  pub none_tested : broken (set_of d) ≡ [] → tested (set_of d) true [] ≡ true
  unfolding set_of sound_of State.fault_of consistent_of
  none_tested b =
      let s = set_of d in
      let c = first_clear (Heap.fault_of s.heap) (or_else (fault_by Where.List (State.list_scan s)) (fault_by Where.Place (State.place_scan s))) (sound_is [] b) in
      tested_by [] (eq-eqb _ _ (ap bit c)) b

-- by what is drawn
few_tested : (d : Drawn) (cs : List ℕ) → breaks_few d cs ≡ true → tested (set_of d) (is_empty cs) cs ≡ true
few_tested d cs f =
    let g = and_left (fits d) _ f in
    let h = and_right (fits d) _ f in
    let n = leb (d.start + length d.timers) cap in
    let m = leb (length d.heap.entries) cap in
    let k = leb (length d.heap.slots) cap in
    let w = eqb (bit (consistent_of (heap_of d.heap))) (bit (of_set cs)) in
    tested_by d (ref_true (ref_le _ cap) (and_left n _ g)) (ref_true (ref_le _ cap) (and_left m _ (and_right n _ g)))
    (ref_true (ref_le _ cap) (and_left k _ (and_right m _ (and_right n _ g)))) cs (and_left w _ h)
    (few_broken d g ∙ numbers_same (broken_of (set_of d) (clauses_few d)) cs (and_right w (same_numbers (broken_of (set_of d) (clauses_few d)) cs) h))

-- a row that is right by what is drawn is right
row_few : (r : Row) → (breaks_few r.sound [] && (not (is_empty r.breaks) && breaks_few r.unsound r.breaks)) ≡ true → right r ≡ true
row_few r e =
    let a = breaks_few r.sound [] in
    let n = not (is_empty r.breaks) in
    let m = breaks_few r.unsound r.breaks in
    let f = and_right a (n && m) e in
    both (few_tested r.sound [] (and_left a (n && m) e))
    (ap (λ (b : Bool). tested (set_of r.unsound) b r.breaks) (sym (not-true (is_empty r.breaks) (and_left n m f)))
    ∙ few_tested r.unsound r.breaks (and_right n m f))

-- rows that are right are not among the wrong ones
pub wrong_right : (r : Row) (rs : List Row) → right r ≡ true → wrong rs ≡ [] → wrong (r ∷ rs) ≡ []
wrong_right r rs e f = go (right r) e
  where
    go : (b : Bool) → b ≡ true → cond b (wrong rs) (r.number ∷ wrong rs) ≡ []
    go true e = f
    go false e = absurd (false≢true e)

pub wrong_few : (rs : List Row) → right_few rs ≡ true → wrong rs ≡ []
wrong_few [] e = refl
wrong_few (r ∷ rs) e =
    let a = breaks_few r.sound [] && (not (is_empty r.breaks) && breaks_few r.unsound r.breaks) in
    wrong_right r rs (row_few r (and_left a (right_few rs) e)) (wrong_few rs (and_right a (right_few rs) e))

-- where neither of two lists has a wrong one, both together have none
pub wrong_both : (rs qs : List Row) → wrong rs ≡ [] → wrong qs ≡ [] → wrong (rs ++ qs) ≡ []
wrong_both [] qs e f = f
wrong_both (r ∷ rs) qs e f = go (right r) refl e (λ g. wrong_both rs qs g f)
  where
    go : (b : Bool) → right r ≡ b → cond b (wrong rs) (r.number ∷ wrong rs) ≡ [] → (wrong rs ≡ [] → wrong (rs ++ qs) ≡ []) → wrong (r ∷ (rs ++ qs)) ≡ []
    go true d e k = wrong_right r (rs ++ qs) d (k e)
    go false d e k = true_false refl (ap is_empty (sym e))
