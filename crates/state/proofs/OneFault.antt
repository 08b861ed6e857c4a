-- A set has no two first faults: what a named fault means is true of one fault at most.
-- Assumes nothing.
use mathlib.Core.Path.{◌≡◌, sym, ap, ◌∙◌}
use mathlib.Core.Option.{some}
use Prim.Native.Nat.{ℕ}
use Rattle.theory.specs.Chain.{clear}
use Rattle.theory.specs.WrongStep.{WrongAt, wrong_step}
use Rattle.theory.proofs.Tests.{true_false}
use Rattle.theory.proofs.WrongStep.{wrong_only, wrong_none}
use Rattle.refusals.specs.declared.fault.Fault.{Fault}
use Rattle.refusals.specs.declared.fault.Fault.TheVariants.{Count, Position, Order, FreeChain, List, Place}
use Rattle.heap.specs.Capacity.{cap}
use Rattle.heap.specs.Named as HeapNamed
use Rattle.heap.proofs.Testing.OneFault as Heap
use Rattle.state.specs.declared.Set.{Set}
use Rattle.state.specs.State.{head_of}
use Rattle.state.specs.Faults.{waits_at, after_at}
use Rattle.state.specs.Named.{Listed, Named}
use Rattle.state.proofs.ListLaws.{waits_below}

module _ (s : Set) where
  -- where the list goes wrong is the step that the scan finds
  step_is : (k : ℕ) → WrongAt (waits_at s) (after_at s) cap (head_of s.first) k → wrong_step (waits_at s) (after_at s) cap (head_of s.first) ≡ some k
  step_is k w = wrong_only (waits_at s) (after_at s) (head_of s.first) cap (waits_below s) k w

  -- so it goes wrong at one step
  steps_same : (k j : ℕ) → WrongAt (waits_at s) (after_at s) cap (head_of s.first) k → WrongAt (waits_at s) (after_at s) cap (head_of s.first) j → k ≡ j
  steps_same k j w v = let e = sym (step_is k w) ∙ step_is j v in let z : k ≡ j = cc in z

  -- a list that is right goes wrong at no step
  listed_none : Listed s → (k : ℕ) → WrongAt (waits_at s) (after_at s) cap (head_of s.first) k → ⊥
  listed_none l k w = true_false (wrong_none (waits_at s) (after_at s) (head_of s.first) cap (waits_below s) ∙ l) (ap clear (step_is k w))

  -- a fault that is named is the heap's, or of the list, or of a place
  data Whose : Fault → Type 0 where
    the_heap : {f : Fault} → HeapNamed.Named s.heap f → Whose f
    the_list : (k : ℕ) → Named s (List k) → Whose (List k)
    a_place : (p : ℕ) → Named s (Place p) → Whose (Place p)

  whose : (f : Fault) → Named s f → Whose f
  whose Count n = the_heap n
  whose (Position i) n = the_heap n
  whose (Order i) n = the_heap n
  whose (FreeChain k) n = the_heap n
  whose (List k) n = the_list k n
  whose (Place p) n = a_place p n

  one_of : {f g : Fault} → Whose f → Whose g → f ≡ g
  one_of {f} {g} (the_heap n) (the_heap m) = Heap.one_fault s.heap f g n m
  one_of {f} (the_heap n) (the_list k m) = absurd (Heap.sound_unnamed s.heap m.0 f n)
  one_of {f} (the_heap n) (a_place p m) = absurd (Heap.sound_unnamed s.heap m.0 f n)
  one_of {g = g} (the_list k n) (the_heap m) = absurd (Heap.sound_unnamed s.heap n.0 g m)
  one_of (the_list k n) (the_list j m) = ap (λ (x : ℕ). List x) (steps_same k j n.1 m.1)
  one_of (the_list k n) (a_place p m) = absurd (listed_none m.1 k n.1)
  one_of {g = g} (a_place p n) (the_heap m) = absurd (Heap.sound_unnamed s.heap n.0 g m)
  one_of (a_place p n) (the_list k m) = absurd (listed_none n.1 k m.1)
  one_of (a_place p n) (a_place q m) = ap (λ (x : ℕ). Place x) (Heap.same p q (λ l. m.3 p l n.2) (λ l. n.3 q l m.2))

  -- ONE FAULT: no two are the first
  pub one_fault : (f g : Fault) → Named s f → Named s g → f ≡ g
  one_fault f g n m = one_of (whose f n) (whose g m)
