-- A heap has no two first faults: what a named fault means is true of one fault at most, and of none where the heap is sound.
-- Assumes nothing.
use mathlib.Core.Path.{◌≡◌, refl, sym, ap, ◌∙◌}
use mathlib.Core.Option.{some}
use Prim.Native.Nat.{ℕ, ◌<◌}
use native.Mathlib.Omega.{arith}
use Rattle.theory.specs.Chain.{unless, clear}
use Rattle.theory.specs.WrongStep.{WrongAt, wrong_step}
use Rattle.theory.proofs.Tests.{true_false, by-ref, ref_eq, ref_le}
use Rattle.theory.proofs.WrongStep.{wrong_only, wrong_none}
use Rattle.refusals.specs.declared.fault.Fault.{Fault}
use Rattle.refusals.specs.declared.fault.Fault.TheVariants.{Count, Position, Order, FreeChain, List, Place}
use Rattle.heap.specs.declared.Heap.{Heap}
use Rattle.heap.specs.Faults.{empty_at, next_at}
use Rattle.heap.specs.Sound.{Sound}
use Rattle.heap.specs.Named.{Named}
use Rattle.heap.proofs.Soundness.SoundFacts.{empty_made}

-- two numbers of which neither is below the other are one
pub same : (i j : ℕ) → (i < j → ⊥) → (j < i → ⊥) → i ≡ j
same i j a b =
    by-ref (ref_eq i j) (λ e. e)
    (λ d. by-ref (ref_le i j) (λ l. absurd (a (omega arith))) (λ l. absurd (b (omega arith))))

module _ (h : Heap) where
  -- where the chain goes wrong is the step that the scan finds
  step_is : (k : ℕ) → WrongAt (empty_at h) (next_at h) h.made (unless h.made h.free.0) k
      → wrong_step (empty_at h) (next_at h) h.made (unless h.made h.free.0) ≡ some k
  step_is k w = wrong_only (empty_at h) (next_at h) (unless h.made h.free.0) h.made (empty_made h) k w

  -- so it goes wrong at one step
  steps_same : (k j : ℕ) → WrongAt (empty_at h) (next_at h) h.made (unless h.made h.free.0) k
      → WrongAt (empty_at h) (next_at h) h.made (unless h.made h.free.0) j → k ≡ j
  steps_same k j w v = let e = sym (step_is k w) ∙ step_is j v in let z : k ≡ j = cc in z

  -- ONE FAULT: no two are the first
  pub one_fault : (f g : Fault) → Named h f → Named h g → f ≡ g
  one_fault Count Count n m = refl
  one_fault Count (Position j) n m = absurd (n m.0)
  one_fault Count (Order j) n m = absurd (n m.0)
  one_fault Count (FreeChain j) n m = absurd (n m.0)
  one_fault Count (List j) n m = absurd m
  one_fault Count (Place j) n m = absurd m
  one_fault (Position i) Count n m = absurd (m n.0)
  one_fault (Position i) (Position j) n m =
      ap (λ (k : ℕ). Position k) (same i j (λ l. n.3 (m.1 i l)) (λ l. m.3 (n.1 j l)))
  one_fault (Position i) (Order j) n m = absurd (n.3 (m.1 i n.2))
  one_fault (Position i) (FreeChain j) n m = absurd (n.3 (m.1 i n.2))
  one_fault (Position i) (List j) n m = absurd m
  one_fault (Position i) (Place j) n m = absurd m
  one_fault (Order i) Count n m = absurd (m n.0)
  one_fault (Order i) (Position j) n m = absurd (m.3 (n.1 j m.2))
  one_fault (Order i) (Order j) n m =
      ap (λ (k : ℕ). Order k) (same i j (λ l. n.5 (m.2 i n.3 l)) (λ l. m.5 (n.2 j m.3 l)))
  one_fault (Order i) (FreeChain j) n m = absurd (n.5 (m.2 i n.3 n.4))
  one_fault (Order i) (List j) n m = absurd m
  one_fault (Order i) (Place j) n m = absurd m
  one_fault (FreeChain i) Count n m = absurd (m n.0)
  one_fault (FreeChain i) (Position j) n m = absurd (m.3 (n.1 j m.2))
  one_fault (FreeChain i) (Order j) n m = absurd (m.5 (n.2 j m.3 m.4))
  one_fault (FreeChain i) (FreeChain j) n m = ap (λ (k : ℕ). FreeChain k) (steps_same i j n.3 m.3)
  one_fault (FreeChain i) (List j) n m = absurd m
  one_fault (FreeChain i) (Place j) n m = absurd m
  one_fault (List i) g n m = absurd n
  one_fault (Place i) g n m = absurd n

  -- NONE where the heap is sound
  pub sound_unnamed : Sound h → (f : Fault) → Named h f → ⊥
  sound_unnamed s Count n = n (record { len_in = s.len_in; made_in = s.made_in; counted = s.counted })
  sound_unnamed s (Position i) n = n.3 (s.forth i n.2)
  sound_unnamed s (Order i) n = n.5 (s.ordered i n.3 n.4)
  sound_unnamed s (FreeChain k) n =
      true_false (wrong_none (empty_at h) (next_at h) (unless h.made h.free.0) h.made (empty_made h) ∙ s.chained)
      (ap clear (step_is k n.3))
  sound_unnamed s (List k) n = n
  sound_unnamed s (Place k) n = n
