-- The fault that the heap test names is what it says: the kinds before it are in order, of its own kind nothing lower is at fault, and
-- what is named is.
-- Assumes nothing.
use mathlib.Core.Path.{◌≡◌, refl, ap, subst, ◌∙◌}
use mathlib.Core.Bool.{Bool, true, false, cond}
use mathlib.Core.Option.{Option, none, some}
use Prim.Native.Nat.{ℕ, ◌-◌, ◌≤◌, ◌<◌}
use native.Mathlib.Omega.{arith}
use Rattle.theory.specs.Chain.{unless, clear}
use Rattle.theory.specs.First.{first_bad}
use Rattle.theory.specs.WrongStep.{wrong_step}
use Rattle.theory.proofs.Tests.{none_some, true_false, ref_true, true_ref}
use Rattle.theory.proofs.First.{none_all, some_first}
use Rattle.theory.proofs.WrongStep.{wrong_at}
use Rattle.refusals.specs.declared.fault.Fault.{Fault}
use Rattle.refusals.specs.declared.fault.Fault.TheVariants.{Count, Position, Order, FreeChain}
use Rattle.refusals.specs.Faults.{or_else, fault_by}
use Rattle.heap.specs.declared.Heap.{Heap}
use Rattle.heap.specs.Faults.{empty_at, next_at, count_ok, position_ok, order_ok, count_fault, position_fault, order_fault, chain_fault, fault_of}
use Rattle.heap.specs.Sound.{Placed, Ordered}
use Rattle.heap.specs.Named.{Counts, PlacedTo, OrderedTo, Named}
use Rattle.heap.proofs.Soundness.SoundFacts.{empty_made}
use Rattle.heap.proofs.Testing.Test.{ref_count, place_of, order_of}
use Rattle.heap.proofs.Testing.FaultLaws.{position_yes, order_not}

module _ (h : Heap) where
  -- where the test of the counts finds nothing they are right, and else they are not
  counts_right : count_fault h ≡ none → Counts h
  counts_right e = let t = ref_true (ref_count h) (ap clear e) in record { len_in = t.0; made_in = t.1.0; counted = t.1.1 }

  counts_wrong : {f : Fault} → count_fault h ≡ some f → ¬ Counts h
  counts_wrong e c = true_false (true_ref (ref_count h) (c.len_in, (c.made_in, c.counted))) (ap clear e)

  count_kind : (f : Fault) → count_fault h ≡ some f → Count ≡ f
  unfolding count_fault
  count_kind f e = go (count_ok h) e
    where
      go : (b : Bool) → cond b none (some Count) ≡ some f → Count ≡ f
      go true e = absurd (none_some refl e)
      go false e = cc

  -- a position or a pair in order, by its test, is so
  placed : (n : ℕ) → ((i : ℕ) → 0 ≤ i → i < n → position_ok h i ≡ true) → PlacedTo h n
  placed n a j l = place_of h j (a j (omega arith) l)

  ordered : (n : ℕ) → ((i : ℕ) → 1 ≤ i → i < n → order_ok h i ≡ true) → OrderedTo h n
  ordered n a j z l = order_of h j (a j (omega arith) l)

  misplaced : (i : ℕ) → position_ok h i ≡ false → ¬ Placed h i
  misplaced i e p = true_false (position_yes h i p.0 p.1 refl) e

  disordered : (i : ℕ) → order_ok h i ≡ false → ¬ Ordered h i
  disordered i e o = true_false (order_not h i o) e

  chain_named : Counts h → PlacedTo h h.len → OrderedTo h h.len → (f : Fault) → chain_fault h ≡ some f → Named h f
  unfolding chain_fault
  chain_named c p o f e = go (wrong_step (empty_at h) (next_at h) h.made (unless h.made h.free.0)) refl e
    where
      go : (x : Option ℕ) → wrong_step (empty_at h) (next_at h) h.made (unless h.made h.free.0) ≡ x → fault_by FreeChain x ≡ some f → Named h f
      go none q e = absurd (none_some refl e)
      go (some k) q e =
          let z : FreeChain k ≡ f = cc in
          subst (Named h) z (c, p, o, wrong_at (empty_at h) (next_at h) (unless h.made h.free.0) h.made (empty_made h) k q)

  order_named : Counts h → PlacedTo h h.len → (f : Fault) → or_else (order_fault h) (chain_fault h) ≡ some f → Named h f
  unfolding order_fault
  order_named c p f e = go (first_bad (order_ok h) (h.len - 1) 1) refl e
    where
      go : (x : Option ℕ) → first_bad (order_ok h) (h.len - 1) 1 ≡ x → or_else (fault_by Order x) (chain_fault h) ≡ some f → Named h f
      go none q e = chain_named c p (ordered h.len (λ i z l. none_all (order_ok h) (h.len - 1) 1 q i z (omega arith))) f e
      go (some i) q e =
          let z : Order i ≡ f = cc in
          let a = some_first (order_ok h) (h.len - 1) 1 i q in
          subst (Named h) z (c, p, ordered i a.3, omega (arith, a.0), omega (arith, a.0, a.1), disordered i a.2)

  position_named : Counts h → (f : Fault) → or_else (position_fault h) (or_else (order_fault h) (chain_fault h)) ≡ some f → Named h f
  unfolding position_fault
  position_named c f e = go (first_bad (position_ok h) h.len 0) refl e
    where
      go : (x : Option ℕ) → first_bad (position_ok h) h.len 0 ≡ x → or_else (fault_by Position x) (or_else (order_fault h) (chain_fault h)) ≡ some f → Named h f
      go none q e = order_named c (placed h.len (λ i z l. none_all (position_ok h) h.len 0 q i z (omega arith))) f e
      go (some i) q e =
          let z : Position i ≡ f = cc in
          let a = some_first (position_ok h) h.len 0 i q in
          subst (Named h) z (c, placed i a.3, omega (arith, a.1), misplaced i a.2)

  -- THE FAULT THAT IS NAMED
  pub fault_named : (f : Fault) → fault_of h ≡ some f → Named h f
  unfolding fault_of
  fault_named f e = go (count_fault h) refl e
    where
      go : (x : Option Fault) → count_fault h ≡ x → or_else x (or_else (position_fault h) (or_else (order_fault h) (chain_fault h))) ≡ some f → Named h f
      go none q e = position_named (counts_right q) f e
      go (some y) q e = subst (Named h) (count_kind f (q ∙ e)) (counts_wrong q)
