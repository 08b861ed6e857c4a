-- The heap test reads only what is in use, so it says the same of two heaps that are the same there: the scans end at the counts, a
-- slot is read only once it is below `made`, and a link only from a slot that was made and is empty.
-- Assumes nothing.
use mathlib.Core.Path.{◌≡◌, sym, ◌∙◌, ap, ap₂}
use mathlib.Core.Bool.{true, not, cond, ◌&&◌}
use mathlib.Core.Option.{none, some}
use Prim.Native.Nat.{ℕ, ◌-◌, ◌<◌}
use native.Mathlib.Omega.{arith}
use lib.Dec.{ltb, leb, eqb}
use Rattle.theory.specs.Order.{parent}
use Rattle.theory.specs.Counting.{count}
use Rattle.theory.specs.Chain.{unless, clear}
use Rattle.theory.specs.First.{first_bad}
use Rattle.theory.specs.WrongStep.{wrong_step}
use Rattle.theory.proofs.Tests.{ref_lt}
use Rattle.theory.proofs.First.{first_same}
use Rattle.theory.proofs.Counting.{count_same}
use Rattle.theory.proofs.WrongStep.{wrong_same}
use Rattle.refusals.specs.declared.fault.Fault.TheVariants.{Count, Position, Order, FreeChain}
use Rattle.refusals.specs.Faults.{or_else, fault_by}
use Rattle.heap.specs.Capacity.{cap}
use Rattle.heap.specs.declared.SlotState.{SlotState}
use Rattle.heap.specs.declared.Heap.{Heap}
use Rattle.heap.specs.Rules.{state_at, slot_at, before}
use Rattle.heap.specs.Faults.{is_full, names, link_of, full_at, empty_at, next_at, count_ok, position_ok, order_ok, count_fault, position_fault, order_fault, chain_fault, fault_of, consistent_of}
use Rattle.heap.specs.InUse.{SameInUse}
use Rattle.heap.proofs.AsList.Items.{and_same}
use Rattle.heap.proofs.Soundness.SoundFacts.{empty_made}

module _ (g h : Heap) (r : SameInUse g h) where
  full_count : count (full_at g) g.made ≡ count (full_at h) h.made
  unfolding full_at
  full_count = ap (count (full_at g)) r.same_made ∙ count_same (full_at g) (full_at h) h.made (λ i b. ap is_full (r.slots i b))

  count_ok_lem : count_ok g ≡ count_ok h
  unfolding count_ok
  count_ok_lem = λ t. leb (r.same_len t) cap && (leb (r.same_made t) cap && eqb (full_count t) (r.same_len t))

  position_ok_lem : (i : ℕ) → i < h.len → position_ok g i ≡ position_ok h i
  unfolding position_ok
  position_ok_lem i b =
      (λ t. ltb (r.entries i b t).slot.0 (r.same_made t) && names (state_at g (r.entries i b t).slot.0) i)
      ∙ and_same (ref_lt (slot_at h i) h.made) (λ m. ap (λ (x : SlotState). names x i) (r.slots (slot_at h i) m))

  order_ok_lem : (i : ℕ) → i < h.len → order_ok g i ≡ order_ok h i
  unfolding order_ok
  order_ok_lem i b = let c : parent i < h.len = omega arith in λ t. not (before (r.entries i b t) (r.entries (parent i) c t))

  empty_ok : (s : ℕ) → empty_at g s ≡ empty_at h s
  unfolding empty_at
  empty_ok s =
      ap (λ (m : ℕ). ltb s m && not (is_full (state_at g s))) r.same_made
      ∙ and_same (ref_lt s h.made) (λ b. ap (λ (x : SlotState). not (is_full x)) (r.slots s b))

  next_ok : (s : ℕ) → empty_at g s ≡ true → next_at g s ≡ next_at h s
  unfolding next_at
  next_ok s e = ap₂ link_of r.same_made (r.slots s (empty_made h s (sym (empty_ok s) ∙ e)))

  position_fault_lem : position_fault g ≡ position_fault h
  unfolding position_fault
  position_fault_lem =
      ap (fault_by Position)
      (ap (λ (n : ℕ). first_bad (position_ok g) n 0) r.same_len
      ∙ first_same (position_ok g) (position_ok h) h.len 0 (λ i l b. position_ok_lem i (omega arith)))

  order_fault_lem : order_fault g ≡ order_fault h
  unfolding order_fault
  order_fault_lem =
      ap (fault_by Order)
      (ap (λ (n : ℕ). first_bad (order_ok g) (n - 1) 1) r.same_len
      ∙ first_same (order_ok g) (order_ok h) (h.len - 1) 1 (λ i l b. order_ok_lem i (omega arith)))

  chain_fault_lem : chain_fault g ≡ chain_fault h
  unfolding chain_fault
  chain_fault_lem =
      ap (fault_by FreeChain)
      ((λ t. wrong_step (empty_at g) (next_at g) (r.same_made t) (unless (r.same_made t) (r.same_free t).0))
      ∙ wrong_same (empty_at g) (empty_at h) (next_at g) (next_at h) empty_ok next_ok h.made (λ s e. empty_made h s (sym (empty_ok s) ∙ e))
      (unless h.made h.free.0))

  -- the scans find the same fault
  pub fault_in_use : fault_of g ≡ fault_of h
  unfolding fault_of count_fault
  fault_in_use = λ t. or_else (cond (count_ok_lem t) none (some Count)) (or_else (position_fault_lem t) (or_else (order_fault_lem t) (chain_fault_lem t)))

  -- the test says the same
  pub consistent_in_use : consistent_of g ≡ consistent_of h
  unfolding consistent_of
  consistent_in_use = ap clear fault_in_use
