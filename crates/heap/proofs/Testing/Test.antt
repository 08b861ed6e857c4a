-- The heap test says yes exactly of sound heaps.
-- Assumes nothing.
use mathlib.Core.Path.{◌≡◌, refl, sym, ap, subst, ◌∙◌}
use mathlib.Core.Bool.{Bool, true, false, cond, ◌&&◌, false≢true}
use mathlib.Core.Option.{Option, none, some}
use Prim.Native.Nat.{ℕ, ◌+◌, ◌-◌, ◌<◌, ◌≤◌}
use native.Mathlib.Omega.{arith}
use lib.Dec.{ltb}
use lib.ListN.{length}
use borrow.Author.Tests.{ltb-true, eqb-true, not-true}
use Rattle.theory.specs.Tests.{Ref, holds, fails}
use Rattle.theory.specs.Order.{parent}
use Rattle.theory.specs.Counting.{count}
use Rattle.theory.specs.Chain.{unless, chain_okb, clear}
use Rattle.theory.specs.First.{first_bad}
use Rattle.theory.specs.WrongStep.{wrong_step}
use Rattle.theory.proofs.Tests.{ref_by, ref_le, ref_eq, ref_and, ref_map, ref_true, true_false, none_some, and_left, and_right}
use Rattle.theory.proofs.First.{none_all, all_none}
use Rattle.theory.proofs.WrongStep.{wrong_none}
use Rattle.refusals.specs.declared.fault.Fault.{Fault}
use Rattle.refusals.specs.declared.fault.Fault.TheVariants.{Count, Position, Order, FreeChain}
use Rattle.refusals.specs.Faults.{or_else}
use Rattle.refusals.proofs.Faults.{clear_else, clear_by}
use Rattle.heap.specs.Capacity.{cap}
use Rattle.heap.specs.declared.SlotState.{SlotState}
use Rattle.heap.specs.declared.SlotState.TheVariants.{Full, Empty}
use Rattle.heap.specs.declared.Heap.{Heap}
use Rattle.heap.specs.Rules.{entry_at, state_at, slot_at, before}
use Rattle.heap.specs.Faults.{names, full_at, empty_at, next_at, count_ok, position_ok, order_ok, count_fault, position_fault, order_fault, chain_fault, fault_of, consistent_of}
use Rattle.heap.specs.Sound.{Sound, Counted}
use Rattle.heap.proofs.Soundness.SoundFacts.{empty_made}
use Rattle.heap.proofs.Testing.FaultLaws.{position_yes, order_not}

-- a scan finds none exactly where all pass
ref_all : (ok : ℕ → Bool) (n k : ℕ) → Ref ((i : ℕ) → k ≤ i → i < k + n → ok i ≡ true) (clear (first_bad ok n k))
ref_all ok n k = go (first_bad ok n k) refl
  where
    go : (o : Option ℕ) → first_bad ok n k ≡ o → Ref ((i : ℕ) → k ≤ i → i < k + n → ok i ≡ true) (clear o)
    go none e = holds (none_all ok n k e)
    go (some j) e = fails (λ a. none_some (all_none ok n k a) e)

-- a test tells that it is true
ref_self : (b : Bool) → Ref (b ≡ true) b
ref_self b = ref_by b (λ e. e) (λ e q. true_false q e)

-- a slot that names a position is full with it
names_full : (x : SlotState) (i : ℕ) → names x i ≡ true → x ≡ Full (record { 0 = i })
names_full (Full p) i e = ap (λ (n : ℕ). Full (record { 0 = n })) (eqb-true p.0 i e)
names_full (Empty n) i e = absurd (false≢true e)

module _ (h : Heap) where
  -- each kind of fault is absent exactly where what it tests holds
  pub ref_count : Ref ((h.len ≤ cap) × ((h.made ≤ cap) × (count (full_at h) h.made ≡ h.len))) (clear (count_fault h))
  unfolding count_fault count_ok
  ref_count = subst (Ref _) (go (count_ok h)) (ref_and (ref_le h.len cap) (ref_and (ref_le h.made cap) (ref_eq (count (full_at h) h.made) h.len)))
    where
      go : (b : Bool) → b ≡ clear (cond b none (some Count))
      go true = refl
      go false = refl

  -- what holds of the counts where they have no fault
  pub counts : {f : Option Fault} → f ≡ count_fault h → f ≡ none → (h.len ≤ cap) × Counted h
  counts e n =
      let t = ref_true ref_count (ap clear (sym e ∙ n)) in
      (t.0, record { made_in = t.1.0; counted = t.1.1 })

  ref_position : Ref ((i : ℕ) → 0 ≤ i → i < 0 + h.len → position_ok h i ≡ true) (clear (position_fault h))
  unfolding position_fault
  ref_position = rw (clear_by Position (first_bad (position_ok h) h.len 0)) (ref_all (position_ok h) h.len 0)

  ref_order : Ref ((i : ℕ) → 1 ≤ i → i < 1 + (h.len - 1) → order_ok h i ≡ true) (clear (order_fault h))
  unfolding order_fault
  ref_order = rw (clear_by Order (first_bad (order_ok h) (h.len - 1) 1)) (ref_all (order_ok h) (h.len - 1) 1)

  abbrev chain_test : Bool
  chain_test = chain_okb (empty_at h) (next_at h) h.made (unless h.made h.free.0)

  chain_no : clear (chain_fault h) ≡ chain_test
  unfolding chain_fault
  chain_no =
      clear_by FreeChain (wrong_step (empty_at h) (next_at h) h.made (unless h.made h.free.0))
      ∙ wrong_none (empty_at h) (next_at h) (unless h.made h.free.0) h.made (empty_made h)

  ref_chain : Ref (chain_test ≡ true) (clear (chain_fault h))
  ref_chain = rw chain_no (ref_self chain_test)

  -- the four together
  tested : clear (count_fault h) && (clear (position_fault h) && (clear (order_fault h) && clear (chain_fault h))) ≡ consistent_of h
  unfolding consistent_of fault_of
  tested =
      sym (clear_else (count_fault h) (or_else (position_fault h) (or_else (order_fault h) (chain_fault h)))
      ∙ ap (λ (b : Bool). clear (count_fault h) && b) (clear_else (position_fault h) (or_else (order_fault h) (chain_fault h))
      ∙ ap (λ (b : Bool). clear (position_fault h) && b) (clear_else (order_fault h) (chain_fault h))))

  -- an entry passes exactly where its slot was made and is full with the entry's position
  pub place_of : (i : ℕ) → position_ok h i ≡ true → (slot_at h i < h.made) × (state_at h (slot_at h i) ≡ Full (record { 0 = i }))
  unfolding position_ok
  place_of i e = (ltb-true _ _ (and_left _ _ e), names_full _ i (and_right (ltb (slot_at h i) h.made) _ e))

  pub order_of : (i : ℕ) → order_ok h i ≡ true → before (entry_at h i) (entry_at h (parent i)) ≡ false
  unfolding order_ok
  order_of i e = not-true _ e

  -- a heap of which the test says yes, however long its arrays are, has no more entries than the capacity
  pub tested_len : consistent_of h ≡ true → h.len ≤ cap
  tested_len e = (ref_true ref_count (and_left _ _ (tested ∙ e))).0

  -- and the slot of each entry was made, and is full with the entry's position
  pub tested_forth : consistent_of h ≡ true → (p : ℕ) → p < h.len → (slot_at h p < h.made) × (state_at h (slot_at h p) ≡ Full (record { 0 = p }))
  tested_forth e p l =
      place_of p (ref_true ref_position (and_left _ _ (and_right (clear (count_fault h)) _ (tested ∙ e))) p (omega arith) (omega arith))

  -- the heap test says yes exactly where the heap is sound; how long the arrays are the code's types say
  pub sound_test : length h.entries ≡ cap → length h.slots ≡ cap → Ref (Sound h) (consistent_of h)
  sound_test n m =
      subst (Ref (Sound h)) tested
      (ref_map (ref_and ref_count (ref_and ref_position (ref_and ref_order ref_chain)))
      (λ t. record {
        entries_long = n;
        slots_long = m;
        len_in = t.0.0;
        made_in = t.0.1.0;
        counted = t.0.1.1;
        forth = λ p l. place_of p (t.1.0 p (omega arith) (omega arith));
        ordered = λ i p l. order_of i (t.1.1.0 i (omega arith) (omega arith));
        chained = t.1.1.1;
      })
      (λ s. (
        (s.len_in, (s.made_in, s.counted)),
        (
          (λ i z l. position_yes h i (s.forth i (omega arith)).0 (s.forth i (omega arith)).1 refl),
          ((λ i z l. order_not h i (s.ordered i (omega arith) (omega arith))), s.chained),
        ),
      )))

  -- a heap of which the test says yes is sound
  pub consistent_sound : length h.entries ≡ cap → length h.slots ≡ cap → consistent_of h ≡ true → Sound h
  consistent_sound n m e = ref_true (sound_test n m) e
