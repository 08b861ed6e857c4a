-- What the heap's clauses in specs/Clauses.antt tell, of a heap whose counts are within the capacity: exactly what `Sound` of a heap says.
-- Assumes nothing.
use mathlib.Core.Path.{◌≡◌, refl, sym, ap, subst, ◌∙◌}
use mathlib.Core.Bool.{Bool, false, ◌||◌}
use mathlib.Core.Option.{none, some}
use mathlib.Core.List.{List, [], ◌∷◌}
use Prim.Native.Nat.{ℕ, zero, suc, ◌+◌, ◌≤◌, ◌<◌}
use native.Mathlib.Omega.{arith}
use lib.Dec.{leb, eqb}
use lib.ListN.{length, get_or, take}
use lib.Seq.{get_or-take, length-take-le}
use borrow.Author.Tests.{ltb-false}
use Rattle.theory.specs.Tests.{Ref, holds, fails, bit}
use Rattle.theory.specs.Order.{parent}
use Rattle.theory.specs.Counting.{count}
use Rattle.theory.proofs.Tests.{ref_lt, ref_le, ref_eq, ref_map, false_ref, by-ref, none_some}
use Rattle.heap.specs.Capacity.{cap}
use Rattle.heap.specs.declared.Pos.{Pos}
use Rattle.heap.specs.declared.Entry.{Entry}
use Rattle.heap.specs.declared.SlotState.{SlotState}
use Rattle.heap.specs.declared.SlotState.TheVariants.{Full, Empty}
use Rattle.heap.specs.declared.SlabSlot.{SlabSlot}
use Rattle.heap.specs.Rules.{no_entry, no_slot, entry_at, state_at, slot_at, items, before}
use Rattle.heap.specs.Faults.{is_full, full_at}
use Rattle.state.specs.declared.Set.{Set}
use Rattle.promises.specs.Clauses.{each, element, there, slab, position_in, fulls, counted, slot_in, positioned, ordered}
use Rattle.promises.proofs.ByClause.ClauseLists.{ref_all, some_same, element_in, element_out, in_element, ref_some, ref_any, count_front}

-- a slot is full with this position
ref_names : (x : SlotState) (i : ℕ) → Ref (x ≡ Full (record { 0 = i })) (there false (λ j. eqb j i) (position_in x))
ref_names (Full p) i =
    ref_map (ref_eq p.0 i) (λ e. ap (λ (n : ℕ). Full (record { 0 = n })) e)
    (λ e. let z : p ≡ record { 0 = i } = cc in ap (λ (x : Pos). x.0) z)
ref_names (Empty n) i = fails (λ e. let z : ◌≡◌ {A = ℕ} 0 1 = cc in omega arith)

-- as many are full among the first slots as the count says
fulls_count : (xs : List SlabSlot) (n : ℕ) → n ≤ length xs → fulls (take n xs) ≡ count (λ q. is_full (get_or xs q no_slot).state) n
unfolding count
fulls_count xs zero l = refl
fulls_count [] (suc n) l = absurd (omega arith)
fulls_count (x ∷ xs) (suc n) l =
    sym
    (count_front (λ q. is_full (get_or (x ∷ xs) q no_slot).state) n
    ∙ ap (λ (k : ℕ). bit (is_full x.state) + k) (sym (fulls_count xs n (omega arith)))
    ∙ ap (λ (k : ℕ). k + fulls (take n xs)) (go x.state))
  where
    go : (y : SlotState) → bit (is_full y) ≡ there 0 (λ i. 1) (position_in y)
    go (Full p) = refl
    go (Empty n) = refl

module _ (s : Set) (m : length s.heap.entries ≡ cap) (k : length s.heap.slots ≡ cap) (a : s.heap.len ≤ cap) (b : s.heap.made ≤ cap) where
  -- as many entries and slots are read as are counted
  pub items_long : length (items s.heap) ≡ s.heap.len
  items_long = length-take-le s.heap.len s.heap.entries (omega arith)

  slab_long : length (slab s.heap) ≡ s.heap.made
  slab_long = length-take-le s.heap.made s.heap.slots (omega arith)

  -- an entry is there exactly at a position below the count
  pub item_in : (i : ℕ) → i < s.heap.len → element (items s.heap) i ≡ some (entry_at s.heap i)
  item_in i l =
      element_in no_entry (items s.heap) i (omega (arith, items_long)) ∙ ap some (get_or-take s.heap.len s.heap.entries i no_entry l)

  pub in_item : (i : ℕ) (e : Entry) → element (items s.heap) i ≡ some e → (i < s.heap.len) × (entry_at s.heap i ≡ e)
  in_item i e q =
      let r = in_element no_entry (items s.heap) i e q in
      let l : i < s.heap.len = omega (arith, r.0, items_long) in
      (l, sym (get_or-take s.heap.len s.heap.entries i no_entry l) ∙ r.1)

  -- a slot is there exactly where it was made
  pub slot_in_range : (q : ℕ) → q < s.heap.made → slot_in s.heap q ≡ some (state_at s.heap q)
  slot_in_range q l =
      ap (there none (λ x. some x.state))
      (element_in no_slot (slab s.heap) q (omega (arith, slab_long)) ∙ ap some (get_or-take s.heap.made s.heap.slots q no_slot l))

  pub slot_out : (q : ℕ) → s.heap.made ≤ q → slot_in s.heap q ≡ none
  slot_out q l = ap (there none (λ x. some x.state)) (element_out (slab s.heap) q (omega (arith, slab_long)))

  pub in_slot : (q : ℕ) (x : SlotState) → slot_in s.heap q ≡ some x → (q < s.heap.made) × (state_at s.heap q ≡ x)
  in_slot q x e =
      by-ref (ref_lt q s.heap.made) (λ l. (l, some_same (sym (slot_in_range q l) ∙ e))) (λ n. absurd (none_some (slot_out q (omega arith)) e))

  -- every entry passes, and every slot that was made
  pub ref_items : (P : ℕ → Type 0) (f : ℕ → Entry → Bool) → ((i : ℕ) → i < s.heap.len → Ref (P i) (f i (entry_at s.heap i)))
      → Ref ((i : ℕ) → i < s.heap.len → P i) (each 0 f (items s.heap))
  ref_items P f r =
      ref_all no_entry P f (items s.heap) s.heap.len items_long
      (λ i l. subst (λ (e : Entry). Ref (P i) (f i e)) (sym (get_or-take s.heap.len s.heap.entries i no_entry l)) (r i l))

  pub ref_slab : (P : ℕ → Type 0) (f : ℕ → SlabSlot → Bool)
      → ((q : ℕ) → q < s.heap.made → Ref (P q) (f q (get_or s.heap.slots q no_slot)))
      → Ref ((q : ℕ) → q < s.heap.made → P q) (each 0 f (slab s.heap))
  ref_slab P f r =
      ref_all no_slot P f (slab s.heap) s.heap.made slab_long
      (λ q l. subst (λ (x : SlabSlot). Ref (P q) (f q x)) (sym (get_or-take s.heap.made s.heap.slots q no_slot l)) (r q l))

  -- 13: there are as many entries as full slots
  pub ref_counted : Ref (count (full_at s.heap) s.heap.made ≡ s.heap.len) (counted s)
  unfolding full_at
  ref_counted =
      let e = fulls_count s.heap.slots s.heap.made (omega arith) in
      ref_map (ref_eq s.heap.len (fulls (slab s.heap))) (λ q. sym (q ∙ e)) (λ q. sym (e ∙ q))

  -- 14: each entry's slot was made and is full with the entry's position
  pub ref_positioned : Ref
      ((i : ℕ) → i < s.heap.len
      → (slot_at s.heap i < s.heap.made) × (state_at s.heap (slot_at s.heap i) ≡ Full (record { 0 = i })))
      (positioned s)
  ref_positioned =
      ref_items _ _
      (λ i l.
      ref_map
      (ref_some (λ x. x ≡ Full (record { 0 = i })) (λ x. there false (λ j. eqb j i) (position_in x)) (slot_in s.heap (slot_at s.heap i))
      (λ x. ref_names x i))
      (λ t. let r = in_slot (slot_at s.heap i) t.0 t.1 in (r.0, r.1 ∙ t.2))
      (λ t. (state_at s.heap (slot_at s.heap i), slot_in_range (slot_at s.heap i) t.0, t.1)))

  -- 15: no entry but the head, which has no parent, is smaller than its parent
  pub ref_ordered : Ref
      ((i : ℕ) → i < s.heap.len → 0 < i → before (entry_at s.heap i) (entry_at s.heap (parent i)) ≡ false) (ordered s)
  ref_ordered =
      ref_items _ _
      (λ i l.
      let e = entry_at s.heap i in
      ref_map
      (ref_else (ref_eq i 0)
      (ref_any (λ f. f.at ≤ e.at) (λ f. leb f.at e.at) (element (items s.heap) (parent i)) (λ f. ref_le f.at e.at)))
      (λ t z.
      let g : (entry_at s.heap (parent i)).at ≤ e.at = t (λ q. omega arith) (entry_at s.heap (parent i)) (item_in (parent i) (omega arith)) in
      false_ref (ref_lt e.at (entry_at s.heap (parent i)).at) (λ r. omega arith))
      (λ t n f q.
      let r = in_item (parent i) f q in
      subst (λ (f : Entry). f.at ≤ e.at) r.1 (ltb-false _ _ (t (omega arith)))))
    where
      ref_else : {P Q : Type 0} {s t : Bool} → Ref P s → Ref Q t → Ref ((P → ⊥) → Q) (s || t)
      ref_else (holds p) r = holds (λ n. absurd (n p))
      ref_else (fails n) r = ref_map r (λ q m. q) (λ f. f n)
