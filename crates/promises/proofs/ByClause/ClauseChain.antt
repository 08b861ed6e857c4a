-- What the clause of the free chain tells: the numbers met from the free head on are the empty slots, each once, and then the number of
-- slots so far, exactly where the heap's own test of the chain says yes.
-- Assumes nothing.
use mathlib.Core.Path.{◌≡◌, refl, sym, ap, ap₂, subst, ◌∙◌}
use mathlib.Core.Logic.{⊎_elim}
use mathlib.Core.Bool.{true, not, ◌&&◌, false≢true}
use mathlib.Core.Option.{Option, none, some}
use mathlib.Core.List.{List, [], ◌∷◌, ◌++◌}
use Prim.Native.Nat.{ℕ, zero, suc, ◌≤◌, ◌<◌}
use native.Mathlib.Omega.{arith}
use lib.Dec.{ltb, eqb}
use lib.ListN.{length}
use borrow.Author.Tests.{eq-eqb, ne_eqb, ltb-true, lt-ltb}
use Rattle.theory.specs.Tests.{Ref}
use Rattle.theory.specs.Chain.{unless, nodes, Chain, chain_okb}
use Rattle.theory.proofs.Tests.{ref_eq, ref_and, ref_map, ref_true, by-ref, none_some, and_left, and_right, true_ref, ref_lt}
use Rattle.theory.proofs.Counting.{count_le}
use Rattle.theory.proofs.Pigeonhole.{lists_length}
use Rattle.theory.proofs.Chain.{chain_distinct, chain_ok}
use Rattle.theory.proofs.ChainTest.{ok_lists, lists_ok}
use Rattle.heap.specs.Capacity.{cap}
use Rattle.heap.specs.declared.SlotState.{SlotState}
use Rattle.heap.specs.declared.SlotState.TheVariants.{Full, Empty}
use Rattle.heap.specs.Rules.{state_at}
use Rattle.heap.specs.Faults.{is_full, empty_at, link_of, next_at}
use Rattle.heap.proofs.Soundness.SoundFacts.{empty_made}
use Rattle.state.specs.declared.Set.{Set}
use Rattle.state.proofs.PlaceTest.{ref_self}
use Rattle.promises.specs.Clauses.{there, times, ends_in, next_free, slot_in, met_free, chained}
use Rattle.promises.proofs.ByClause.ClauseLists.{ref_any, ref_mem, distinct_once, ends_tail, ends_last, mem_last, nodes_none}
use Rattle.promises.proofs.ByClause.ClauseHeap.{slot_in_range, slot_out, in_slot, ref_slab}

-- a link that is kept as a number: the end is none, and another number is itself
unless_end : (m f : ℕ) → f ≡ m → unless m f ≡ none
unless_end m f e = rw (eq-eqb f m e) refl

unless_other : (m f : ℕ) → (f ≡ m → ⊥) → unless m f ≡ some f
unless_other m f n = rw (ne_eqb f m n) refl

end_unless : (m f : ℕ) → unless m f ≡ none → f ≡ m
end_unless m f e = by-ref (ref_eq f m) (λ q. q) (λ n. absurd (none_some e (unless_other m f n)))

other_unless : (m f x : ℕ) → unless m f ≡ some x → f ≡ x
other_unless m f x e =
    by-ref (ref_eq f m) (λ q. absurd (none_some (unless_end m f q) e)) (λ n. let z = sym (unless_other m f n) ∙ e in cc)

-- a slot that names a next one is empty, and the other way round
free_next : (x : SlotState) (n : ℕ) → next_free x ≡ some n → x ≡ Empty (record { 0 = n })
free_next (Full p) n e = absurd (none_some refl e)
free_next (Empty q) n e = let z : q.0 ≡ n = cc in ap (λ (k : ℕ). Empty (record { 0 = k })) z

not_full : (x : SlotState) → not (is_full x) ≡ true → (n : ℕ) × (next_free x ≡ some n)
not_full (Full p) e = absurd (false≢true e)
not_full (Empty q) e = (q.0, refl)

module _ (s : Set) (m : length s.heap.entries ≡ cap) (k : length s.heap.slots ≡ cap) (a : s.heap.len ≤ cap) (b : s.heap.made ≤ cap) where
  -- the number that a slot names, if it was made and is empty
  abbrev link : ℕ → Option ℕ
  link q = there none next_free (slot_in s.heap q)

  -- a slot with a link was made and is empty, and names it for the heap's own test too
  link_some : (q n : ℕ) → link q ≡ some n → (empty_at s.heap q ≡ true) × (next_at s.heap q ≡ unless s.heap.made n)
  unfolding empty_at next_at
  link_some q n e = go (slot_in s.heap q) refl e
    where
      go : (o : Option SlotState) → slot_in s.heap q ≡ o → there none next_free o ≡ some n
          → (ltb q s.heap.made && not (is_full (state_at s.heap q)) ≡ true) × (link_of s.heap.made (state_at s.heap q) ≡ unless s.heap.made n)
      go none h e = absurd (none_some refl e)
      go (some x) h e =
          let r = in_slot s m k a b q x h in
          let z : state_at s.heap q ≡ Empty (record { 0 = n }) = r.1 ∙ free_next x n e in
          (rw (lt-ltb q s.heap.made r.0, z) refl, ap (link_of s.heap.made) z)

  -- an empty slot has a link
  empty_link : (q : ℕ) → empty_at s.heap q ≡ true → (n : ℕ) × (link q ≡ some n)
  unfolding empty_at
  empty_link q e =
      let r = not_full (state_at s.heap q) (and_right (ltb q s.heap.made) _ e) in
      (r.0, ap (there none next_free) (slot_in_range s m k a b q (ltb-true q s.heap.made (and_left _ _ e))) ∙ r.1)

  -- along a chain of empty slots its nodes are met, and last the number of slots so far
  chain_met : (l : List ℕ) (n f : ℕ) → Chain (empty_at s.heap) (next_at s.heap) (unless s.heap.made f) l → length l < n
      → nodes link n (some f) ≡ l ++ (s.heap.made ∷ [])
  unfolding nodes
  chain_met l zero f c h = absurd (omega arith)
  chain_met [] (suc n) f c h =
      let e = end_unless s.heap.made f c in
      let z : link f ≡ none = ap (there none next_free) (slot_out s m k a b f (omega arith)) in
      rw (z, e) (ap (◌∷◌ s.heap.made) (nodes_none link n))
  chain_met (x ∷ l) (suc n) f c h =
      let e = other_unless s.heap.made f x c.0 in
      let r = empty_link x c.1 in
      let d = subst (λ (o : Option ℕ). Chain (empty_at s.heap) (next_at s.heap) o l) (link_some x r.0 r.1).1 c.2 in
      let z : link f ≡ some r.0 = ap link e ∙ r.1 in
      rw (z, e) (ap (◌∷◌ x) (chain_met l n r.0 d (omega arith)))

  -- where the numbers met end in the number of slots so far, those before it are a chain of empty slots
  met_chain : (n f : ℕ) → ends_in s.heap.made (nodes link n (some f)) ≡ true
      → (l : List ℕ) × Chain (empty_at s.heap) (next_at s.heap) (unless s.heap.made f) l
      × (nodes link n (some f) ≡ l ++ (s.heap.made ∷ []))
  unfolding nodes
  met_chain zero f e = absurd (false≢true e)
  met_chain (suc n) f e = go (link f) refl e (met_chain n)
    where
      go : (o : Option ℕ) → link f ≡ o → ends_in s.heap.made (f ∷ nodes link n o) ≡ true
          → ((g : ℕ) → ends_in s.heap.made (nodes link n (some g)) ≡ true
          → (l : List ℕ) × Chain (empty_at s.heap) (next_at s.heap) (unless s.heap.made g) l
          × (nodes link n (some g) ≡ l ++ (s.heap.made ∷ [])))
          → (l : List ℕ) × Chain (empty_at s.heap) (next_at s.heap) (unless s.heap.made f) l
          × (f ∷ nodes link n o ≡ l ++ (s.heap.made ∷ []))
      go none h e r =
          ⊎_elim
          (λ q. ([], unless_end s.heap.made f (sym q), ap₂ ◌∷◌ (sym q) (nodes_none link n)))
          (λ q. absurd (false≢true (sym (ap (ends_in s.heap.made) (nodes_none link n)) ∙ q)))
          (ends_tail s.heap.made f (nodes link n none) e)
      go (some g) h e r =
          let t = link_some f g h in
          let l = empty_made s.heap f t.0 in
          ⊎_elim
          (λ q. absurd (omega arith))
          (λ q.
          let w = r g q in (
            f ∷ w.0,
            (
              unless_other s.heap.made f (λ e. omega arith),
              t.0,
              subst (λ (o : Option ℕ). Chain (empty_at s.heap) (next_at s.heap) o w.0) (sym t.1) w.1,
            ),
            ap (◌∷◌ f) w.2,
          ))
          (ends_tail s.heap.made f (nodes link n (some g)) e)

  -- the numbers that are met
  abbrev met : List ℕ
  met = met_free s.heap

  -- an empty slot is met once: what is tested of each slot
  ref_once : (q : ℕ) → q < s.heap.made
      → Ref (empty_at s.heap q ≡ true → times q met ≡ 1) (there true (λ n. eqb (times q met) 1) (next_free (state_at s.heap q)))
  ref_once q l =
      ref_map (ref_any (λ n. times q met ≡ 1) (λ n. eqb (times q met) 1) (next_free (state_at s.heap q)) (λ n. ref_eq (times q met) 1))
      (λ t e. let r = empty_link q e in t r.0 (sym (ap (there none next_free) (slot_in_range s m k a b q l)) ∙ r.1))
      (λ t n e. t (link_some q n (ap (there none next_free) (slot_in_range s m k a b q l) ∙ e)).0)

  -- 16: the free chain meets each empty slot once and ends at the number of slots
  pub ref_chained : Ref (chain_okb (empty_at s.heap) (next_at s.heap) s.heap.made (unless s.heap.made s.heap.free.0) ≡ true) (chained s)
  ref_chained =
      ref_map (ref_and (ref_slab s m k a b _ _ ref_once) (ref_self (ends_in s.heap.made met)))
      (λ t.
      let r = met_chain (suc (suc cap)) s.heap.free.0 t.1 in
      lists_ok (empty_at s.heap) (next_at s.heap) s.heap.made (unless s.heap.made s.heap.free.0) r.0 r.1
      (record {
        once = chain_distinct (empty_at s.heap) (next_at s.heap) r.0 _ r.1;
        sound = λ x i. let e = chain_ok (empty_at s.heap) (next_at s.heap) r.0 _ r.1 x i in (empty_made s.heap x e, e);
        whole = λ x l e.
            let z = sym (mem_last s.heap.made x r.0 (λ q. omega arith)) ∙ sym (ap (times x) r.2) ∙ t.0 x l e in
            ref_true (ref_mem x r.0) (true_ref (ref_lt 0 (times x r.0)) (omega arith));
      }))
      (λ t.
      let r = ok_lists (empty_at s.heap) (next_at s.heap) s.heap.made (empty_made s.heap) (unless s.heap.made s.heap.free.0) t in
      let n = lists_length r.0 (empty_at s.heap) s.heap.made r.2 in
      let c = count_le (empty_at s.heap) s.heap.made in
      let e = chain_met r.0 (suc (suc cap)) s.heap.free.0 r.1 (omega arith) in (
        (λ q l f.
            ap (times q) e ∙ mem_last s.heap.made q r.0 (λ z. omega arith)
            ∙ distinct_once r.0 r.2.once q (r.2.whole q l f)),
        ap (ends_in s.heap.made) e ∙ ends_last s.heap.made r.0,
      ))
