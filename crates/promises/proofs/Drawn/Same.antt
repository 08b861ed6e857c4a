-- A set that is drawn breaks a clause exactly where it does by what is drawn.
-- Assumes nothing.
use mathlib.Core.Path.{◌≡◌, refl, sym, ap, subst, ◌∙◌}
use mathlib.Core.Bool.{Bool, true, false, not, ◌&&◌, ◌||◌}
use mathlib.Core.Option.{none, some}
use mathlib.Core.List.{List}
use Prim.Native.Nat.{ℕ, suc, ◌+◌, ◌≤◌}
use native.Mathlib.Omega.{arith}
use lib.Dec.{ltb, leb, eqb}
use lib.ListN.{length}
use Rattle.theory.specs.Counting.{Mem}
use Rattle.theory.specs.Chain.{nodes}
use Rattle.theory.proofs.Tests.{ref_lt, ref_le, ref_true, true_ref, true_false, is_false, and_left, and_right}
use Rattle.heap.specs.Capacity.{cap}
use Rattle.heap.specs.Rules.{items}
use Rattle.state.specs.declared.Life.{Life}
use Rattle.state.specs.State.{no_timer, is_waiting, head_of}
use Rattle.promises.specs.Clauses.{each, element, there, times, ends_in, is_empty, slab, next_free, slot_of, entry_in, listed, cancelled_word, is_free, is_retired, chained, own_slots, own_entries, waiters_listed, only_waiters, listed_once, live_unmarked, cancelled_unmarked, closed_list, none_held, none_listed, cancelled_listed, places_fit, clauses, broken_of, broken}
use Rattle.promises.specs.States.{Drawn, heap_of, set_of}
use Rattle.promises.proofs.ByClause.ClauseLists.{nodes_same, ref_mem}
use Rattle.promises.proofs.Drawn.Room.{room_element, room_each}
use Rattle.promises.proofs.Drawn.Each.{each_same, there_same}
use Rattle.promises.proofs.Drawn.Verdicts.{alike_broken, also}
use Rattle.promises.proofs.Drawn.Links.{once, closed, Alike, alike_has, alike_each, alike_once, alike_empty, met_ended, met_within, settled, settled_alike, ends_mem}
use Rattle.promises.proofs.Drawn.Few.{steps, store, at, after, listed_few, follows, met_few, chained_few, own_slots_few, own_entries_few, waiters_few, only_few, live_few, cancelled_few, none_held_few, none_listed_few, cancelled_listed_few, places_few, clauses_few, fits}

module _ (d : Drawn) (room : d.start + length d.timers ≤ cap) (s : settled (after d) steps (head_of d.first) ≡ true) where
  -- the timer at a place is the one that is drawn
  at_same : (p : ℕ) → element (set_of d).timers p ≡ at d p
  unfolding set_of
  at_same p = room_element no_timer d.start d.timers room p

  -- the list is like its first steps
  listed_alike : Alike (listed (set_of d)) (listed_few d)
  unfolding set_of
  listed_alike =
      subst (λ (l : List ℕ). Alike l (listed_few d)) (sym (nodes_same _ (after d) (λ p. ap (there none _) (at_same p)) (suc cap) (head_of d.first)))
      (settled_alike (after d) steps (suc cap) (omega arith) (omega arith) (head_of d.first) s)

  -- the clauses of the timers and of the list, by their numbers
  same21 : own_slots (set_of d) ≡ own_slots_few d
  unfolding set_of
  same21 = room_each no_timer _ (λ i. refl) d.start d.timers

  same22 : own_entries (set_of d) ≡ own_entries_few d
  unfolding set_of
  same22 =
      each_same _ _ (λ q x. there_same true _ _ (λ e. ap (there true (λ t. there false (eqb q) (slot_of t.held))) (at_same e.place.0)) (entry_in (store d) q)) 0
      (slab (store d))

  same31 : waiters_listed (set_of d) ≡ waiters_few d
  unfolding set_of
  same31 =
      room_each no_timer _ (λ i. refl) d.start d.timers
      ∙ each_same _ _ (λ p t. ap (λ (b : Bool). not (is_waiting t.waiting) || b) (alike_has _ _ listed_alike p)) d.start d.timers

  same32 : only_waiters (set_of d) ≡ only_few d
  same32 =
      each_same _ _ (λ k p. ap (there false (λ t. is_waiting t.waiting)) (at_same p)) 0 (listed (set_of d))
      ∙ alike_each _ _ listed_alike (λ p. there false (λ t. is_waiting t.waiting) (at d p))

  same33 : listed_once (set_of d) ≡ once (listed_few d)
  same33 = alike_once _ _ listed_alike

  same41 : live_unmarked (set_of d) ≡ live_few d
  unfolding set_of
  same41 = ap (λ (b : Bool). d.closed || b) (room_each no_timer _ (λ i. refl) d.start d.timers)

  same42 : cancelled_unmarked (set_of d) ≡ cancelled_few d
  unfolding set_of
  same42 = ap (λ (b : Bool). d.closed || b) (room_each no_timer _ (λ i. refl) d.start d.timers)

  same43 : closed_list (set_of d) ≡ (not d.closed || is_empty (listed_few d))
  unfolding set_of
  same43 = ap (λ (b : Bool). not d.closed || b) (alike_empty _ _ listed_alike)

  -- 51 and 52, 53 and 54
  same_held : (kind : Life → Bool) → none_held kind (set_of d) ≡ none_held_few d kind
  unfolding set_of
  same_held kind = each_same _ _ (λ i e. ap (there true (λ t. not (kind t.life))) (at_same e.place.0)) 0 (items (store d))

  same_listed : (kind : Life → Bool) → none_listed kind (set_of d) ≡ none_listed_few d kind
  same_listed kind =
      each_same _ _ (λ k p. ap (there true (λ t. not (kind t.life))) (at_same p)) 0 (listed (set_of d))
      ∙ alike_each _ _ listed_alike (λ p. there true (λ t. not (kind t.life)) (at d p))

  same61 : cancelled_listed (set_of d) ≡ cancelled_listed_few d
  unfolding set_of
  same61 =
      ap (λ (b : Bool). d.closed || b)
      (room_each no_timer _ (λ i. refl) d.start d.timers
      ∙ each_same _ _ (λ p t. there_same true _ _ (λ w. alike_has _ _ listed_alike p) (cancelled_word t.life)) d.start d.timers)

  same82 : places_fit (set_of d) ≡ places_few d
  unfolding set_of
  same82 = ap (λ (b : Bool). each 0 (λ i e. ltb e.place.0 cap) (items (store d)) && b) (alike_each _ _ listed_alike (λ p. ltb p cap))

-- the free chain, where it has ended within the steps that are followed, or loops and does not meet the number of slots
module _ (d : Drawn) where
  same16 : (ltb (length (met_few d)) steps || (closed (follows d) (met_few d) && not (ltb 0 (times d.heap.made (met_few d))))) ≡ true
      → chained (set_of d) ≡ chained_few d
  unfolding set_of heap_of
  same16 = go (ltb (length few) steps) refl
    where
      n : ℕ
      n = d.heap.made

      few : List ℕ
      few = met_few d

      many : List ℕ
      many = nodes (follows d) (suc (suc cap)) (some d.heap.free)

      once_met : List ℕ → Bool
      once_met met = each 0 (λ q x. there true (λ n. eqb (times q met) 1) (next_free x.state)) (slab (store d))

      says : List ℕ → Bool
      says met = once_met met && ends_in n met

      no_end : (a b : Bool) → b ≡ false → (a && b) ≡ false
      no_end true b e = e
      no_end false b e = refl

      go : (b : Bool) → ltb (length few) steps ≡ b → (b || (closed (follows d) few && not (ltb 0 (times n few)))) ≡ true → says many ≡ says few
      go true e t =
          ap says (met_ended (follows d) steps (suc (suc cap)) (omega arith) (some d.heap.free) (ref_true (ref_lt (length few) steps) e))
      go false e t =
          let c = and_left (closed (follows d) few) _ t in
          let out : Mem n few → ⊥ = λ m. true_false (and_right (closed (follows d) few) _ t) (ap not (true_ref (ref_mem n few) m)) in
          let a = is_false (ends_in n many)
          (λ e. out (met_within (follows d) steps (suc (suc cap)) (omega arith) (omega arith) (some d.heap.free) c n (ends_mem n many e))) in
          let b = is_false (ends_in n few) (λ e. out (ends_mem n few e)) in
          no_end (once_met many) (ends_in n many) a ∙ sym (no_end (once_met few) (ends_in n few) b)

-- a set that is drawn breaks just the clauses that it breaks by what is drawn
pub few_broken : (d : Drawn) → fits d ≡ true → broken (set_of d) ≡ broken_of (set_of d) (clauses_few d)
few_broken d f =
    let f1 = and_right (leb (d.start + length d.timers) cap) _ f in
    let f2 = and_right (leb (length d.heap.entries) cap) _ f1 in
    let f3 = and_right (leb (length d.heap.slots) cap) _ f2 in
    let r = ref_true (ref_le (d.start + length d.timers) cap) (and_left (leb (d.start + length d.timers) cap) _ f) in
    let s = and_left (settled (after d) steps (head_of d.first)) _ f3 in
    let c = and_right (settled (after d) steps (head_of d.first)) _ f3 in
    let held = also (same_held d r s is_free) (also (same_held d r s is_retired) (also (same_listed d r s is_free) (also (same_listed d r s is_retired)
    (also (same61 d r s) (also refl (also (same82 d r s) tt)))))) in
    let shut = also (same41 d r s) (also (same42 d r s) (also (same43 d r s) (also refl held))) in
    let list = also (same21 d r s) (also (same22 d r s) (also (same31 d r s) (also (same32 d r s) (also (same33 d r s) shut)))) in
    alike_broken (set_of d) clauses (clauses_few d) (also refl (also refl (also refl (also refl (also refl (also (same16 d c) list))))))
