-- The clauses of the first row of the worked sets: a full heap breaks none, and where its count of entries is one more, the two that
-- count the entries.
-- Assumes nothing.
use mathlib.Core.Path.{◌≡◌, refl, ap, ap₂, ◌∙◌}
use mathlib.Core.Bool.{Bool, true, false, not, ◌&&◌, ◌||◌}
use mathlib.Core.Option.{Option, none, some}
use mathlib.Core.List.{List, [], ◌∷◌}
use Prim.Native.Nat.{ℕ, zero, suc, ◌+◌, ◌≤◌}
use native.Mathlib.Omega.{arith}
use lib.Dec.{leb, eqb}
use lib.ListN.{length, drop}
use borrow.Author.Tests.{eq-eqb}
use Rattle.theory.specs.Order.{parent}
use Rattle.theory.specs.Chain.{nodes}
use Rattle.theory.proofs.Tests.{ref_lt, true_ref}
use Rattle.heap.specs.Capacity.{cap}
use Rattle.heap.specs.declared.Entry.{Entry}
use Rattle.heap.specs.declared.SlabSlot.{SlabSlot}
use Rattle.state.specs.declared.Life.{Life}
use Rattle.state.specs.declared.Life.TheVariants.{Live}
use Rattle.promises.specs.Clauses.{each, element, there, ends_in, position_in, next_free, slot_in, slot_of, fulls, met_free, is_free, is_retired, counted, positioned, ordered, chained, slots_fit, own_slots, own_entries, waiters_listed, live_unmarked, cancelled_unmarked, none_held, cancelled_listed, generations_fit, places_fit, clauses, broken}
use Rattle.promises.specs.States.{heap_of, set_of, full, entry, numbered, entries_from, full_from}
use Rattle.promises.proofs.Drawn.Verdicts.{Alike_clauses, alike_broken, also, verdicts}
use Rattle.promises.proofs.Drawn.Numbered.{numbered_length, numbered_first, numbered_past, numbered_all}
use Rattle.promises.proofs.Drawn.Full.{full_of, items_all, slab_all, timers_all, slot_at, entry_at, timer_at_lem}

-- as many of these slots are full as there are
fulls_all : (n k : ℕ) → fulls (full_from n k) ≡ n
unfolding numbered
fulls_all zero k = refl
fulls_all (suc n) k = let e = fulls_all n (suc k) in omega (arith, e)

-- one of two tests is enough
or_true : (a : Bool) {b : Bool} → b ≡ true → (a || b) ≡ true
or_true true e = refl
or_true false e = e

module _ (n : ℕ) (l : cap ≤ n) where
  -- the clauses that are not plain, by their numbers
  c12 : slots_fit (set_of (full_of n)) ≡ true
  unfolding set_of heap_of
  c12 = ap (λ (m : ℕ). leb m cap) (numbered_length full cap 0)

  pub c13 : counted (set_of (full_of n)) ≡ eqb n cap
  unfolding set_of heap_of
  c13 = ap (λ (ss : List SlabSlot). eqb n (fulls ss)) (slab_all n l) ∙ ap (eqb n) (fulls_all cap 0)

  c14 : positioned (set_of (full_of n)) ≡ true
  c14 =
      ap (each 0 _) (items_all n l)
      ∙ numbered_all _ _ cap (λ i h. ap (there false (λ x. there false (λ j. eqb j i) (position_in x))) (slot_at n l i h) ∙ eq-eqb i i refl)

  c15 : ordered (set_of (full_of n)) ≡ true
  c15 =
      ap (λ (es : List Entry). each 0 (λ i e. eqb i 0 || there true (λ f. leb f.at e.at) (element es (parent i))) es) (items_all n l)
      ∙ numbered_all _ _ cap
      (λ i h. or_true (eqb i 0) (ap (there true (λ f. leb f.at 5)) (numbered_first (λ i. entry 5 i i) cap (parent i) (omega arith))))

  -- the free head is past the slots, and so it is all that is met
  met_one : met_free (set_of (full_of n)).heap ≡ cap ∷ []
  unfolding set_of heap_of nodes
  met_one = ap (λ (o : Option ℕ). cap ∷ nodes (λ q. there none next_free (slot_in (set_of (full_of n)).heap q)) (suc cap) o) ended
    where
      ended : there none next_free (slot_in (set_of (full_of n)).heap cap) ≡ none
      ended =
          ap (λ (ss : List SlabSlot). there none next_free (there none (λ x. some x.state) (element ss cap))) (slab_all n l)
          ∙ ap (λ (o : Option SlabSlot). there none next_free (there none (λ x. some x.state) o)) (numbered_past full cap 0 cap (omega arith))

  c16 : chained (set_of (full_of n)) ≡ true
  unfolding set_of heap_of
  c16 =
      ap₂ ◌&&◌ (ap (each 0 _) (slab_all n l) ∙ numbered_all full _ cap (λ i h. refl))
      (ap (ends_in (length (full_from cap 0))) met_one ∙ ap (λ (m : ℕ). eqb m cap) (numbered_length full cap 0))

  c21 : own_slots (set_of (full_of n)) ≡ true
  c21 = ap (each 0 _) (timers_all n l) ∙ numbered_all _ _ cap (λ i h. ap (there false (λ e. eqb e.place.0 i)) (entry_at n l i h) ∙ eq-eqb i i refl)

  c22 : own_entries (set_of (full_of n)) ≡ true
  c22 =
      ap (each 0 _) (slab_all n l)
      ∙ numbered_all full _ cap
      (λ q h.
      ap (there true (λ e. there true (λ t. there false (eqb q) (slot_of t.held)) (element (set_of (full_of n)).timers e.place.0))) (entry_at n l q h)
      ∙ ap (there true (λ t. there false (eqb q) (slot_of t.held))) (timer_at_lem n l q h)
      ∙ eq-eqb q q refl)

  c31 : waiters_listed (set_of (full_of n)) ≡ true
  c31 = ap (each 0 _) (timers_all n l) ∙ numbered_all _ _ cap (λ i h. refl)

  c41 : live_unmarked (set_of (full_of n)) ≡ true
  unfolding set_of
  c41 = ap (each 0 _) (timers_all n l) ∙ numbered_all _ _ cap (λ i h. refl)

  c42 : cancelled_unmarked (set_of (full_of n)) ≡ true
  unfolding set_of
  c42 = ap (each 0 _) (timers_all n l) ∙ numbered_all _ _ cap (λ i h. refl)

  none_held_lem : (kind : Life → Bool) → kind (Live 0 5) ≡ false → none_held kind (set_of (full_of n)) ≡ true
  none_held_lem kind k =
      ap (each 0 _) (items_all n l)
      ∙ numbered_all _ _ cap (λ i h. ap (there true (λ t. not (kind t.life))) (timer_at_lem n l i h) ∙ ap not k)

  c61 : cancelled_listed (set_of (full_of n)) ≡ true
  unfolding set_of
  c61 = ap (each 0 _) (timers_all n l) ∙ numbered_all _ _ cap (λ i h. refl)

  c81 : generations_fit (set_of (full_of n)) ≡ true
  c81 = ap (each 0 _) (items_all n l) ∙ numbered_all _ _ cap (λ i h. refl)

  c82 : places_fit (set_of (full_of n)) ≡ true
  unfolding set_of nodes
  c82 = ap₂ ◌&&◌ (ap (each 0 _) (items_all n l) ∙ numbered_all _ _ cap (λ i h. true_ref (ref_lt i cap) h)) refl

  -- the clauses of the list, which is empty, and all others but the first three
  rest : Alike_clauses (set_of (full_of n)) (drop 3 clauses) (verdicts [] (drop 3 clauses))
  unfolding set_of nodes
  rest =
      let held = also (none_held_lem is_free refl) (also (none_held_lem is_retired refl) (also refl (also refl (also c61 (also c81 (also c82 tt)))))) in
      let shut = also c41 (also c42 (also refl (also refl held))) in
      let list = also c21 (also c22 (also c31 (also refl (also refl shut)))) in
      also c14 (also c15 (also c16 list))

-- with as many entries as there is room for, none is broken; with one more, the two that count the entries are
pub full_none : broken (set_of (full_of (length (entries_from cap 0)))) ≡ []
unfolding set_of heap_of
full_none =
    let l : cap ≤ cap = omega arith in
    ap (λ (n : ℕ). broken (set_of (full_of n))) (numbered_length (λ i. entry 5 i i) cap 0)
    ∙ alike_broken (set_of (full_of cap)) clauses (verdicts [] clauses) (also refl (also (c12 cap l) (also (c13 cap l) (rest cap l))))

pub full_some : broken (set_of (full_of (cap + 1))) ≡ 11 ∷ 13 ∷ []
unfolding set_of heap_of
full_some =
    let l : cap ≤ cap + 1 = omega arith in
    alike_broken (set_of (full_of (cap + 1))) clauses (verdicts (11 ∷ 13 ∷ []) clauses)
    (also refl (also (c12 (cap + 1) l) (also (c13 (cap + 1) l) (rest (cap + 1) l))))
