-- The second row of the worked sets: a heap of which every slot was made and is empty, whose count of slots is its room, or one more.
-- Assumes nothing.
use mathlib.Core.Path.{◌≡◌, refl, ap, ap₂, ◌∙◌}
use mathlib.Core.Bool.{Bool, true, ◌&&◌}
use mathlib.Core.Option.{Option, none, some}
use mathlib.Core.List.{List, [], ◌∷◌}
use Prim.Native.Nat.{ℕ, zero, suc, ◌+◌, ◌-◌, ◌≤◌, ◌<◌}
use native.Mathlib.Omega.{arith}
use lib.Dec.{eqb}
use lib.ListN.{length, drop}
use borrow.Author.Tests.{eq-eqb}
use Rattle.theory.specs.Chain.{nodes}
use Rattle.heap.specs.Capacity.{cap}
use Rattle.heap.specs.declared.Entry.{Entry}
use Rattle.heap.specs.declared.SlotState.{SlotState}
use Rattle.heap.specs.declared.SlotState.TheVariants.{Full, Empty}
use Rattle.heap.specs.declared.SlabSlot.{SlabSlot}
use Rattle.state.specs.State.{no_timer}
use Rattle.promises.specs.Clauses.{each, element, there, times, ends_in, slab, position_in, next_free, slot_in, fulls, met_free, counted, chained, own_slots, own_entries, waiters_listed, live_unmarked, cancelled_unmarked, cancelled_listed, clauses, broken}
use Rattle.promises.specs.States.{Drawn, heap_of, set_of, empty, nobody, an_open, numbered, empty_heap}
use Rattle.promises.proofs.ByClause.ClauseLists.{element_out, nodes_none}
use Rattle.promises.proofs.Drawn.Room.{room_each}
use Rattle.promises.proofs.Drawn.Each.{each_yes}
use Rattle.promises.proofs.Drawn.Path.{path, ends_path, path_once}
use Rattle.promises.proofs.Drawn.Verdicts.{Alike_clauses, alike_broken, also, verdicts}
use Rattle.promises.proofs.Drawn.Numbered.{numbered_length, numbered_first, numbered_each, room_full}

-- none of these slots is full
fulls_none : (n k : ℕ) → fulls (numbered empty n k) ≡ 0
unfolding numbered
fulls_none zero k = refl
fulls_none (suc n) k = let e = fulls_none n (suc k) in omega (arith, e)

-- the set whose heap has this count of slots
abbrev pub emptied : ℕ → Drawn
emptied n = an_open (empty_heap n) [] nobody

module _ (n : ℕ) (l : cap ≤ n) where
  -- its slots, by number
  abbrev line : List SlabSlot
  line = empty n ∷ numbered empty (cap - 1) 0

  line_length : length line ≡ cap
  line_length = ap suc (numbered_length empty (cap - 1) 0)

  slab_all : slab (set_of (emptied n)).heap ≡ line
  unfolding set_of heap_of
  slab_all = room_full (empty 0) line line_length n l

  -- the slot that a slot names
  abbrev next : ℕ → Option ℕ
  next q = there none next_free (slot_in (set_of (emptied n)).heap q)

  next_by : (q : ℕ) → next q ≡ there none next_free (there none (λ x. some x.state) (element line q))
  next_by q = ap (λ (ss : List SlabSlot). there none next_free (there none (λ x. some x.state) (element ss q))) slab_all

  next_suc : (m : ℕ) → suc m < cap → next (suc m) ≡ some m
  next_suc m h =
      next_by (suc m)
      ∙ ap (λ (o : Option SlabSlot). there none next_free (there none (λ x. some x.state) o)) (numbered_first empty (cap - 1) m (omega arith))

  next_end : next n ≡ none
  next_end =
      next_by n
      ∙ ap (λ (o : Option SlabSlot). there none next_free (there none (λ x. some x.state) o)) (element_out line n (omega (arith, line_length)))

  -- from a slot on every slot below it is met, and last the number n
  met_path : (m f : ℕ) → m < cap → m + 2 ≤ f → nodes next f (some m) ≡ path n m
  unfolding nodes path
  met_path zero zero a b = absurd (omega arith)
  met_path zero (suc zero) a b = absurd (omega arith)
  met_path zero (suc (suc f)) a b =
      ap (λ (o : Option ℕ). 0 ∷ nodes next (suc f) o) (next_by 0) ∙ ap (λ (o : Option ℕ). 0 ∷ n ∷ nodes next f o) next_end
      ∙ ap (λ (t : List ℕ). 0 ∷ n ∷ t) (nodes_none next f)
  met_path (suc m) zero a b = absurd (omega arith)
  met_path (suc m) (suc f) a b =
      ap (λ (o : Option ℕ). suc m ∷ nodes next f o) (next_suc m a) ∙ ap (◌∷◌ (suc m)) (met_path m f (omega arith) (omega arith))

  met_is : met_free (set_of (emptied n)).heap ≡ path n (cap - 1)
  unfolding set_of heap_of
  met_is = met_path (cap - 1) (suc (suc cap)) (omega arith) (omega arith)

  -- the clauses that are not plain, by their numbers
  c13 : counted (set_of (emptied n)) ≡ true
  unfolding set_of heap_of
  c13 = ap (λ (ss : List SlabSlot). eqb 0 (fulls ss)) slab_all ∙ ap (λ (k : ℕ). eqb 0 (0 + k)) (fulls_none (cap - 1) 0)

  c16 : chained (set_of (emptied n)) ≡ true
  unfolding set_of heap_of
  c16 =
      ap (λ (met : List ℕ). says met (slab (set_of (emptied n)).heap) && ends_in n met) met_is
      ∙ ap₂ ◌&&◌ (ap (says (path n (cap - 1))) slab_all ∙ ap₂ ◌&&◌ (once 0 (omega arith)) (numbered_each empty _ (cap - 1) 0 1 (λ i h. once (1 + i) (omega arith))))
      (ends_path n (cap - 1))
    where
      says : List ℕ → List SlabSlot → Bool
      says met ss = each 0 (λ q x. there true (λ n. eqb (times q met) 1) (next_free x.state)) ss

      once : (q : ℕ) → q < cap → eqb (times q (path n (cap - 1))) 1 ≡ true
      once q h = eq-eqb _ _ (path_once n (cap - 1) q (omega arith) (omega arith))

  c21 : own_slots (set_of (emptied n)) ≡ true
  unfolding set_of
  c21 = room_each no_timer _ (λ i. refl) 0 []

  c22 : own_entries (set_of (emptied n)) ≡ true
  unfolding set_of heap_of
  c22 = each_yes _ (λ q x. ap (there true _) (no_entry_lem (slot_in (heap_of (empty_heap n)) q))) 0 (slab (heap_of (empty_heap n)))
    where
      no_entry_lem : (o : Option SlotState) → there {B = Option Entry} none (λ x. there none (element []) (position_in x)) o ≡ none
      no_entry_lem none = refl
      no_entry_lem (some (Full i)) = refl
      no_entry_lem (some (Empty m)) = refl

  c31 : waiters_listed (set_of (emptied n)) ≡ true
  unfolding set_of
  c31 = room_each no_timer _ (λ i. refl) 0 []

  c41 : live_unmarked (set_of (emptied n)) ≡ true
  unfolding set_of
  c41 = room_each no_timer _ (λ i. refl) 0 []

  c42 : cancelled_unmarked (set_of (emptied n)) ≡ true
  unfolding set_of
  c42 = room_each no_timer _ (λ i. refl) 0 []

  c61 : cancelled_listed (set_of (emptied n)) ≡ true
  unfolding set_of
  c61 = room_each no_timer _ (λ i. refl) 0 []

  -- all clauses but the first two
  rest : Alike_clauses (set_of (emptied n)) (drop 2 clauses) (verdicts [] (drop 2 clauses))
  unfolding set_of heap_of nodes
  rest =
      let held = also refl (also refl (also refl (also refl (also c61 (also refl (also refl tt)))))) in
      let shut = also c41 (also c42 (also refl (also refl held))) in
      let list = also c21 (also c22 (also c31 (also refl (also refl shut)))) in
      also c13 (also refl (also refl (also c16 list)))

-- with as many slots as there is room for, none is broken; with one more, the one that counts the slots is
pub emptied_none : broken (set_of (emptied cap)) ≡ []
unfolding set_of heap_of
emptied_none =
    alike_broken (set_of (emptied cap)) clauses (verdicts [] clauses) (also refl (also refl (rest cap (omega arith))))

pub emptied_some : broken (set_of (emptied (cap + 1))) ≡ 12 ∷ []
unfolding set_of heap_of
emptied_some =
    alike_broken (set_of (emptied (cap + 1))) clauses (verdicts (12 ∷ []) clauses) (also refl (also refl (rest (cap + 1) (omega arith))))
