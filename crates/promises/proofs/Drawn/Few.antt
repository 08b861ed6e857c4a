-- The clauses of specs/Clauses.antt, of a set that is drawn, by what is drawn of it: the places that are free are not gone through, and
-- the list and the free chain are followed for a few steps only.
-- Assumes nothing.
use mathlib.Core.Bool.{Bool, true, false, not, ◌&&◌, ◌||◌}
use mathlib.Core.Option.{Option, none, some}
use mathlib.Core.List.{List, [], ◌∷◌}
use Prim.Native.Nat.{ℕ, ◌+◌}
use lib.Dec.{ltb, leb, eqb}
use lib.ListN.{length}
use Rattle.theory.specs.Chain.{nodes}
use Rattle.heap.specs.Capacity.{cap}
use Rattle.heap.specs.declared.Heap.{Heap}
use Rattle.heap.specs.Rules.{items}
use Rattle.word.specs.Rules.{invalid_in}
use Rattle.state.specs.declared.Life.{Life}
use Rattle.state.specs.declared.Timer.{Timer}
use Rattle.state.specs.State.{no_timer, is_waiting, next_in, head_of}
use Rattle.promises.specs.Clauses.{each, there, times, ends_in, is_empty, slab, next_free, slot_in, slot_of, entry_in, live_word, cancelled_word, is_free, is_retired, entries_fit, slots_fit, counted, positioned, ordered, closed_heap, generations_fit, Clause, clause}
use Rattle.promises.specs.States.{Drawn, heap_of}
use Rattle.promises.proofs.Drawn.Room.{drawn_at}
use Rattle.promises.proofs.Drawn.Links.{once, closed, settled}

-- how many steps of a list or chain are followed: more than any of them is long, and no more than the capacity and one
abbrev pub steps : ℕ
steps = 6

module _ (d : Drawn) where
  -- its heap
  abbrev pub store : Heap
  store = heap_of d.heap

  -- the timer at a place, and who comes after it in the list
  abbrev pub at : ℕ → Option Timer
  at = drawn_at no_timer d.start d.timers

  abbrev pub after : ℕ → Option ℕ
  after p = there none (λ t. next_in t.waiting) (at p)

  -- the places met from the list's head on, and the slots met from the free head on
  abbrev pub listed_few : List ℕ
  listed_few = nodes after steps (head_of d.first)

  abbrev pub follows : ℕ → Option ℕ
  follows q = there none next_free (slot_in store q)

  abbrev pub met_few : List ℕ
  met_few = nodes follows steps (some d.heap.free)

  -- every timer that is drawn passes
  abbrev pub each_drawn : (ℕ → Timer → Bool) → Bool
  each_drawn f = each d.start f d.timers

  -- 16
  abbrev pub chained_few : Bool
  chained_few =
      let met = met_few in
      each 0 (λ q x. there true (λ n. eqb (times q met) 1) (next_free x.state)) (slab store) && ends_in d.heap.made met

  -- 21, 22
  abbrev pub own_slots_few : Bool
  own_slots_few = each_drawn (λ p t. there true (λ q. there false (λ e. eqb e.place.0 p) (entry_in store q)) (slot_of t.held))

  abbrev pub own_entries_few : Bool
  own_entries_few =
      each 0 (λ q x. there true (λ e. there true (λ t. there false (eqb q) (slot_of t.held)) (at e.place.0)) (entry_in store q)) (slab store)

  -- 31, 32
  abbrev pub waiters_few : Bool
  waiters_few = let l = listed_few in each_drawn (λ p t. not (is_waiting t.waiting) || ltb 0 (times p l))

  abbrev pub only_few : Bool
  only_few = each 0 (λ k p. there false (λ t. is_waiting t.waiting) (at p)) listed_few

  -- 41, 42
  abbrev pub live_few : Bool
  live_few = d.closed || each_drawn (λ p t. there true (λ w. not (invalid_in w)) (live_word t.life))

  abbrev pub cancelled_few : Bool
  cancelled_few = d.closed || each_drawn (λ p t. there true (λ w. not (invalid_in w)) (cancelled_word t.life))

  -- 51, 52; 53, 54
  abbrev pub none_held_few : (Life → Bool) → Bool
  none_held_few kind = each 0 (λ i e. there true (λ t. not (kind t.life)) (at e.place.0)) (items store)

  abbrev pub none_listed_few : (Life → Bool) → Bool
  none_listed_few kind = each 0 (λ k p. there true (λ t. not (kind t.life)) (at p)) listed_few

  -- 61
  abbrev pub cancelled_listed_few : Bool
  cancelled_listed_few =
      let l = listed_few in
      d.closed || each_drawn (λ p t. there true (λ w. ltb 0 (times p l)) (cancelled_word t.life))

  -- 82
  abbrev pub places_few : Bool
  places_few = each 0 (λ i e. ltb e.place.0 cap) (items store) && each 0 (λ k p. ltb p cap) listed_few

  -- all clauses; those that are not above go through the heap alone, as it is
  abbrev pub clauses_few : List Clause
  clauses_few =
      clause 11 entries_fit
      ∷ clause 12 slots_fit
      ∷ clause 13 counted
      ∷ clause 14 positioned
      ∷ clause 15 ordered
      ∷ clause 16 (λ s. chained_few)
      ∷ clause 21 (λ s. own_slots_few)
      ∷ clause 22 (λ s. own_entries_few)
      ∷ clause 31 (λ s. waiters_few)
      ∷ clause 32 (λ s. only_few)
      ∷ clause 33 (λ s. once listed_few)
      ∷ clause 41 (λ s. live_few)
      ∷ clause 42 (λ s. cancelled_few)
      ∷ clause 43 (λ s. not d.closed || is_empty listed_few)
      ∷ clause 44 closed_heap
      ∷ clause 51 (λ s. none_held_few is_free)
      ∷ clause 52 (λ s. none_held_few is_retired)
      ∷ clause 53 (λ s. none_listed_few is_free)
      ∷ clause 54 (λ s. none_listed_few is_retired)
      ∷ clause 61 (λ s. cancelled_listed_few)
      ∷ clause 81 generations_fit
      ∷ clause 82 (λ s. places_few)
      ∷ []

  -- what is drawn has room, the list has ended or loops within the steps that are followed, and so has the free chain: where it loops
  -- it does not meet the number of slots
  abbrev pub fits : Bool
  fits =
      leb (d.start + length d.timers) cap
      && (leb (length d.heap.entries) cap
      && (leb (length d.heap.slots) cap
      && (settled after steps (head_of d.first)
      && (let met = met_few in ltb (length met) steps || (closed follows met && not (ltb 0 (times d.heap.made met)))))))
