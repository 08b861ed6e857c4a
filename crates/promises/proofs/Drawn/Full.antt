-- The first row of the worked sets: a full heap, whose count of entries is its room, or one more. What its arrays have.
-- Assumes nothing.
use mathlib.Core.Path.{◌≡◌, ap, ◌∙◌}
use mathlib.Core.Option.{none, some}
use mathlib.Core.List.{List}
use Prim.Native.Nat.{ℕ, ◌≤◌, ◌<◌}
use native.Mathlib.Omega.{arith}
use lib.ListN.{length}
use Rattle.heap.specs.Capacity.{cap}
use Rattle.heap.specs.declared.Entry.{Entry}
use Rattle.heap.specs.declared.SlotState.TheVariants.{Full}
use Rattle.heap.specs.declared.SlabSlot.{SlabSlot}
use Rattle.heap.specs.Rules.{no_entry, items}
use Rattle.state.specs.declared.Waiting.TheVariants.{No}
use Rattle.state.specs.declared.Timer.{Timer}
use Rattle.state.specs.State.{no_timer}
use Rattle.promises.specs.Clauses.{element, there, slab, position_in, slot_in, entry_in}
use Rattle.promises.specs.States.{Drawn, spare, heap_of, set_of, full, empty, entry, live, in_slot, nobody, with_len, an_open, entries_from, full_from, held_from, full_heap}
use Rattle.promises.proofs.Drawn.Numbered.{numbered_length, numbered_first, room_whole, room_full}

-- the set whose heap has this count of entries
abbrev pub full_of : ℕ → Drawn
full_of n = an_open (with_len n full_heap) (held_from cap 0) nobody

module _ (n : ℕ) (l : cap ≤ n) where
  -- its entries, its slots and its timers are those that are drawn
  pub items_all : items (set_of (full_of n)).heap ≡ entries_from cap 0
  unfolding set_of heap_of
  items_all = room_full no_entry (entries_from cap 0) (numbered_length _ cap 0) n l

  pub slab_all : slab (set_of (full_of n)).heap ≡ full_from cap 0
  unfolding set_of heap_of
  slab_all = let e = numbered_length full cap 0 in room_full (empty 0) (full_from cap 0) e (length (full_from cap 0)) (omega (arith, e))

  pub timers_all : (set_of (full_of n)).timers ≡ held_from cap 0
  unfolding set_of spare
  timers_all = room_whole no_timer (held_from cap 0) (numbered_length _ cap 0)

  -- the slot, the entry in it and the timer of one number
  pub slot_at : (q : ℕ) → q < cap → slot_in (set_of (full_of n)).heap q ≡ some (Full (record { 0 = q }))
  slot_at q h =
      ap (λ (ss : List SlabSlot). there none (λ x. some x.state) (element ss q)) slab_all
      ∙ ap (there none (λ x. some x.state)) (numbered_first full cap q h)

  pub entry_at : (q : ℕ) → q < cap → entry_in (set_of (full_of n)).heap q ≡ some (entry 5 q q)
  entry_at q h =
      ap (there none (λ x. there none (element (items (set_of (full_of n)).heap)) (position_in x))) (slot_at q h)
      ∙ ap (λ (es : List Entry). element es q) items_all
      ∙ numbered_first (λ i. entry 5 i i) cap q h

  pub timer_at_lem : (p : ℕ) → p < cap → element (set_of (full_of n)).timers p ≡ some (live No (in_slot p))
  timer_at_lem p h = ap (λ (ts : List Timer). element ts p) timers_all ∙ numbered_first (λ i. live No (in_slot i)) cap p h
