-- What the clauses tell that speak of entries and of timers at once: which timer names which slot, and for which places entries are held.
-- Assumes nothing.
use mathlib.Core.Path.{◌≡◌, refl, sym, ap, ◌∙◌}
use mathlib.Core.Bool.{Bool, true, false, not}
use mathlib.Core.Option.{Option, none, some}
use Prim.Native.Nat.{ℕ, ◌≤◌, ◌<◌, ◌^◌}
use lib.Dec.{ltb, eqb}
use lib.ListN.{length, take}
use Rattle.std.specs.Prelude as Code
use Rattle.std.specs.Prelude.{Some, None}
use Rattle.heap.specs.declared.Slot.{Slot}
use Rattle.theory.specs.Tests.{Ref}
use Rattle.theory.specs.Counting.{Mem}
use Rattle.theory.proofs.Tests.{ref_lt, ref_eq, ref_and, ref_map, none_some}
use Rattle.heap.specs.Capacity.{cap}
use Rattle.heap.specs.declared.Pos.{Pos}
use Rattle.heap.specs.declared.Entry.{Entry}
use Rattle.heap.specs.declared.SlotState.{SlotState}
use Rattle.heap.specs.declared.SlotState.TheVariants.{Full, Empty}
use Rattle.heap.specs.Rules.{entry_at, state_at, items}
use Rattle.state.specs.declared.Life.{Life}
use Rattle.state.specs.declared.Timer.{Timer}
use Rattle.state.specs.declared.Set.{Set}
use Rattle.state.specs.State.{timer_at}
use Rattle.promises.specs.Clauses.{element, there, position_in, slot_in, slot_of, entry_in, listed, own_slots, own_entries, closed_heap, none_held, generations_fit, places_fit}
use Rattle.promises.proofs.ByClause.ClauseLists.{ref_some, ref_any, ref_empty, ref_off, ref_shut, ref_members}
use Rattle.promises.proofs.ByClause.ClauseHeap.{items_long, item_in, in_item, slot_in_range, in_slot, ref_items, ref_slab}
use Rattle.promises.proofs.ByClause.ClauseTimers.{ref_timers}

-- a timer that names a slot
pub slot_held : (d : Code.Option Slot) (q : ℕ) → slot_of d ≡ some q → d ≡ Some (record { 0 = q })
slot_held None q e = absurd (none_some refl e)
slot_held (Some r) q e = let z : r.0 ≡ q = cc in ap (λ (k : ℕ). Some (record { 0 = k })) z

-- the slot q was made and is full, and the entry at the position that it names is e
pub record Stands (s : Set) (q : ℕ) (e : Entry) : Type 0 where
  pub made : q < s.heap.made
  pub position : Pos
  pub full : state_at s.heap q ≡ Full position
  pub in_use : position.0 < s.heap.len
  pub entry : entry_at s.heap position.0 ≡ e

module _ (s : Set) (n : length s.timers ≡ cap) (m : length s.heap.entries ≡ cap) (k : length s.heap.slots ≡ cap)
    (a : s.heap.len ≤ cap) (b : s.heap.made ≤ cap) where
  -- the entry in a slot
  pub stands_in : (q : ℕ) (i : Pos) → q < s.heap.made → state_at s.heap q ≡ Full i → i.0 < s.heap.len
      → entry_in s.heap q ≡ some (entry_at s.heap i.0)
  stands_in q i l e r =
      ap (there none (λ x. there none (element (items s.heap)) (position_in x))) (slot_in_range s m k a b q l ∙ ap some e)
      ∙ item_in s m k a b i.0 r

  pub in_stands : (q : ℕ) (e : Entry) → entry_in s.heap q ≡ some e → Stands s q e
  in_stands q e h = go (slot_in s.heap q) refl h
    where
      go : (o : Option SlotState) → slot_in s.heap q ≡ o → there none (λ x. there none (element (items s.heap)) (position_in x)) o ≡ some e
          → Stands s q e
      go none z h = absurd (none_some refl h)
      go (some (Empty j)) z h = absurd (none_some refl h)
      go (some (Full i)) z h =
          let r = in_slot s m k a b q (Full i) z in
          let t = in_item s m k a b i.0 e h in
          record { made = r.0; position = i; full = r.1; in_use = t.0; entry = t.1 }

  -- 21: a timer that names a slot finds an entry there that holds its place
  pub ref_own_slots : Ref
      ((p : ℕ) → p < cap → (q : ℕ) → slot_of (timer_at s p).held ≡ some q → (e : Entry) × (entry_in s.heap q ≡ some e) × (e.place.0 ≡ p))
      (own_slots s)
  ref_own_slots =
      ref_timers s n _ _
      (λ p l.
      ref_any _ (λ q. there false (λ e. eqb e.place.0 p) (entry_in s.heap q)) (slot_of (timer_at s p).held)
      (λ q. ref_some (λ e. e.place.0 ≡ p) (λ e. eqb e.place.0 p) (entry_in s.heap q) (λ e. ref_eq e.place.0 p)))

  -- 22: where an entry in a slot holds a timer's place, the timer names that slot
  pub ref_own_entries : Ref
      ((q : ℕ) → q < s.heap.made → (e : Entry) → entry_in s.heap q ≡ some e → (t : Timer) → element s.timers e.place.0 ≡ some t
      → (r : ℕ) × (slot_of t.held ≡ some r) × (q ≡ r))
      (own_entries s)
  ref_own_entries =
      ref_slab s m k a b _ _
      (λ q l.
      ref_any _ (λ e. there true (λ t. there false (eqb q) (slot_of t.held)) (element s.timers e.place.0)) (entry_in s.heap q)
      (λ e.
      ref_any _ (λ t. there false (eqb q) (slot_of t.held)) (element s.timers e.place.0)
      (λ t. ref_some (λ r. q ≡ r) (eqb q) (slot_of t.held) (λ r. ref_eq q r))))

  -- 44: the heap of a closed set is empty
  pub ref_closed_heap : Ref (s.closed ≡ true → s.heap.len ≡ 0) (closed_heap s)
  ref_closed_heap =
      ref_shut s.closed
      (ref_map (ref_empty (items s.heap)) (λ e. sym (items_long s m k a b) ∙ ap length e)
      (λ e. ap (λ (j : ℕ). take j s.heap.entries) e))

  -- 51, 52: no entry is held for a place of this kind
  pub ref_none_held : (kind : Life → Bool)
      → Ref
      ((i : ℕ) → i < s.heap.len → (t : Timer) → element s.timers (entry_at s.heap i).place.0 ≡ some t → kind t.life ≡ false)
      (none_held kind s)
  ref_none_held kind =
      ref_items s m k a b _ _
      (λ i l.
      ref_any (λ t. kind t.life ≡ false) (λ t. not (kind t.life)) (element s.timers (entry_at s.heap i).place.0)
      (λ t. ref_off (kind t.life)))

  -- 81: the generations in entries are in range
  pub ref_generations : Ref ((i : ℕ) → i < s.heap.len → (entry_at s.heap i).generation < 2 ^ 30) (generations_fit s)
  ref_generations = ref_items s m k a b _ _ (λ i l. ref_lt (entry_at s.heap i).generation (2 ^ 30))

  -- 82: the places in entries and in the list are in range
  pub ref_places : Ref
      (((i : ℕ) → i < s.heap.len → (entry_at s.heap i).place.0 < cap) × ((p : ℕ) → Mem p (listed s) → p < cap)) (places_fit s)
  ref_places =
      ref_and (ref_items s m k a b _ _ (λ i l. ref_lt (entry_at s.heap i).place.0 cap))
      (ref_members _ (λ p. ltb p cap) (listed s) 0 (λ p. ref_lt p cap))
