-- The clauses say enough: a set that keeps each of them is sound.
-- Assumes nothing.
use mathlib.Core.Path.{◌≡◌, refl, sym, ap, subst, ◌∙◌}
use mathlib.Core.Bool.{Bool, true, not}
use mathlib.Core.Option.{some}
use Prim.Native.Nat.{ℕ, ◌≤◌, ◌<◌}
use lib.ListN.{length}
use Rattle.std.specs.Prelude.{Option, Some, None}
use Rattle.theory.proofs.Tests.{ref_le, ref_true, true_false, is_false}
use Rattle.heap.specs.Capacity.{cap}
use Rattle.heap.specs.declared.Slot.{Slot}
use Rattle.heap.specs.declared.Entry.{Entry}
use Rattle.heap.specs.Rules.{entry_at}
use Rattle.heap.specs.Sound as Heap
use Rattle.state.specs.declared.Life.{Life}
use Rattle.state.specs.declared.Set.{Set}
use Rattle.state.specs.State.{timer_at, is_waiting}
use Rattle.state.specs.Sound.{Unused, Owns, Sound}
use Rattle.state.proofs.PlaceTest.{ref_still}
use Rattle.promises.specs.Clauses.{element, slot_of, live_word, cancelled_word, is_free, is_retired, none_held, none_listed}
use Rattle.promises.proofs.ByClause.ClauseHeap.{ref_counted, ref_positioned, ref_ordered}
use Rattle.promises.proofs.ByClause.ClauseChain.{ref_chained}
use Rattle.promises.proofs.ByClause.ClauseTimers.{waits_marked, timer_in_lem, ref_waiters, ref_only, ref_once, listed_ok, ref_live, ref_cancelled, ref_closed_list, ref_none_listed, ref_cancelled_listed}
use Rattle.promises.proofs.ByClause.ClauseOwners.{slot_held, Stands, stands_in, in_stands, ref_own_slots, ref_own_entries, ref_closed_heap, ref_none_held, ref_generations, ref_places}
use Rattle.promises.proofs.ByClause.ClauseKept.{Kept}

module _ (s : Set) (n : length s.timers ≡ cap) (m : length s.heap.entries ≡ cap) (k : length s.heap.slots ≡ cap) (c : Kept s) where
  -- there is room for as many entries and slots as are counted
  fit : s.heap.len ≤ cap
  fit = ref_true (ref_le s.heap.len cap) c.c11

  room : s.heap.made ≤ cap
  room = ref_true (ref_le s.heap.made cap) c.c12

  -- the heap passes its test
  heap_sound : Heap.Sound s.heap
  heap_sound = record {
    entries_long = m;
    slots_long = k;
    len_in = fit;
    made_in = room;
    counted = ref_true (ref_counted s m k fit room) c.c13;
    forth = ref_true (ref_positioned s m k fit room) c.c14;
    ordered = λ i z l. ref_true (ref_ordered s m k fit room) c.c15 i l z;
    chained = ref_true (ref_chained s m k fit room) c.c16;
  }

  -- the entry in the slot that a timer names
  stands : (p : ℕ) (q : Slot) → p < cap → (timer_at s p).held ≡ Some q → (e : Entry) × Stands s q.0 e × (e.place.0 ≡ p)
  stands p q l e =
      let t = ref_true (ref_own_slots s n m k fit room) c.c21 p l q.0 (ap slot_of e) in
      (t.0, in_stands s n m k fit room q.0 t.0 t.1, t.2)

  -- and that is the timer's own
  owns : (p : ℕ) (q : Slot) → p < cap → (timer_at s p).held ≡ Some q → Owns s p q
  owns p q l e =
      let t = stands p q l e in
      record {
        made = t.1.made;
        where_it_stands = t.1.position;
        full = t.1.full;
        own = ap (λ (x : Entry). x.place.0) t.1.entry ∙ t.2;
      }

  -- the places in entries are in range
  place_in : (i : ℕ) → i < s.heap.len → (entry_at s.heap i).place.0 < cap
  place_in = (ref_true (ref_places s n m k fit room) c.c82).0

  -- an entry's place names its slot
  named : (i : ℕ) → i < s.heap.len → (timer_at s (entry_at s.heap i).place.0).held ≡ Some (entry_at s.heap i).slot
  named i l =
      let e = entry_at s.heap i in
      let f = heap_sound.forth i l in
      let t =
      ref_true (ref_own_entries s n m k fit room) c.c22 e.slot.0 f.0 e
      (stands_in s n m k fit room e.slot.0 (record { 0 = i }) f.0 f.1 l)
      (timer_at s e.place.0) (timer_in_lem s n e.place.0 (place_in i l)) in
      slot_held (timer_at s e.place.0).held e.slot.0 (t.1 ∙ ap some (sym t.2))

  -- a place of a kind of which none is in the list and none has an entry is unused
  unused : (kind : Life → Bool) → none_held kind s ≡ true → none_listed kind s ≡ true → (p : ℕ) → p < cap → kind (timer_at s p).life ≡ true
      → Unused (timer_at s p)
  unused kind h g p l e = record {
    still = ref_true (ref_still (timer_at s p).waiting)
        (ap not (is_false (is_waiting (timer_at s p).waiting)
        (λ w. true_false e (ref_true (ref_none_listed s n kind) g p (ref_true (ref_waiters s n) c.c31 p l w) (timer_at s p) (timer_in_lem s n p l)))));
    bare = go (timer_at s p).held refl;
  }
    where
      go : (d : Option Slot) → (timer_at s p).held ≡ d → d ≡ None
      go None z = refl
      go (Some q) z =
          let t = stands p q l z in
          let j = ap (λ (x : Entry). x.place.0) t.1.entry ∙ t.2 in
          true_false e
          (ref_true (ref_none_held s n m k fit room kind) h t.1.position.0 t.1.in_use (timer_at s p)
          (subst (λ (x : ℕ). element s.timers x ≡ some (timer_at s p)) (sym j) (timer_in_lem s n p l)))

  -- a set that keeps all clauses is sound
  pub kept_sound : Sound s
  kept_sound = record {
    timers_long = n;
    heap_sound = heap_sound;
    listed = listed_ok s n (ref_true (ref_waiters s n) c.c31) (ref_true (ref_only s n) c.c32) (ref_true (ref_once s n) c.c33);
    slot_own = owns;
    entry_place = place_in;
    entry_own = named;
    generations = ref_true (ref_generations s n m k fit room) c.c81;
    free_unused = λ p l e. unused is_free c.c51 c.c53 p l (ap is_free e);
    retired_unused = λ p l e. unused is_retired c.c52 c.c54 p l (ap is_retired e);
    live_unmarked = λ p w d l o e. ref_true (ref_live s n) c.c41 o p l w (ap live_word e);
    cancelled_unmarked = λ p w l o e. ref_true (ref_cancelled s n) c.c42 o p l w (ap cancelled_word e);
    list_empty = ref_true (ref_closed_list s n) c.c43;
    heap_empty = ref_true (ref_closed_heap s n m k fit room) c.c44;
    cancelled_waits = λ p w l o e. waits_marked s p
        (ref_true (ref_only s n) c.c32 p (ref_true (ref_cancelled_listed s n) c.c61 o p l w (ap cancelled_word e)));
  }
