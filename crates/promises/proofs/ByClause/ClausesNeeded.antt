-- Each clause is needed of a sound set: it keeps them all.
-- Assumes nothing.
use mathlib.Core.Path.{◌≡◌, refl, sym, ap, subst, ◌∙◌}
use mathlib.Core.Bool.{Bool, true, false≢true}
use Prim.Native.Nat.{ℕ, ◌≤◌, ◌<◌}
use lib.ListN.{length}
use Rattle.std.specs.Prelude.{Some}
use Rattle.theory.specs.Counting.{Lists}
use Rattle.theory.proofs.Tests.{ref_le, true_ref, true_false, is_false}
use Rattle.heap.specs.Capacity.{cap}
use Rattle.heap.specs.declared.Entry.{Entry}
use Rattle.heap.specs.Rules.{entry_at}
use Rattle.heap.proofs.Soundness.SoundFacts.{full_back}
use Rattle.state.specs.declared.Life.{Life}
use Rattle.state.specs.declared.Life.TheVariants.{Free, Live, Cancelled, Retired}
use Rattle.state.specs.declared.Timer.{Timer}
use Rattle.state.specs.declared.Set.{Set}
use Rattle.state.specs.State.{timer_at, is_waiting}
use Rattle.state.specs.Faults.{waits_at}
use Rattle.state.specs.Sound.{Unused, Sound}
use Rattle.state.proofs.PlaceTest.{held_some}
use Rattle.promises.specs.Clauses.{slot_of, own_slots, own_entries, listed, is_free, is_retired, none_held, none_listed}
use Rattle.promises.proofs.ByClause.ClauseLists.{distinct_once}
use Rattle.promises.proofs.ByClause.ClauseHeap.{ref_counted, ref_positioned, ref_ordered}
use Rattle.promises.proofs.ByClause.ClauseChain.{ref_chained}
use Rattle.promises.proofs.ByClause.ClauseTimers.{waits_marked, marked_waits, live_word_lem, cancelled_word_lem, in_timer, ref_waiters, ref_only, ref_once, ok_listed, ref_live, ref_cancelled, ref_closed_list, ref_none_listed, ref_cancelled_listed}
use Rattle.promises.proofs.ByClause.ClauseOwners.{slot_held, stands_in, in_stands, ref_own_slots, ref_own_entries, ref_closed_heap, ref_none_held, ref_generations, ref_places}
use Rattle.promises.proofs.ByClause.ClauseKept.{Kept}

-- what the two kinds of places out of use are
free_kind : (x : Life) → is_free x ≡ true → x ≡ Free
free_kind Free e = refl
free_kind (Live w d) e = absurd (false≢true e)
free_kind (Cancelled w) e = absurd (false≢true e)
free_kind Retired e = absurd (false≢true e)

retired_kind : (x : Life) → is_retired x ≡ true → x ≡ Retired
retired_kind Free e = absurd (false≢true e)
retired_kind (Live w d) e = absurd (false≢true e)
retired_kind (Cancelled w) e = absurd (false≢true e)
retired_kind Retired e = refl

module _ (s : Set) (n : length s.timers ≡ cap) (m : length s.heap.entries ≡ cap) (k : length s.heap.slots ≡ cap) (g : Sound s) where
  -- there is room for as many entries and slots as are counted
  within : s.heap.len ≤ cap
  within = g.heap_sound.len_in

  slots_within : s.heap.made ≤ cap
  slots_within = g.heap_sound.made_in

  -- the places met from the list's head on are those that wait, each once
  lists : Lists (waits_at s) cap (listed s)
  lists = ok_listed s n g.listed

  -- no entry is held for a kind of places that are unused, and none of them is in the list
  none_held_lem : (kind : Life → Bool) → ((p : ℕ) → p < cap → kind (timer_at s p).life ≡ true → Unused (timer_at s p)) → none_held kind s ≡ true
  none_held_lem kind u =
      true_ref (ref_none_held s n m k within slots_within kind)
      (λ i l t e.
      let p = (entry_at s.heap i).place.0 in
      let r = in_timer s n p t e in
      is_false (kind t.life)
      (λ z. held_some (g.entry_own i l) (u p r.0 (ap (λ (x : Timer). kind x.life) r.1 ∙ z)).bare))

  none_listed_lem : (kind : Life → Bool) → ((p : ℕ) → p < cap → kind (timer_at s p).life ≡ true → Unused (timer_at s p)) → none_listed kind s ≡ true
  none_listed_lem kind u =
      true_ref (ref_none_listed s n kind)
      (λ p i t e.
      let r = in_timer s n p t e in
      is_false (kind t.life)
      (λ z.
      true_false (waits_marked s p (lists.sound p i).1)
      (ap is_waiting (u p r.0 (ap (λ (x : Timer). kind x.life) r.1 ∙ z)).still)))

  -- a free place is unused, and a retired one
  free_out : (p : ℕ) → p < cap → is_free (timer_at s p).life ≡ true → Unused (timer_at s p)
  free_out p l e = g.free_unused p l (free_kind (timer_at s p).life e)

  retired_out : (p : ℕ) → p < cap → is_retired (timer_at s p).life ≡ true → Unused (timer_at s p)
  retired_out p l e = g.retired_unused p l (retired_kind (timer_at s p).life e)

  -- a timer that names a slot finds its own entry there
  own_slots_lem : own_slots s ≡ true
  own_slots_lem =
      true_ref (ref_own_slots s n m k within slots_within)
      (λ p l q e.
      let o = g.slot_own p (record { 0 = q }) l (slot_held (timer_at s p).held q e) in
      let f = full_back s.heap g.heap_sound q o.where_it_stands o.made o.full in (
        entry_at s.heap o.where_it_stands.0,
        stands_in s n m k within slots_within q o.where_it_stands o.made o.full f.0,
        o.own,
      ))

  -- a timer whose place an entry holds names that entry's slot
  own_entries_lem : own_entries s ≡ true
  own_entries_lem =
      true_ref (ref_own_entries s n m k within slots_within)
      (λ q l e h t z.
      let d = in_stands s n m k within slots_within q e h in
      let i = d.position.0 in
      let f = full_back s.heap g.heap_sound q d.position d.made d.full in
      let r = in_timer s n e.place.0 t z in
      let v : (timer_at s e.place.0).held ≡ Some (entry_at s.heap i).slot =
      subst (λ (x : Entry). (timer_at s x.place.0).held ≡ Some (entry_at s.heap i).slot) d.entry (g.entry_own i d.in_use) in
      let y : t.held ≡ Some (entry_at s.heap i).slot = sym (ap (λ (x : Timer). x.held) r.1) ∙ v in
      ((entry_at s.heap i).slot.0, ap slot_of y, sym f.1))

  -- a sound set keeps all clauses
  pub sound_kept : Kept s
  sound_kept = record {
    c11 = true_ref (ref_le s.heap.len cap) within;
    c12 = true_ref (ref_le s.heap.made cap) slots_within;
    c13 = true_ref (ref_counted s m k within slots_within) g.heap_sound.counted;
    c14 = true_ref (ref_positioned s m k within slots_within) g.heap_sound.forth;
    c15 = true_ref (ref_ordered s m k within slots_within) (λ i l z. g.heap_sound.ordered i z l);
    c16 = true_ref (ref_chained s m k within slots_within) g.heap_sound.chained;
    c21 = own_slots_lem;
    c22 = own_entries_lem;
    c31 = true_ref (ref_waiters s n) (λ p l e. lists.whole p l (marked_waits s p l e));
    c32 = true_ref (ref_only s n) (λ p i. (lists.sound p i).1);
    c33 = true_ref (ref_once s n) (distinct_once (listed s) lists.once);
    c41 = true_ref (ref_live s n) (λ o p l w e. let r = live_word_lem (timer_at s p).life w e in g.live_unmarked p w r.0 l o r.1);
    c42 = true_ref (ref_cancelled s n) (λ o p l w e. g.cancelled_unmarked p w l o (cancelled_word_lem (timer_at s p).life w e));
    c43 = true_ref (ref_closed_list s n) g.list_empty;
    c44 = true_ref (ref_closed_heap s n m k within slots_within) g.heap_empty;
    c51 = none_held_lem is_free free_out;
    c52 = none_held_lem is_retired retired_out;
    c53 = none_listed_lem is_free free_out;
    c54 = none_listed_lem is_retired retired_out;
    c61 = true_ref (ref_cancelled_listed s n)
        (λ o p l w e. lists.whole p l (marked_waits s p l (g.cancelled_waits p w l o (cancelled_word_lem (timer_at s p).life w e))));
    c81 = true_ref (ref_generations s n m k within slots_within) g.generations;
    c82 = true_ref (ref_places s n m k within slots_within) (g.entry_place, λ p i. (lists.sound p i).0);
  }
