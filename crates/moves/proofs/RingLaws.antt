-- An advance, pop by pop: one turn of its rule, where it stops, what a pop makes of a set in each case, and what pops keep.
-- Assumes nothing.
use mathlib.Core.Path.{◌≡◌, refl, ap, ◌∙◌}
use mathlib.Core.Bool.{Bool, true, false}
use Prim.Native.Nat.{ℕ, zero, suc, ◌+◌, ◌≤◌}
use native.Mathlib.Omega.{arith}
use lib.ListN.{length, set, length-set, get_or-eq_default}
use lib.Seq.{set_out}
use Rattle.heap.specs.declared.Entry.{Entry}
use Rattle.heap.specs.Rules.{entry_at}
use Rattle.heap.specs.Sound.{Sound}
use Rattle.heap.specs.Calls.{pop_sound}
use Rattle.heap.proofs.Soundness.SoundKept.{pop_sound_lem}
use Rattle.state.specs.declared.Timer.{Timer}
use Rattle.state.specs.declared.Set.{Set}
use Rattle.state.specs.State.{no_timer, timer_at}
use Rattle.state.specs.Handles.{handle_word}
use Rattle.moves.specs.Rules.{with_timer, with_heap, Ring, due_by, reports, rung_timer, rung_of, ring_from}

-- the head of the heap, its place, and the timer there
abbrev pub head : Ring → Entry
head r = entry_at r.set.heap 0

abbrev pub struck : Ring → Timer
struck r = timer_at r.set (head r).place.0

-- the set after a pop
abbrev pub popped_set : Ring → Set
popped_set r = with_heap r.set (pop_sound r.set.heap).state

abbrev pub rung_set : Ring → Set
rung_set r = with_timer (popped_set r) (head r).place.0 (rung_timer (head r).generation (struck r))

-- TURNS

module _ (N : ℕ) where
  -- where the head is due it is popped, and one turn fewer is left
  pub ring_goes : (k : ℕ) (r : Ring) → due_by r.set.heap N ≡ true → ring_from (suc k) r N ≡ ring_from k (rung_of r) N
  unfolding ring_from
  ring_goes k r e = rw e

  -- where it is not, nothing more is done
  pub ring_ends : (n : ℕ) (r : Ring) → due_by r.set.heap N ≡ false → ring_from n r N ≡ r
  unfolding ring_from
  ring_ends zero r e = refl
  ring_ends (suc k) r e = rw e

  -- nor where no turn is left
  pub ring_done : {n : ℕ} (r : Ring) → n ≡ 0 → ring_from n r N ≡ r
  unfolding ring_from
  ring_done r e = rw e

-- ONE POP

module _ (r : Ring) where
  -- a timer that rings is reported at the next place of the list
  pub rung_told : reports (head r).generation (struck r).life ≡ true
      → rung_of r ≡ record {
        set = rung_set r;
        list = set r.list r.reported (handle_word (record { place = (head r).place; uses = (struck r).uses }));
        reported = r.reported + 1;
        popped = r.popped + 1;
      }
  unfolding rung_of
  rung_told e = rw e

  -- one that does not is not
  pub rung_quiet : reports (head r).generation (struck r).life ≡ false
      → rung_of r ≡ record { set = rung_set r; list = r.list; reported = r.reported; popped = r.popped + 1 }
  unfolding rung_of
  rung_quiet e = rw e

  -- where the entry's place is out of range nothing is stored and nothing reported
  pub rung_out : length r.set.timers ≤ (head r).place.0
      → rung_of r ≡ record { set = popped_set r; list = r.list; reported = r.reported; popped = r.popped + 1 }
  rung_out b =
      rung_quiet (ap (λ (t : Timer). reports (head r).generation t.life) (get_or-eq_default r.set.timers no_timer b))
      ∙ rw (set_out r.set.timers (head r).place.0 (rung_timer (head r).generation (struck r)) b)

  -- the heap stays sound
  pub rung_heap : Sound r.set.heap → Sound (rung_of r).set.heap
  unfolding rung_of
  rung_heap s = pop_sound_lem r.set.heap s

  -- there are as many places as before
  pub rung_timers : length (rung_of r).set.timers ≡ length r.set.timers
  unfolding rung_of
  rung_timers = simp length-set

  -- the list is as long as before
  pub rung_list : length (rung_of r).list ≡ length r.list
  rung_list = go (reports (head r).generation (struck r).life) refl
    where
      go : (b : Bool) → reports (head r).generation (struck r).life ≡ b → length (rung_of r).list ≡ length r.list
      go true e = ap (λ (x : Ring). length x.list) (rung_told e) ∙ simp length-set
      go false e = ap (λ (x : Ring). length x.list) (rung_quiet e)

  -- one entry more is popped
  pub rung_popped : (rung_of r).popped ≡ r.popped + 1
  unfolding rung_of
  rung_popped = refl

  -- and at most one timer more reported
  pub rung_reported : (rung_of r).reported ≤ r.reported + 1
  rung_reported = go (reports (head r).generation (struck r).life) refl
    where
      go : (b : Bool) → reports (head r).generation (struck r).life ≡ b → (rung_of r).reported ≤ r.reported + 1
      go true e = omega (arith, ap (λ (x : Ring). x.reported) (rung_told e))
      go false e = omega (arith, ap (λ (x : Ring). x.reported) (rung_quiet e))
