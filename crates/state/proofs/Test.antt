-- The test of soundness says yes exactly of sound sets: where it passes, a closed set's list and heap are empty since no timer of
-- it waits and none names a slot, and the other way round.
-- Assumes nothing.
use mathlib.Core.Path.{◌≡◌, refl, ap, subst}
use mathlib.Core.Bool.{true, not}
use Prim.Native.Nat.{ℕ, zero, suc, ◌<◌}
use native.Mathlib.Omega.{arith}
use lib.Dec.{ltb}
use lib.ListN.{length}
use borrow.Author.Tests.{ltb-true, lt-ltb}
use Rattle.std.specs.Prelude.{Option, Some, None}
use Rattle.heap.specs.declared.Place.{Place}
use Rattle.heap.specs.declared.Slot.{Slot}
use Rattle.theory.specs.Tests.{Ref}
use Rattle.theory.specs.Chain.{chain_okb}
use Rattle.theory.proofs.Tests.{ref_map, ref_true, true_ref, true_false, is_false, and_left, and_right}
use Rattle.theory.proofs.Counting.{count_zero}
use Rattle.theory.proofs.ChainTest.{ok_head, ok_none}
use Rattle.heap.specs.Capacity.{cap}
use Rattle.heap.proofs.Soundness.SoundFacts.{full_back}
use Rattle.state.specs.declared.Life.{Life}
use Rattle.state.specs.declared.Life.TheVariants.{Free, Live, Cancelled, Retired}
use Rattle.state.specs.declared.Waiting.TheVariants as Waiting
use Rattle.state.specs.declared.Set.{Set}
use Rattle.state.specs.State.{timer_at, is_waiting, head_of}
use Rattle.state.specs.Faults.{waits_at, after_at, sound_of}
use Rattle.state.specs.Sound.{Sound}
use Rattle.state.specs.Named.{Goes}
use Rattle.state.proofs.PlaceTest.{ref_still, held_some}
use Rattle.state.proofs.Parts.{list_test, Passed, ref_passed}

-- a place that waits is a place of the set, and is marked so
waits_in : (s : Set) (p : ℕ) → waits_at s p ≡ true → (p < cap) × (is_waiting (timer_at s p).waiting ≡ true)
unfolding waits_at
waits_in s p e = (ltb-true p cap (and_left _ _ e), and_right (ltb p cap) _ e)

-- and the other way round
in_waits : (s : Set) (p : ℕ) → p < cap → is_waiting (timer_at s p).waiting ≡ true → waits_at s p ≡ true
unfolding waits_at
in_waits s p l e = rw (lt-ltb p cap l) e

module _ (s : Set) where
  -- a list that begins has a timer that waits
  no_list : list_test s ≡ true → ((p : ℕ) → waits_at s p ≡ true → ⊥) → s.first ≡ None
  no_list w n = go s.first w
    where
      go : (f : Option Place) → chain_okb (waits_at s) (after_at s) cap (head_of f) ≡ true → f ≡ None
      go None w = refl
      go (Some p) w = absurd (n p.0 (ok_head (waits_at s) (after_at s) cap p.0 w))

  -- the list of a set that passes and is closed is empty: none of its timers waits
  closed_list_lem : Passed s → s.closed ≡ true → s.first ≡ None
  closed_list_lem t e =
      no_list t.list
      (λ p w. let q = waits_in s p w in true_false q.1 (ap is_waiting ((t.places p q.0).idle e).still))

  -- and so is its heap: an entry's place would name its slot
  closed_heap_lem : Passed s → s.closed ≡ true → s.heap.len ≡ 0
  closed_heap_lem t e = go s.heap.len (λ l. let f = t.entries 0 l in held_some f.own ((t.places _ f.place).idle e).bare)
    where
      go : (n : ℕ) → (0 < n → ⊥) → n ≡ 0
      go zero h = refl
      go (suc n) h = absurd (h (omega arith))

  -- a set that passes is sound
  passed_sound : length s.timers ≡ cap → Passed s → Sound s
  passed_sound n t = record {
    timers_long = n;
    heap_sound = t.heap;
    listed = t.list;
    slot_own = λ p q l e. (t.places p l).owns q e;
    entry_place = λ i l. (t.entries i l).place;
    entry_own = λ i l. (t.entries i l).own;
    generations = λ i l. (t.entries i l).generation;
    free_unused = λ p l e. subst (Goes s.closed (timer_at s p)) e (t.places p l).goes;
    retired_unused = λ p l e. subst (Goes s.closed (timer_at s p)) e (t.places p l).goes;
    live_unmarked = λ p w d l o e. subst (Goes s.closed (timer_at s p)) e (t.places p l).goes o;
    cancelled_unmarked = λ p w l o e. (subst (Goes s.closed (timer_at s p)) e (t.places p l).goes o).0;
    list_empty = closed_list_lem t;
    heap_empty = closed_heap_lem t;
    cancelled_waits = λ p w l o e. (subst (Goes s.closed (timer_at s p)) e (t.places p l).goes o).1;
  }

  module _ (g : Sound s) where
    -- a timer of a sound set that is closed does not wait: it would be in the list
    closed_still : (p : ℕ) → p < cap → s.closed ≡ true → (timer_at s p).waiting ≡ Waiting.No
    closed_still p l e =
        let w = subst (λ (f : Option Place). chain_okb (waits_at s) (after_at s) cap (head_of f) ≡ true) (g.list_empty e) g.listed in
        let n = count_zero (waits_at s) cap (ok_none (waits_at s) (after_at s) cap w) p l in
        ref_true (ref_still (timer_at s p).waiting) (ap not (is_false (is_waiting (timer_at s p).waiting) (λ t. n (in_waits s p l t))))

    -- nor does it name a slot: that would have an entry
    closed_bare : (p : ℕ) → p < cap → s.closed ≡ true → (timer_at s p).held ≡ None
    closed_bare p l e = go (timer_at s p).held refl
      where
        go : (d : Option Slot) → (timer_at s p).held ≡ d → d ≡ None
        go None h = refl
        go (Some q) h =
            let o = g.slot_own p q l h in
            let b = full_back s.heap g.heap_sound q.0 o.where_it_stands o.made o.full in
            let z = g.heap_empty e in
            absurd (omega (arith, b.0, z))

    -- the clauses of a sound set, by whose place it is
    sound_goes : (p : ℕ) → p < cap → (x : Life) → (timer_at s p).life ≡ x → Goes s.closed (timer_at s p) x
    sound_goes p l Free e = g.free_unused p l e
    sound_goes p l (Live w d) e = λ o. g.live_unmarked p w d l o e
    sound_goes p l (Cancelled w) e = λ o. (g.cancelled_unmarked p w l o e, g.cancelled_waits p w l o e)
    sound_goes p l Retired e = g.retired_unused p l e

    -- a sound set passes
    sound_passed : Passed s
    sound_passed = record {
      heap = g.heap_sound;
      list = g.listed;
      places = λ p l. record {
        goes = sound_goes p l (timer_at s p).life refl;
        idle = λ e. record { still = closed_still p l e; bare = closed_bare p l e };
        owns = λ q e. g.slot_own p q l e;
      };
      entries = λ i l. record { place = g.entry_place i l; generation = g.generations i l; own = g.entry_own i l };
    }

  -- the test says yes exactly where the set is sound; how long the arrays are the code's types say
  pub sound_test : length s.timers ≡ cap → length s.heap.entries ≡ cap → length s.heap.slots ≡ cap → Ref (Sound s) (sound_of s)
  sound_test n m k = ref_map (ref_passed s m k) (passed_sound n) sound_passed

  -- a set of which the test says yes is sound
  pub sound_told : length s.timers ≡ cap → length s.heap.entries ≡ cap → length s.heap.slots ≡ cap
      → sound_of s ≡ true → Sound s
  sound_told n m k e = ref_true (sound_test n m k) e

  -- of a sound set the test says yes
  pub sound_tells : Sound s → sound_of s ≡ true
  sound_tells g = true_ref (sound_test g.timers_long g.heap_sound.entries_long g.heap_sound.slots_long) g
