-- What the rules change of what handles name. A touch changes what the one handle of its place names; a drain changes nothing; an
-- advance sets fired bits and a close invalid bits, and neither gives, ends or puts off a timer.
-- Assumes nothing.
use mathlib.Core.Path.{◌≡◌, refl, sym, ◌∙◌, ap}
use mathlib.Core.Option.{none, some}
use mathlib.Core.List.{List}
use Prim.Native.Nat.{ℕ, ◌<◌}
use native.Mathlib.Omega.{arith}
use lib.ListN.{length}
use lib.Seq.{get_or-set_same}
use Rattle.theory.proofs.Tests.{ref_eq, cond-ref}
use Rattle.heap.specs.Capacity.{cap}
use Rattle.state.specs.declared.Life.{Life}
use Rattle.state.specs.declared.Life.TheVariants.{Live, Cancelled}
use Rattle.state.specs.declared.Timer.{Timer}
use Rattle.state.specs.declared.Set.{Set}
use Rattle.state.specs.declared.Handle.{Handle}
use Rattle.state.specs.State.{no_timer, timer_at}
use Rattle.moves.specs.Rules.{touched_of, lowest_free, freed_of, drained_of, advanced_of, closed_of}
use Rattle.timers.specs.declared.Timing.{Timing}
use Rattle.timers.specs.Calls.{timing_of, live_at}
use Rattle.laws.specs.ByHandle.{Fires, Marks, Still}
use Rattle.laws.proofs.Handles.Naming.{names, names_same, names_other, names_dead, live_in_range, live_none, live_rel, live_told, store_rel}
use Rattle.laws.proofs.AnyCall.Found.{lowest_in, lowest_free_lem}
use Rattle.laws.proofs.PlaceByPlace.Places.{Order, drained_each, advanced_each, closed_each}
use Rattle.laws.proofs.Handles.Still.{still_same, fires_changes, marks_changes, StaysFor, stays_order, rung_stays, marked_stays}

-- the handle of a place as it is now
abbrev pub handle_at : Set → ℕ → Handle
handle_at s p = record { place = record { 0 = p }; uses = (timer_at s p).uses }

-- A TOUCH

module _ (s : Set) (p : ℕ) (l : Life) where
  -- the timer that is touched keeps its use number, and has the new life
  pub touched_here : length s.timers ≡ cap → p < cap → ((timer_at (touched_of s p l) p).uses ≡ (timer_at s p).uses) × ((timer_at (touched_of s p l) p).life ≡ l)
  unfolding touched_of
  touched_here n b =
      let m : p < length s.timers = omega arith in
      (ap (λ (t : Timer). t.uses) (get_or-set_same s.timers p _ no_timer m), ap (λ (t : Timer). t.life) (get_or-set_same s.timers p _ no_timer m))

  -- its handle names what the new life says
  touched_names : (h : Handle) → length s.timers ≡ cap → p < cap → h.place.0 ≡ p → (timer_at s p).uses ≡ h.uses
      → live_at (touched_of s p l) h ≡ timing_of l
  touched_names h n b e u =
      let t = touched_here n b in
      let q : timer_at (touched_of s p l) h.place.0 ≡ timer_at (touched_of s p l) p = ap (timer_at (touched_of s p l)) e in
      live_in_range (touched_of s p l) h (omega arith)
      ∙ ap (λ (x : Timer). names x h.uses) q
      ∙ names_same (timer_at (touched_of s p l) p) h.uses (t.0 ∙ u)
      ∙ ap timing_of t.1

  -- every other handle names what it named
  touched_others : (k : Handle) → (k.place.0 ≡ p → (timer_at s p).uses ≡ k.uses → ⊥) → live_at (touched_of s p l) k ≡ live_at s k
  unfolding touched_of
  touched_others k n =
      live_rel (λ a b. b ≡ a) refl s (touched_of s p l) k
      (store_rel (λ x a b. (x ≡ p → (timer_at s p).uses ≡ k.uses → ⊥) → names b k.uses ≡ names a k.uses) (λ x t _. refl) s.timers p _
      (λ m. names_other _ k.uses (m refl) ∙ sym (names_other (timer_at s p) k.uses (m refl))) k.place.0 n)

-- two handles with the same place and use number are one
pub one_handle : (h k : Handle) → k.place.0 ≡ h.place.0 → k.uses ≡ h.uses → k ≡ h
one_handle h k p u = λ i. record { place = record { 0 = p i }; uses = u i }

-- a touch of a live timer leaves all handles but its own
pub live_others : (s : Set) (h k : Handle) (t : Timing) (l : Life) → live_at s h ≡ some t → (k ≡ h → ⊥)
    → live_at (touched_of s h.place.0 l) k ≡ live_at s k
live_others s h k t l e n =
    touched_others s h.place.0 l k (λ p u. n (one_handle h k p (sym u ∙ (live_told s h t e).same_uses)))

-- and its own names what the new life says
pub live_touched : (s : Set) (h : Handle) (t : Timing) (l : Life) → length s.timers ≡ cap → live_at s h ≡ some t
    → live_at (touched_of s h.place.0 l) h ≡ timing_of l
live_touched s h t l n e = let o = live_told s h t e in touched_names s h.place.0 l h n o.in_range refl o.same_uses

module _ (s : Set) (p d : ℕ) (free : lowest_free s ≡ some p) where
  -- an add's handle was dead
  pub added_was_dead : live_at s (handle_at s p) ≡ none
  added_was_dead = live_none s (handle_at s p) (names_dead (timer_at s p) (timer_at s p).uses (ap timing_of (lowest_free_lem s p free)))

  -- and is live with word 0 and the deadline
  pub added_lives : length s.timers ≡ cap → live_at (touched_of s p (Live 0 d)) (handle_at s p) ≡ some (record { word = 0; due = d })
  added_lives n = touched_names s p (Live 0 d) (handle_at s p) n (lowest_in s p free) refl refl

  -- every other handle names what it named
  pub added_others : (k : Handle) → (k ≡ handle_at s p → ⊥) → live_at (touched_of s p (Live 0 d)) k ≡ live_at s k
  added_others k n = touched_others s p (Live 0 d) k (λ e u. n (one_handle (handle_at s p) k e (sym u)))

-- THE WALKS

-- to every handle the timer is what it was
abbrev pub Names : Timer → Timer → Type 0
Names t r = (u : ℕ) → names r u ≡ names t u

-- this is such a relation of timers as the walks ask for
names_order : Order Names
unfolding names
names_order = record { blind = λ t r l e u. cc; then = λ x y z a b u. b u ∙ a u }

-- a place that is freed was nothing to any handle, and is nothing to any, with the new use number either
freed_names : (t : Timer) (w : ℕ) → t.life ≡ Cancelled w → Names t (freed_of t.uses)
freed_names t w e u =
    names_dead (freed_of t.uses) u
    (cond-ref (λ (r : Timer). timing_of r.life ≡ none) (ref_eq t.uses 4294967295) (λ _. refl) (λ _. refl))
    ∙ sym (names_dead t u (ap timing_of e))

-- after a drain every handle names what it named
pub drained_keeps : (s : Set) (h : Handle) → live_at (drained_of s) h ≡ live_at s h
drained_keeps s h =
    live_rel (λ a b. b ≡ a) refl s (drained_of s) h (drained_each Names names_order freed_names s h.place.0 h.uses)

-- after an advance every handle is live where it was, with the same deadline; its word stays or gets the fired bit
pub advanced_keeps_due : (s : Set) (N : ℕ) (l : List ℕ) (h : Handle) → Still Fires (live_at s h) (live_at (advanced_of s N l).set h)
advanced_keeps_due s N l h =
    live_rel (Still Fires) (still_same Fires fires_changes none none refl) s (advanced_of s N l).set h
    (advanced_each (StaysFor Fires) (stays_order Fires fires_changes) rung_stays s N l h.place.0 h.uses)

-- after a close every handle is live where it was, with the same deadline; its word stays or gets the invalid bit
pub closed_keeps_due : (s : Set) (h : Handle) → Still Marks (live_at s h) (live_at (closed_of s) h)
closed_keeps_due s h =
    live_rel (Still Marks) (still_same Marks marks_changes none none refl) s (closed_of s) h
    (closed_each (StaysFor Marks) (stays_order Marks marks_changes) marked_stays s h.place.0 h.uses)
