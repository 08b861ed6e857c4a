-- A close marks whom it meets: the word of a live timer that waited, or named a slot, has the invalid bit afterwards. Each turn of a
-- close leaves a timer as it was or marks it, and after a close nobody waits and nobody names a slot, so such a timer is not as it was.
-- Assumes nothing.
use mathlib.Core.Path.{◌≡◌, refl, sym, ◌∙◌, ap, subst}
use mathlib.Core.Logic.{◌⊎◌, inl, inr, ⊎_elim}
use mathlib.Core.Bool.{true}
use mathlib.Core.Option.{some}
use Prim.Native.Nat.{ℕ}
use native.Mathlib.Omega.{arith}
use Rattle.std.specs.Prelude.{None}
use Rattle.theory.proofs.Tests.{true_false, none_some}
use Rattle.heap.specs.declared.Entry.{Entry}
use Rattle.word.specs.Rules.{invalid_of}
use Rattle.state.specs.declared.Life.{Life}
use Rattle.state.specs.declared.Life.TheVariants.{Free, Live, Cancelled, Retired}
use Rattle.state.specs.declared.Timer.{Timer}
use Rattle.state.specs.declared.Set.{Set}
use Rattle.state.specs.declared.Handle.{Handle}
use Rattle.state.specs.State.{timer_at, is_waiting}
use Rattle.state.specs.Sound.{Sound}
use Rattle.moves.specs.Rules.{marked_life, closed_of}
use Rattle.timers.specs.declared.Timing.{Timing}
use Rattle.timers.specs.Calls.{timing_of, live_at}
use Rattle.laws.specs.EntryOf.{held_entry, entry_of, waiting}
use Rattle.laws.proofs.Handles.Naming.{names_same, live_in_range, live_told}
use Rattle.laws.proofs.PlaceByPlace.Places.{Steps, Each, closed_steps}
use Rattle.laws.proofs.Soundness.ClosedSound.{closed_shut}

-- a timer is as it was, or is marked, with the use number that it had
abbrev pub Met : Timer → Timer → Type 0
Met t r = (r ≡ t) ⊎ ((r.uses ≡ t.uses) × (r.life ≡ marked_life t.life))

-- a second mark changes nothing
marked_twice : (l : Life) → marked_life (marked_life l) ≡ marked_life l
marked_twice Free = refl
marked_twice (Live w d) = let e : invalid_of (invalid_of w) ≡ invalid_of w = omega arith in ap (λ (v : ℕ). Live v d) e
marked_twice (Cancelled w) = let e : invalid_of (invalid_of w) ≡ invalid_of w = omega arith in ap Cancelled e
marked_twice Retired = refl

-- this is such a relation of timers as a close's walks ask for
met_steps : Steps Met
met_steps = record {
  stays = λ t. inl refl;
  then = λ a b c p q. ⊎_elim
      (λ e. subst (λ (t : Timer). Met t c) e q)
      (λ e. ⊎_elim
      (λ f. inr (ap (λ (t : Timer). t.uses) f ∙ e.0, ap (λ (t : Timer). t.life) f ∙ e.1))
      (λ f. inr (f.0 ∙ e.0, f.1 ∙ ap marked_life e.1 ∙ marked_twice a.life))
      q)
      p;
}

-- a close leaves every timer as it was, or marks it
closed_met : (s : Set) → Each Met s (closed_of s)
closed_met = closed_steps Met met_steps (λ t w. inr (refl, refl))

module _ (s : Set) (ok : Sound s) (h : Handle) (t : Timing) (live : live_at s h ≡ some t) where
  -- a timer that waited, or named a slot, is not as it was
  moved : (waiting s h.place.0 ≡ true) ⊎ (((timer_at s h.place.0).held ≡ None) → ⊥)
      → timer_at (closed_of s) h.place.0 ≡ timer_at s h.place.0 → ⊥
  moved r e =
      let u = (closed_shut s ok).unused h.place.0 (live_told s h t live).in_range in
      ⊎_elim
      (λ w. true_false w (ap (λ (x : Timer). is_waiting x.waiting) (sym e) ∙ ap is_waiting u.still))
      (λ n. n (ap (λ (x : Timer). x.held) (sym e) ∙ u.bare))
      r

  -- a live timer that waits, or names a slot, has the invalid bit after a close
  pub closed_marks : (waiting s h.place.0 ≡ true) ⊎ (((timer_at s h.place.0).held ≡ None) → ⊥)
      → live_at (closed_of s) h ≡ some (record { word = invalid_of t.word; due = t.due })
  closed_marks r =
      let o = live_told s h t live in
      ⊎_elim
      (λ e. absurd (moved r e))
      (λ m. live_in_range (closed_of s) h o.in_range
      ∙ names_same (timer_at (closed_of s) h.place.0) h.uses (m.0 ∙ o.same_uses)
      ∙ ap timing_of (m.1 ∙ ap marked_life o.is_live))
      (closed_met s h.place.0)

  -- so has one with an entry
  pub closed_marks_entry : (e : Entry) → entry_of s h.place.0 ≡ some e
      → live_at (closed_of s) h ≡ some (record { word = invalid_of t.word; due = t.due })
  closed_marks_entry e f = closed_marks (inr (λ n. none_some (ap (held_entry s.heap) n) f))
