-- What it means for a handle to be given out and to be past: an add gives one that was not given out, a cancel makes its handle past,
-- a live handle was given out, and one that was given out and is dead is past.
-- Assumes nothing.
use mathlib.Core.Path.{◌≡◌, refl, sym, ◌∙◌, ap}
use mathlib.Core.Logic.{inl, inr, ⊎_elim}
use mathlib.Core.Bool.{true}
use mathlib.Core.Option.{none, some}
use Prim.Native.Nat.{ℕ, ◌<◌}
use native.Mathlib.Omega.{arith}
use lib.ListN.{length}
use Rattle.theory.proofs.Tests.{true_false, none_some}
use Rattle.heap.specs.Capacity.{cap}
use Rattle.state.specs.declared.Life.{Life}
use Rattle.state.specs.declared.Life.TheVariants.{Free, Live, Cancelled, Retired}
use Rattle.state.specs.declared.Set.{Set}
use Rattle.state.specs.declared.Handle.{Handle}
use Rattle.state.specs.State.{timer_at}
use Rattle.moves.specs.Rules.{touched_of, lowest_free}
use Rattle.timers.specs.declared.Timing.{Timing}
use Rattle.timers.specs.Calls.{timing_of, live_at}
use Rattle.laws.specs.Past.{is_over, is_taken, Given, Past}
use Rattle.laws.proofs.AnyCall.Found.{lowest_free_lem}
use Rattle.laws.proofs.Handles.Naming.{names_same, names_other, live_in_range, live_none, live_told}
use Rattle.laws.proofs.Handles.ByHandle.{handle_at, touched_here}

over_dead : (l : Life) → is_over l ≡ true → timing_of l ≡ none
over_dead Free e = refl
over_dead (Live w d) e = true_false e refl
over_dead (Cancelled w) e = refl
over_dead Retired e = refl

-- a handle that is past is dead
pub past_dead : (s : Set) (h : Handle) → Past s h → live_at s h ≡ none
past_dead s h x = live_none s h (⊎_elim
    (λ b. names_other (timer_at s h.place.0) h.uses (λ e. omega arith))
    (λ q. names_same (timer_at s h.place.0) h.uses (sym q.0) ∙ over_dead (timer_at s h.place.0).life q.1) x)

-- a live handle was given out
pub live_given : (s : Set) (h : Handle) (t : Timing) → live_at s h ≡ some t → Given s h
live_given s h t e = let o = live_told s h t e in inr (sym o.same_uses, ap is_taken o.is_live)

-- a handle that was given out and is dead is past
pub given_dead : (s : Set) (h : Handle) → h.place.0 < cap → Given s h → live_at s h ≡ none → Past s h
given_dead s h b x d = ⊎_elim (λ l. inl l) (λ q. inr (q.0, go (timer_at s h.place.0).life q.1 (names q))) x
  where
    names : (h.uses ≡ (timer_at s h.place.0).uses) × (is_taken (timer_at s h.place.0).life ≡ true) → timing_of (timer_at s h.place.0).life ≡ none
    names q = sym (names_same (timer_at s h.place.0) h.uses (sym q.0)) ∙ sym (live_in_range s h b) ∙ d

    go : (l : Life) → is_taken l ≡ true → timing_of l ≡ none → is_over l ≡ true
    go Free t n = true_false t refl
    go (Live w d) t n = absurd (none_some n refl)
    go (Cancelled w) t n = refl
    go Retired t n = refl

-- an add's handle was not given out
pub added_new : (s : Set) (p : ℕ) → lowest_free s ≡ some p → Given s (handle_at s p) → ⊥
added_new s p e = ⊎_elim (λ b. omega arith) (λ q. true_false q.1 (ap is_taken (lowest_free_lem s p e)))

-- a cancel's handle is past
pub cancelled_past : (s : Set) (h : Handle) (t : Timing) → length s.timers ≡ cap → live_at s h ≡ some t
    → Past (touched_of s h.place.0 (Cancelled t.word)) h
cancelled_past s h t n e =
    let o = live_told s h t e in
    let r = touched_here s h.place.0 (Cancelled t.word) n o.in_range in
    inr (sym (r.0 ∙ o.same_uses), ap is_over r.1)
