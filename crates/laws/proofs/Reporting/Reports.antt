-- Whom a call reports: only handles that were live when it was made. So a timer that was cancelled never goes off.
-- Assumes nothing.
use mathlib.Core.Path.{◌≡◌, refl, sym, ◌∙◌, ap, subst}
use mathlib.Core.Bool.{Bool, true, false}
use mathlib.Core.Option.{none, some}
use mathlib.Core.List.{List, [], ◌∷◌}
use Prim.Native.Nat.{ℕ, ◌<◌}
use lib.ListN.{get_or}
use Rattle.theory.proofs.Tests.{none_some, true_false}
use Rattle.refusals.specs.Answer.{Answer, accepted, is_accepted, Outcome, kept}
use Rattle.heap.specs.Capacity.{cap}
use Rattle.state.specs.declared.Set.{Set}
use Rattle.state.specs.declared.Handle.{Handle}
use Rattle.state.specs.State.{timer_at, fresh_of}
use Rattle.state.specs.Handles.{handle_word}
use Rattle.state.proofs.Handles.{place_ranged, word_apart}
use Rattle.timers.specs.declared.Call.{Call}
use Rattle.timers.specs.declared.Call.TheVariants as C
use Rattle.moves.specs.Rules.{drained_of, Ring, advanced_of}
use Rattle.timers.specs.Calls.{Value, nothing, handle, counts, wake, polled, time, Lent, timing_of, live_at, lent, rang, step, after, cancel_of, next_wake_of, poll_of}
use Rattle.refusals.proofs.Refusing.{never}
use Rattle.laws.specs.Words.{Fit}
use Rattle.laws.specs.Advanced.{Handled}
use Rattle.laws.specs.Reports.{Reports, OfLive}
use Rattle.laws.proofs.Handles.Naming.{names_same, live_in_range, live_told}
use Rattle.laws.proofs.Handles.ByHandle.{handle_at, drained_keeps}
use Rattle.laws.proofs.Soundness.DrainSound.{drained_sound}
use Rattle.laws.proofs.Reporting.AdvancedList.{advanced_words}
use Rattle.laws.proofs.Soundness.StepSound.{after_fit, fresh_fit}
use Rattle.laws.proofs.AnyCall.CallCases.{sound_by, alive_by, add_by, reset_by, cancel_by, drain_by, close_by, tick_by, restart_by, advance_by, turn_by}
use Rattle.laws.proofs.Handles.Ever.{cancelled_stays_dead}

-- the word of a live timer's handle is that of a live handle
handled_live : (s : Set) (w : ℕ) → Handled s w → OfLive s w
handled_live s w k = record {
  whose = handle_at s k.at;
  timing = record { word = k.state_word; due = k.due };
  is_live = live_in_range s (handle_at s k.at) k.in_range ∙ names_same (timer_at s k.at) (timer_at s k.at).uses refl ∙ ap timing_of k.live;
  is_word = k.is_word;
}

-- a handle that is live after a drain was so before
drained_live : (s : Set) (w : ℕ) → OfLive (drained_of s) w → OfLive s w
drained_live s w k = record { whose = k.whose; timing = k.timing; is_live = sym (drained_keeps s k.whose) ∙ k.is_live; is_word = k.is_word }

-- an answer that is no counts
abbrev Silent : Answer Value → Type 0
Silent a = (r p : ℕ) → a ≡ accepted (counts r p) → ⊥

-- a refusal is one
refused_silent : (a : Answer Value) → is_accepted a ≡ false → Silent a
refused_silent a q r p e = never q e

abbrev is_counts : Value → Bool
is_counts nothing = false
is_counts (handle h) = false
is_counts (counts r p) = true
is_counts (wake o) = false
is_counts (polled n) = false
is_counts (time t) = false

-- and a value of another kind is one
other_silent : (v : Value) → is_counts v ≡ false → Silent (accepted v)
other_silent v n r p e = let z : v ≡ counts r p = cc in true_false (ap is_counts z) n

-- with an answer, every word in a list, before the count of the reports, is that of a live handle
abbrev AllLive : Set → List ℕ → Answer Value → Type 0
AllLive s l a = (r p : ℕ) → a ≡ accepted (counts r p) → (i : ℕ) → i < r → OfLive s (get_or l i 0)

silent_live : (s : Set) (l : List ℕ) (a : Answer Value) → Silent a → AllLive s l a
silent_live s l a q r p e i h = absurd (q r p e)

rang_live : (s : Set) (x : Ring) → ((i : ℕ) → i < x.reported → OfLive s (get_or x.list i 0)) → AllLive s x.list (rang x).answer
rang_live s x f r p e i h = let z : r ≡ x.reported = cc in f i (subst (λ (n : ℕ). i < n) z h)

-- a call that answers no counts
abbrev Quiet : Outcome Set Value → Type 0
Quiet o = Silent o.answer

-- what an advance or a turn leaves in the list
abbrev Rings : Set → Outcome Lent Value → Type 0
Rings s o = AllLive s o.state.list o.answer

module _ (s : Set) where
  no : (a : Answer Value) → is_accepted a ≡ false → Quiet (kept s a)
  no = refused_silent

  refused_live : (l : List ℕ) (a : Answer Value) → is_accepted a ≡ false → Rings s (kept (lent s l) a)
  refused_live l a q = silent_live s l a (refused_silent a q)

  -- no call but an advance and a turn answers counts, and these report live handles alone
  all_live : Fit s → (c : Call) (l : List ℕ) → Rings s (step s c l)
  unfolding step next_wake_of poll_of
  all_live f (C.Add d) l = silent_live s l _ (add_by Quiet s no d (λ _ p _. other_silent _ refl))
  all_live f (C.Reset h d) l = silent_live s l _ (reset_by Quiet s no h d (λ _ t _. other_silent _ refl))
  all_live f (C.Cancel h) l = silent_live s l _ (cancel_by Quiet s no h (λ _ t _. other_silent _ refl))
  all_live f C.Drain l = silent_live s l _ (drain_by Quiet s no (λ _. other_silent _ refl))
  all_live f (C.Advance N) l =
      advance_by (Rings s) s l (refused_live l) N
      (λ _ m. rang_live s (advanced_of s N l) (λ i h. handled_live s _ (advanced_words s N l f.sound m i h)))
  all_live f (C.Turn N) l =
      turn_by (Rings s) s l (refused_live l) N
      (λ a m. let o = drained_sound s f.sound a.still_open f.words in rang_live s (advanced_of (drained_of s) N l)
      (λ i h. drained_live s _ (handled_live (drained_of s) _ (advanced_words (drained_of s) N l o m i h))))
  all_live f C.NextWake l = silent_live s l _ (sound_by Quiet s s no _ (λ _. other_silent _ refl))
  all_live f (C.Poll h) l = silent_live s l _ (sound_by Quiet s s no _ (λ _. alive_by Quiet s no h _ (λ t _. other_silent _ refl)))
  all_live f C.Close l = silent_live s l _ (close_by Quiet s no (λ _. other_silent _ refl))
  all_live f (C.Tick h p period N) l = silent_live s l _ (tick_by Quiet s no h p period N (λ _ t _ _ d _. other_silent _ refl))
  all_live f (C.Restart h period N) l = silent_live s l _ (restart_by Quiet s no h period N (λ _ t _ d _. other_silent _ refl))

-- what a call reports is the word of a handle that was live when the call was made
pub reported_live : (s : Set) → Fit s → (c : Call) (l : List ℕ) (w : ℕ) → Reports s c l w → OfLive s w
reported_live s f c l w x = subst (OfLive s) x.stands (all_live s f c l x.reported x.popped x.answers x.at x.counted)

-- so a dead handle is not reported
pub dead_unreported : (s : Set) → Fit s → (h : Handle) → h.place.0 < cap → live_at s h ≡ none → (c : Call) (l : List ℕ) → Reports s c l (handle_word h) → ⊥
dead_unreported s f h b e c l x =
    let k = reported_live s f c l (handle_word h) x in
    let o = live_told s k.whose k.timing k.is_live in
    let q = word_apart h k.whose (place_ranged h.place.0 b) (place_ranged k.whose.place.0 o.in_range) k.is_word in
    none_some e (subst (λ (y : Handle). live_at s y ≡ some k.timing) (sym q) k.is_live)

-- A CANCELLED TIMER NEVER GOES OFF: after an accepted cancel no call reports its handle, whatever calls come between
pub cancelled_unreported : (s : Set) → Fit s → (h : Handle) (v : Value) → (cancel_of s h).answer ≡ accepted v
    → (cs : List (Call × List ℕ)) (c : Call) (l : List ℕ) → Reports (after cs (cancel_of s h).state) c l (handle_word h) → ⊥
unfolding step
cancelled_unreported s f h v e cs =
    dead_unreported (after cs (cancel_of s h).state) (after_fit ((C.Cancel h, []) ∷ cs) s f) h
    (cancel_by (λ o. o.answer ≡ accepted v → h.place.0 < cap) s (λ m r q. never r q) h (λ _ t q _. (live_told s h t q).in_range) e)
    (cancelled_stays_dead s h v f.words.long e cs)

-- and so from a fresh set, whatever calls came before the cancel
pub cancelled_never_goes_off : (before : List (Call × List ℕ)) (h : Handle) (v : Value) → (cancel_of (after before fresh_of) h).answer ≡ accepted v
    → (cs : List (Call × List ℕ)) (c : Call) (l : List ℕ) → Reports (after cs (cancel_of (after before fresh_of) h).state) c l (handle_word h) → ⊥
cancelled_never_goes_off before = cancelled_unreported (after before fresh_of) (after_fit before fresh_of fresh_fit)
