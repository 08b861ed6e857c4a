-- What each call changes of what handles name, refused or not: its own handle as the rule says, where it is accepted, and no other.
-- Assumes nothing.
use mathlib.Core.Path.{◌≡◌, refl, sym, ap, subst}
use mathlib.Core.Option.{Option, none, some}
use mathlib.Core.List.{List}
use Prim.Native.Nat.{ℕ}
use lib.ListN.{length}
use Rattle.refusals.specs.Answer.{accepted}
use Rattle.heap.specs.Capacity.{cap}
use Rattle.word.specs.Rules as Word
use Rattle.interval.specs.declared.Policy.{Policy}
use Rattle.interval.specs.Rules.{restart_of}
use Rattle.state.specs.declared.Life.TheVariants.{Live, Cancelled}
use Rattle.state.specs.declared.Set.{Set}
use Rattle.state.specs.declared.Handle.{Handle}
use Rattle.moves.specs.Rules.{touched_of, drained_of, advanced_of}
use Rattle.timers.specs.declared.Timing.{Timing}
use Rattle.timers.specs.Calls.{Value, handle, live_at, reset_to, add_of, reset_of, cancel_of, drain_of, advance_of, turn_of, next_wake_of, poll_of, close_of, tick_at, restart_at}
use Rattle.refusals.proofs.Refusing.{never}
use Rattle.laws.specs.ByHandle.{Fires, Marks, Still, ResetTo, TickedTo}
use Rattle.laws.proofs.Handles.Still.{still_same, fires_changes, marks_changes}
use Rattle.laws.proofs.Handles.ByHandle.{handle_at, live_others, live_touched, added_was_dead, added_lives, added_others, drained_keeps, advanced_keeps_due, closed_keeps_due}
use Rattle.laws.proofs.AnyCall.CallCases.{add_by, reset_by, cancel_by, drain_by, close_by, wake_by_lem, poll_by_lem, tick_by, restart_by, advance_by, turn_by}

module _ (s : Set) where
  -- add: the handle that it answers was dead, and is live with word 0 and the deadline
  pub add_lives : (d : ℕ) (h : Handle) → length s.timers ≡ cap → (add_of s d).answer ≡ accepted (handle h)
      → (live_at s h ≡ none) × (live_at (add_of s d).state h ≡ some (record { word = 0; due = d }))
  add_lives d h n =
      add_by (λ o. o.answer ≡ accepted (handle h) → (live_at s h ≡ none) × (live_at o.state h ≡ some (record { word = 0; due = d }))) s
      (λ m r e. never r e) d
      (λ _ p f e. let q : handle_at s p ≡ h = cc in
      subst (λ (k : Handle). (live_at s k ≡ none) × (live_at (touched_of s p (Live 0 d)) k ≡ some (record { word = 0; due = d }))) q
      (added_was_dead s p d f, added_lives s p d f n))

  -- every handle but the one that it answers names what it named
  pub add_others : (d : ℕ) (k : Handle) → ((add_of s d).answer ≡ accepted (handle k) → ⊥) → live_at (add_of s d).state k ≡ live_at s k
  add_others d k =
      add_by (λ o. (o.answer ≡ accepted (handle k) → ⊥) → live_at o.state k ≡ live_at s k) s (λ m r _. refl) d
      (λ _ p f n. added_others s p d f k (λ e. n (ap (λ (x : Handle). accepted (handle x)) (sym e))))

  reset_to_lem : (h : Handle) (d : ℕ) (t : Timing) → length s.timers ≡ cap → live_at s h ≡ some t → ResetTo s (reset_to s h d t) h d
  reset_to_lem h d t n e = record { was = t; was_live = e; is_live = live_touched s h t (Live (Word.reset_of t.word) d) n e }

  -- reset: its handle
  pub reset_names : (h : Handle) (d : ℕ) (v : Value) → length s.timers ≡ cap → (reset_of s h d).answer ≡ accepted v → ResetTo s (reset_of s h d).state h d
  reset_names h d v n =
      reset_by (λ o. o.answer ≡ accepted v → ResetTo s o.state h d) s (λ m r e. never r e) h d (λ _ t l _. reset_to_lem h d t n l)

  -- every other handle names what it named
  pub reset_others : (h : Handle) (d : ℕ) (k : Handle) → (k ≡ h → ⊥) → live_at (reset_of s h d).state k ≡ live_at s k
  reset_others h d k n = reset_by (λ o. live_at o.state k ≡ live_at s k) s (λ m r. refl) h d (λ _ t l. live_others s h k t _ l n)

  -- cancel: its handle is dead
  pub cancel_kills : (h : Handle) (v : Value) → length s.timers ≡ cap → (cancel_of s h).answer ≡ accepted v → live_at (cancel_of s h).state h ≡ none
  cancel_kills h v n =
      cancel_by (λ o. o.answer ≡ accepted v → live_at o.state h ≡ none) s (λ m r e. never r e) h
      (λ _ t l _. live_touched s h t (Cancelled t.word) n l)

  -- every other handle names what it named
  pub cancel_others : (h k : Handle) → (k ≡ h → ⊥) → live_at (cancel_of s h).state k ≡ live_at s k
  cancel_others h k n = cancel_by (λ o. live_at o.state k ≡ live_at s k) s (λ m r. refl) h (λ _ t l. live_others s h k t _ l n)

  -- tick: its handle
  pub tick_names : (h : Handle) (p : Policy) (period N : ℕ) (v : Value) → length s.timers ≡ cap → (tick_at s h p period N).answer ≡ accepted v
      → TickedTo s (tick_at s h p period N).state h p period N v
  unfolding reset_to_lem
  tick_names h p period N v n =
      tick_by (λ o. o.answer ≡ accepted v → TickedTo s o.state h p period N v) s (λ m r e. never r e) h p period N
      (λ _ t l f d q e. record { next = d; reset = reset_to_lem h d t n l; had_fired = f; by_rule = q; answers_old = cc })

  -- every other handle names what it named
  pub tick_others : (h : Handle) (p : Policy) (period N : ℕ) (k : Handle) → (k ≡ h → ⊥) → live_at (tick_at s h p period N).state k ≡ live_at s k
  tick_others h p period N k n =
      tick_by (λ o. live_at o.state k ≡ live_at s k) s (λ m r. refl) h p period N (λ _ t l f d q. live_others s h k t _ l n)

  -- interval reset: its handle
  pub restart_names : (h : Handle) (period N : ℕ) (v : Value) → length s.timers ≡ cap → (restart_at s h period N).answer ≡ accepted v
      → (d : ℕ) × (restart_of period N ≡ accepted d) × ResetTo s (restart_at s h period N).state h d
  restart_names h period N v n =
      restart_by (λ o. o.answer ≡ accepted v → (d : ℕ) × (restart_of period N ≡ accepted d) × ResetTo s o.state h d) s
      (λ m r e. never r e) h period N (λ _ t l d q e. (d, q, reset_to_lem h d t n l))

  -- every other handle names what it named
  pub restart_others : (h : Handle) (period N : ℕ) (k : Handle) → (k ≡ h → ⊥) → live_at (restart_at s h period N).state k ≡ live_at s k
  restart_others h period N k n =
      restart_by (λ o. live_at o.state k ≡ live_at s k) s (λ m r. refl) h period N (λ _ t l d q. live_others s h k t _ l n)

  -- drain: every handle names what it named
  pub drain_keeps : (h : Handle) → live_at (drain_of s).state h ≡ live_at s h
  drain_keeps h = drain_by (λ o. live_at o.state h ≡ live_at s h) s (λ m r. refl) (λ _. drained_keeps s h)

  -- advance: every handle is live where it was, with its deadline; its word stays or gets the fired bit
  pub advance_keeps_due : (N : ℕ) (l : List ℕ) (h : Handle) → Still Fires (live_at s h) (live_at (advance_of s N l).state.set h)
  advance_keeps_due N l h =
      advance_by (λ o. Still Fires (live_at s h) (live_at o.state.set h)) s l (λ m r. still_same Fires fires_changes _ _ refl) N
      (λ _ _. advanced_keeps_due s N l h)

  -- turn: as the advance
  pub turn_keeps_due : (N : ℕ) (l : List ℕ) (h : Handle) → Still Fires (live_at s h) (live_at (turn_of s N l).state.set h)
  turn_keeps_due N l h =
      turn_by (λ o. Still Fires (live_at s h) (live_at o.state.set h)) s l (λ m r. still_same Fires fires_changes _ _ refl) N
      (λ _ _. subst (λ (x : Option Timing). Still Fires x (live_at (advanced_of (drained_of s) N l).set h)) (drained_keeps s h)
      (advanced_keeps_due (drained_of s) N l h))

  -- close: every handle is live where it was, with its deadline; its word stays or gets the invalid bit
  pub close_keeps_due : (h : Handle) → Still Marks (live_at s h) (live_at (close_of s).state h)
  close_keeps_due h =
      close_by (λ o. Still Marks (live_at s h) (live_at o.state h)) s (λ m r. still_same Marks marks_changes _ _ refl) (λ _. closed_keeps_due s h)

  -- next wake hands back the set
  pub wake_keeps : (next_wake_of s).state ≡ s
  wake_keeps = wake_by_lem (λ o. o.state ≡ s) s (λ m r. refl) (λ v. refl)

  -- and so does poll
  pub poll_keeps : (h : Handle) → (poll_of s h).state ≡ s
  poll_keeps h = poll_by_lem (λ o. o.state ≡ s) s (λ m r. refl) h (λ v. refl)
