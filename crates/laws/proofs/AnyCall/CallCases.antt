-- The two ways that a call can go: refused, and the set handed back, or let through, and what the rule makes of it. What holds of
-- both outcomes holds of the call.
-- Assumes nothing.
use mathlib.Core.Path.{◌≡◌, refl}
use mathlib.Core.Bool.{Bool, true, false, cond}
use mathlib.Core.Option.{Option, none, some}
use mathlib.Core.List.{List}
use Prim.Native.Nat.{ℕ, ◌≤◌}
use lib.Dec.{leb}
use lib.ListN.{length}
use borrow.Author.Tests.{leb-true}
use Rattle.refusals.specs.declared.fault.Fault.{Fault}
use Rattle.refusals.specs.declared.Refusal.TheVariants.{Unsound, Closed, NotFired, ShortList}
use Rattle.refusals.specs.Answer.{Answer, accepted, refused, unsound, is_accepted, Outcome, kept}
use Rattle.theory.specs.Chain.{clear}
use Rattle.heap.specs.Capacity.{cap}
use Rattle.word.specs.Rules as Word
use Rattle.interval.specs.declared.Policy.{Policy}
use Rattle.interval.specs.Rules.{tick_of, restart_of}
use Rattle.state.specs.declared.Life.TheVariants.{Live, Cancelled}
use Rattle.state.specs.declared.Set.{Set}
use Rattle.state.specs.declared.Handle.{Handle}
use Rattle.state.specs.Faults.{fault_of, sound_of}
use Rattle.moves.specs.Rules.{touched_of, lowest_free, drained_of, advanced_of, closed_of}
use Rattle.timers.specs.Calls as Calls
use Rattle.timers.specs.declared.Timing.{Timing}
use Rattle.timers.specs.Calls.{Value, Lent, judged, gives, refusing, guarded, opened, live_at, alive, added_at, reset_to, lent, rang, roomy, ticked_by, restarted_by}
use Rattle.laws.proofs.Handles.ByHandle.{handle_at}

-- both tests have let a call through
pub record LetIn (s : Set) : Type 0 where
  pub sound : sound_of s ≡ true
  pub still_open : s.closed ≡ false

module _ {S : Type 0} (P : Outcome S Value → Type 0) (s : Set) (k : S) (no : (a : Answer Value) → is_accepted a ≡ false → P (kept k a)) where
  -- behind the test of soundness
  pub sound_by : (o : Outcome S Value) → (sound_of s ≡ true → P o) → P (guarded s k o)
  unfolding guarded sound_of
  sound_by o f = go (fault_of s) f
    where
      go : (x : Option Fault) → (clear x ≡ true → P o) → P (judged x o (λ y. refusing k (Unsound y)))
      go none f = f refl
      go (some y) f = no _ refl

  -- behind both tests
  open_by : (o : Outcome S Value) → (LetIn s → P o) → P (guarded s k (opened s k o))
  open_by o f = sound_by (opened s k o) (λ q. go s.closed refl q)
    where
      go : (b : Bool) → s.closed ≡ b → sound_of s ≡ true → P (cond b (refusing k Closed) o)
      go true e q = no _ refl
      go false e q = f (record { sound = q; still_open = e })

module _ (P : Outcome Set Value → Type 0) (s : Set) (no : (a : Answer Value) → is_accepted a ≡ false → P (kept s a)) where
  -- where a live handle is asked for
  pub alive_by : (h : Handle) (f : Timing → Outcome Set Value) → ((t : Timing) → live_at s h ≡ some t → P (f t)) → P (alive s (live_at s h) f)
  alive_by h f g = go (live_at s h) refl
    where
      go : (x : Option Timing) → live_at s h ≡ x → P (alive s x f)
      go none e = no _ refl
      go (some t) e = g t e

  -- an add takes the lowest free place
  pub add_by : (d : ℕ) → (LetIn s → (p : ℕ) → lowest_free s ≡ some p → P (gives (touched_of s p (Live 0 d)) (Calls.handle (handle_at s p)))) → P (Calls.add_of s d)
  unfolding Calls.add_of
  add_by d f = open_by P s s no (added_at s d (lowest_free s)) (λ a. go (lowest_free s) (f a))
    where
      go : (x : Option ℕ) → ((p : ℕ) → x ≡ some p → P (gives (touched_of s p (Live 0 d)) (Calls.handle (handle_at s p)))) → P (added_at s d x)
      go none f = no _ refl
      go (some p) f = f p refl

  -- a reset, of a live timer
  pub reset_by : (h : Handle) (d : ℕ) → (LetIn s → (t : Timing) → live_at s h ≡ some t → P (gives (reset_to s h d t) Calls.nothing)) → P (Calls.reset_of s h d)
  unfolding Calls.reset_of
  reset_by h d f = open_by P s s no _ (λ a. alive_by h _ (f a))

  -- a cancel, of a live timer
  pub cancel_by : (h : Handle)
      → (LetIn s → (t : Timing) → live_at s h ≡ some t → P (gives (touched_of s h.place.0 (Cancelled t.word)) Calls.nothing)) → P (Calls.cancel_of s h)
  unfolding Calls.cancel_of
  cancel_by h f = open_by P s s no _ (λ a. alive_by h _ (f a))

  -- a drain
  pub drain_by : (LetIn s → P (gives (drained_of s) Calls.nothing)) → P (Calls.drain_of s)
  unfolding Calls.drain_of
  drain_by f = open_by P s s no _ f

  -- a close
  pub close_by : (LetIn s → P (gives (closed_of s) Calls.nothing)) → P (Calls.close_of s)
  unfolding Calls.close_of
  close_by f = open_by P s s no _ f

  -- a next wake keeps the set
  pub wake_by_lem : ((v : Value) → P (gives s v)) → P (Calls.next_wake_of s)
  unfolding Calls.next_wake_of
  wake_by_lem f = sound_by P s s no _ (λ _. f _)

  -- and so does a poll
  pub poll_by_lem : (h : Handle) → ((v : Value) → P (gives s v)) → P (Calls.poll_of s h)
  unfolding Calls.poll_of
  poll_by_lem h f = sound_by P s s no _ (λ _. alive_by h _ (λ t e. f _))

  -- a tick, of a live timer that has fired, where the interval's rule has a next deadline
  pub tick_by : (h : Handle) (p : Policy) (period N : ℕ)
      → (LetIn s → (t : Timing) → live_at s h ≡ some t → Word.fired_in t.word ≡ true → (d : ℕ) → tick_of p t.due period N ≡ accepted d
      → P (gives (reset_to s h d t) (Calls.time t.due)))
      → P (Calls.tick_at s h p period N)
  unfolding Calls.tick_at
  tick_by h p period N f = open_by P s s no _ (λ a. alive_by h _ (λ t e. go t (Word.fired_in t.word) (tick_of p t.due period N) (f a t e)))
    where
      go : (t : Timing) (b : Bool) (x : Answer ℕ) → (b ≡ true → (d : ℕ) → x ≡ accepted d → P (gives (reset_to s h d t) (Calls.time t.due)))
          → P (cond b (ticked_by s h t x) (refusing s NotFired))
      go t true (accepted d) f = f refl d refl
      go t true (refused n) f = no (refused n) refl
      go t true (unsound y) f = no (unsound y) refl
      go t false x f = no _ refl

  -- an interval reset, of a live timer, where the rule has a deadline
  pub restart_by : (h : Handle) (period N : ℕ)
      → (LetIn s → (t : Timing) → live_at s h ≡ some t → (d : ℕ) → restart_of period N ≡ accepted d → P (gives (reset_to s h d t) Calls.nothing))
      → P (Calls.restart_at s h period N)
  unfolding Calls.restart_at
  restart_by h period N f = open_by P s s no _ (λ a. alive_by h _ (λ t e. go t (restart_of period N) (f a t e)))
    where
      go : (t : Timing) (x : Answer ℕ) → ((d : ℕ) → x ≡ accepted d → P (gives (reset_to s h d t) Calls.nothing)) → P (restarted_by s h t x)
      go t (accepted d) f = f d refl
      go t (refused n) f = no (refused n) refl
      go t (unsound y) f = no (unsound y) refl

module _ (P : Outcome Lent Value → Type 0) (s : Set) (l : List ℕ) (no : (a : Answer Value) → is_accepted a ≡ false → P (kept (lent s l) a)) where
  -- where room is asked for
  roomy_by : (o : Outcome Lent Value) → (LetIn s → cap ≤ length l → P o) → P (guarded s (lent s l) (opened s (lent s l) (roomy s l o)))
  roomy_by o f = open_by P s (lent s l) no (roomy s l o) (λ a. go (leb cap (length l)) (λ e. f a (leb-true cap (length l) e)))
    where
      go : (b : Bool) → (b ≡ true → P o) → P (cond b o (refusing (lent s l) ShortList))
      go true f = f refl
      go false f = no _ refl

  -- an advance, with room in the lent list
  pub advance_by : (N : ℕ) → (LetIn s → cap ≤ length l → P (rang (advanced_of s N l))) → P (Calls.advance_of s N l)
  unfolding Calls.advance_of
  advance_by N f = roomy_by (rang (advanced_of s N l)) f

  -- a turn, with room in the lent list
  pub turn_by : (N : ℕ) → (LetIn s → cap ≤ length l → P (rang (advanced_of (drained_of s) N l))) → P (Calls.turn_of s N l)
  unfolding Calls.turn_of
  turn_by N f = roomy_by (rang (advanced_of (drained_of s) N l)) f
