-- After any call, refused or not, the set is as the ledger then says.
-- Assumes nothing.
use mathlib.Core.Path.{◌≡◌, refl, sym, ap, subst, ◌∙◌}
use mathlib.Core.Bool.{true, false}
use mathlib.Core.Option.{some}
use mathlib.Core.List.{List, filter_map}
use Prim.Native.Nat.{ℕ, ◌+◌, ◌≤◌, ◌<◌, ◌^◌}
use native.Mathlib.Omega.{arith}
use lib.ListN.{length, take}
use Rattle.theory.proofs.Tests.{true_false}
use Rattle.refusals.specs.Answer.{Answer, accepted, refused, unsound, is_accepted, value_or, Outcome, kept}
use Rattle.refusals.proofs.Times.{timely_value}
use Rattle.heap.specs.Capacity.{cap}
use Rattle.word.specs.Rules as Word
use Rattle.interval.specs.declared.Policy.{Policy}
use Rattle.interval.specs.Rules.{tick_of, restart_of}
use Rattle.state.specs.declared.Set.{Set}
use Rattle.state.specs.declared.Handle.{Handle}
use Rattle.state.specs.Handles.{named_by}
use Rattle.state.specs.Sound.{Sound}
use Rattle.moves.specs.Rules.{touched_of, drained_of, Ring, advanced_of}
use Rattle.timers.specs.declared.Call.{Call}
use Rattle.timers.specs.declared.Call.TheVariants as C
use Rattle.timers.specs.Values.{Value}
use Rattle.timers.specs.declared.Timing.{Timing}
use Rattle.timers.specs.Calls.{live_at, reset_to, Lent, lent, with_list, step}
use Rattle.laws.specs.Words.{Fit}
use Rattle.laws.proofs.AnyCall.CallCases.{LetIn, add_by, reset_by, cancel_by, drain_by, close_by, wake_by_lem, poll_by_lem, tick_by, restart_by, advance_by, turn_by}
use Rattle.laws.proofs.Soundness.DrainSound.{drained_sound, drained_open}
use Rattle.laws.proofs.Soundness.ClosedSound.{closed_shut}
use Rattle.laws.proofs.Soundness.AdvancedSound.{from_start, advanced_keeps}
use Rattle.promises.specs.Turns.{Ledger, at, moved, seen, note}
use Rattle.promises.specs.Engine.{handed}
use Rattle.promises.proofs.Ledger.Told.{told, swept}
use Rattle.promises.proofs.Ledger.Tracks.{Tracks}
use Rattle.promises.proofs.Ledger.TracksTouch.{living, reset_tracks, cancel_tracks, add_tracks}
use Rattle.promises.proofs.Ledger.TracksPlaces.{Housed, add_housed, reset_housed, cancel_housed, drain_housed, advance_housed}
use Rattle.promises.proofs.Ledger.TracksClose.{Gone, close_rests}
use Rattle.promises.proofs.Ledger.TracksDrain.{drain_tracks}
use Rattle.promises.proofs.Ledger.TracksRing.{Rang, ring_rang}

-- a premise on the resets that a ledger counts
abbrev pub Low : Ledger → Type 0
Low L = (h : Handle) → (L.line h).resets < 2 ^ 30

-- the set and the ledger are closed together; until then the timers and the places are as the ledger says, and after it what is left
pub record Follows (B : Type 0) (s : Set) (L : Ledger) : Type 0 where
  pub closed_too : s.closed ≡ L.closed
  pub tracks : L.closed ≡ false → Tracks B s L
  pub housed : L.closed ≡ false → Housed s L
  pub gone : L.closed ≡ true → Gone s L

-- of a set that is open
open_follows : (B : Type 0) (s : Set) (L : Ledger) → s.closed ≡ false → L.closed ≡ false → Tracks B s L → Housed s L → Follows B s L
open_follows B s L c d t o = record { closed_too = c ∙ sym d; tracks = λ _. t; housed = λ _. o; gone = λ e. true_false e d }

-- an advance of a sound set with room in the list
pub advanced_rang : (B : Type 0) (s : Set) (L : Ledger) (N : ℕ) (l : List ℕ) → (B → Low L) → Tracks B s L → Sound s → cap ≤ length l
    → Rang B L N 0 (from_start s l) (advanced_of s N l)
unfolding advanced_of
advanced_rang B s L N l low tracks sound room =
    let n = sound.heap_sound.len_in in
    ring_rang B N s.heap.len 0 (from_start s l) L low tracks sound (omega arith) (omega arith) (λ x e c q. omega arith)

-- whom the words of its list name
abbrev pub rang_out : Ring → List Handle
rang_out q = filter_map named_by (take q.reported q.list)

module _ (B : Type 0) (s : Set) (L : Ledger) (fit : Fit s) (low : B → Low L) (f : Follows B s L) where
  -- what a call leaves, with what the ledger has of it
  abbrev After : Call → List ℕ → Outcome Set Value → Type 0
  After c l o = Follows B o.state (note c (seen (handed (with_list l o))) L)

  abbrev Lends : Call → Outcome Lent Value → Type 0
  Lends c o = Follows B o.state.set (note c (seen (handed o)) L)

  -- a refusal changes nothing
  no : (c : Call) (l : List ℕ) (a : Answer Value) → is_accepted a ≡ false → After c l (kept s a)
  unfolding note
  no c l (refused n) e = f
  no c l (unsound x) e = f
  no c l (accepted v) e = true_false refl e

  no_lent : (c : Call) (l : List ℕ) (a : Answer Value) → is_accepted a ≡ false → Lends c (kept (lent s l) a)
  unfolding note
  no_lent c l = no c l

  -- an open set is as the ledger says
  still : LetIn s → L.closed ≡ false
  still a = sym f.closed_too ∙ a.still_open

  pub now : LetIn s → Tracks B s L
  now a = f.tracks (still a)

  home : LetIn s → Housed s L
  home a = f.housed (still a)

  -- a reset, by whatever call
  reset_follows : (h : Handle) (t : Timing) → live_at s h ≡ some t → (d e : ℕ) → d ≡ e → LetIn s
      → Follows B (reset_to s h d t) (at h (moved e) L)
  unfolding touched_of
  reset_follows h t q d e z a =
      subst (λ (x : ℕ). Follows B (reset_to s h d t) (at h (moved x) L)) z
      (open_follows B (reset_to s h d t) (at h (moved d) L) a.still_open (still a) (reset_tracks B s L (now a) fit.sound h t q d)
      (reset_housed s L (home a) fit.sound h t q (Word.reset_of t.word) d))

  -- the time of a tick is the same by the ledger's deadline
  tick_time : (h : Handle) (p : Policy) (period N : ℕ) (t : Timing) → live_at s h ≡ some t → LetIn s → (d : ℕ) → tick_of p t.due period N ≡ accepted d
      → d ≡ value_or 0 (tick_of p (L.line h).due period N)
  tick_time h p period N t q a d e =
      let k = (living B s L (now a) fit.sound h t q).agreed in
      sym (ap (λ (x : ℕ). value_or 0 (tick_of p x period N)) k ∙ ap (value_or 0) e)

  restart_time : (period N d : ℕ) → restart_of period N ≡ accepted d → d ≡ N + period
  restart_time period N d e = timely_value d (N + period) (sym e)

  -- the reports of an advance from a set that is as the ledger says
  rang_follows : (r : Set) (M : Ledger) (N : ℕ) (l : List ℕ) → (B → Low M) → Tracks B r M → Housed r M → Sound r → r.closed ≡ false → M.closed ≡ false
      → cap ≤ length l → Follows B (advanced_of r N l).set (told (rang_out (advanced_of r N l)) M)
  unfolding filter_map
  rang_follows r M N l lw tr o ok c k room =
      let g = advanced_rang B r M N l lw tr ok room in
      open_follows B (advanced_of r N l).set (told (rang_out (advanced_of r N l)) M) ((advanced_keeps r N l).1 ∙ c) k
      (subst (λ (R : List Handle). Tracks B (advanced_of r N l).set (told R M)) (sym g.written) g.tracks)
      (advance_housed r M o ok N l (rang_out (advanced_of r N l)))

  -- any call
  pub step_follows : (c : Call) (l : List ℕ) → Follows B (step s c l).state.set (note c (seen (handed (step s c l))) L)
  unfolding step note touched_of
  step_follows (C.Add d) l =
      add_by (After (C.Add d) l) s (no (C.Add d) l) d
      (λ a p q. open_follows B _ _ a.still_open (still a) (add_tracks B s L (now a) fit.sound p d q) (add_housed s L (home a) fit.sound p d q))
  step_follows (C.Reset h d) l = reset_by (After (C.Reset h d) l) s (no (C.Reset h d) l) h d (λ a t q. reset_follows h t q d d refl a)
  step_follows (C.Cancel h) l =
      cancel_by (After (C.Cancel h) l) s (no (C.Cancel h) l) h
      (λ a t q. open_follows B _ _ a.still_open (still a) (cancel_tracks B s L (now a) fit.sound h t q)
      (cancel_housed s L (home a) fit.sound h t q t.word))
  step_follows C.Drain l =
      drain_by (After C.Drain l) s (no C.Drain l)
      (λ a. open_follows B _ _ (drained_open s fit.sound a.still_open fit.words) (still a)
      (drain_tracks s fit.sound a.still_open fit.words B L (now a)) (drain_housed s L (home a) fit.sound a.still_open fit.words))
  step_follows (C.Advance N) l =
      advance_by (Lends (C.Advance N)) s l (no_lent (C.Advance N) l) N
      (λ a room. rang_follows s L N l low (now a) (home a) fit.sound a.still_open (still a) room)
  step_follows (C.Turn N) l =
      turn_by (Lends (C.Turn N)) s l (no_lent (C.Turn N) l) N
      (λ a room. rang_follows (drained_of s) (swept L) N l (λ _ h. omega arith) (drain_tracks s fit.sound a.still_open fit.words B L (now a))
      (drain_housed s L (home a) fit.sound a.still_open fit.words) (drained_sound s fit.sound a.still_open fit.words)
      (drained_open s fit.sound a.still_open fit.words) (still a) room)
  step_follows C.NextWake l = wake_by_lem (After C.NextWake l) s (no C.NextWake l) (λ v. f)
  step_follows (C.Poll h) l = poll_by_lem (After (C.Poll h) l) s (no (C.Poll h) l) h (λ v. f)
  step_follows C.Close l =
      close_by (After C.Close l) s (no C.Close l)
      (λ a. record {
        closed_too = (closed_shut s fit.sound).is_closed;
        tracks = λ e. true_false refl e;
        housed = λ e. true_false refl e;
        gone = λ _. close_rests B s L fit.sound (now a);
      })
  step_follows (C.Tick h p period N) l =
      tick_by (After (C.Tick h p period N) l) s (no (C.Tick h p period N) l) h p period N
      (λ a t q _ d e. reset_follows h t q d (value_or 0 (tick_of p (L.line h).due period N)) (tick_time h p period N t q a d e) a)
  step_follows (C.Restart h period N) l =
      restart_by (After (C.Restart h period N) l) s (no (C.Restart h period N) l) h period N
      (λ a t q d e. reset_follows h t q d (N + period) (restart_time period N d e) a)
