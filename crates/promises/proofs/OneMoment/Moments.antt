-- One moment: what an accepted turn and an accepted advance report, that a lent list stays but for its reports, and the next wake where
-- all is settled.
-- Assumes nothing.
use mathlib.Core.Path.{◌≡◌, refl, sym, ap, ◌∙◌}
use mathlib.Core.Bool.{Bool, true, false, not, ◌&&◌, ◌||◌}
use mathlib.Core.List.{List, filter_map}
use Prim.Native.Nat.{ℕ, ◌≤◌, ◌<◌}
use native.Mathlib.Omega.{arith}
use lib.Dec.{leb}
use lib.ListN.{length}
use Rattle.theory.specs.Tests.{bit}
use Rattle.theory.specs.Weights.{Rising}
use Rattle.theory.proofs.Tests.{true_false, and_left, and_right}
use Rattle.refusals.specs.Answer.{is_accepted}
use Rattle.heap.specs.Capacity.{cap}
use Rattle.heap.specs.Calls.{peek_sound}
use Rattle.state.specs.declared.Life.{Life}
use Rattle.state.specs.declared.Life.TheVariants.{Free, Live, Cancelled, Retired}
use Rattle.state.specs.declared.Set.{Set}
use Rattle.state.specs.declared.Handle.{Handle}
use Rattle.state.specs.State.{timer_at, is_waiting}
use Rattle.moves.specs.Rules.{drained_of, Ring, advanced_of}
use Rattle.timers.specs.declared.Call.{Call}
use Rattle.timers.specs.declared.Call.TheVariants as C
use Rattle.timers.specs.Values.{reports_in}
use Rattle.timers.specs.Calls.{timing_of, rang, wake_by, step}
use Rattle.laws.specs.EntryOf.{waiting}
use Rattle.laws.specs.Rooms.{is_cancelled}
use Rattle.laws.proofs.Handles.Naming.{names_same, live_in_range}
use Rattle.laws.proofs.Handles.ByHandle.{handle_at}
use Rattle.laws.proofs.AnyCall.CallCases.{LetIn, advance_by, turn_by}
use Rattle.laws.proofs.Soundness.DrainSound.{drained_sound}
use Rattle.laws.proofs.Soundness.AdvancedSound.{from_start}
use Rattle.laws.proofs.Reporting.AdvancedList.{Kept, rest_kept, advanced_rest}
use Rattle.promises.specs.Turns.{Line, Ledger, owed, settled, seen, Exact, Least, Run, Accepted}
use Rattle.promises.specs.Engine.{handed, ours}
use Rattle.promises.proofs.Ledger.Told.{swept}
use Rattle.promises.proofs.Ledger.TracksTouch.{living}
use Rattle.promises.proofs.Ledger.TracksPlaces.{leaving_in, leaves_same}
use Rattle.promises.proofs.Ledger.TracksDrain.{none_waiting, drain_tracks}
use Rattle.promises.proofs.Ledger.TracksHead.{ready, Safe, not_true}
use Rattle.promises.proofs.Ledger.TracksRing.{Rang, called}
use Rattle.promises.proofs.Ledger.TracksSteps.{Low, advanced_rang, now}
use Rattle.promises.proofs.OneMoment.Waking.{wake_least}
use Rattle.promises.proofs.Ledger.Runs.{Good}

-- what is drained besides is the same
and_true : (a : Bool) → a && true ≡ a
and_true true = refl
and_true false = refl

-- what an advance reports, told to a ledger M that has the deadlines of L
exact_rang : (B : Type 0) (L M : Ledger) (passes : Line → Bool) (N : ℕ) (s : Set) (l : List ℕ) (q : Ring) → (k : Rang B L N 0 (from_start s l) q) → Safe B s
    → ((h : Handle) → called L N h ≡ passes (M.line h) && leb (M.line h).due N) → Rising (λ h. (M.line h).due) 0 k.who
    → Exact M passes N (seen (handed (rang q)))
unfolding filter_map
exact_rang B L M passes N s l q k safe same rising =
    rw k.written (record { each_once = λ h. k.exact safe h ∙ ap bit (same h); in_order = rising; counted = omega (arith, k.counted) })

-- what is live and settled is drained, and does not leave
live_reached : (l : Line) → settled l ≡ true → l.live ≡ true → l.drained ≡ true
live_reached l s e = rw e at (and_right (not l.leaving) (not l.live || l.drained) s)

stays : (l : Line) → settled l ≡ true → l.leaving ≡ true → ⊥
stays l s e = true_false (and_left (not l.leaving) (not l.live || l.drained) s) (ap not e)

-- and so is what is owed and settled
reached : (l : Line) → settled l ≡ true → owed l ≡ true → l.drained ≡ true
reached l s o = live_reached l s (and_left l.live (not l.reported) o)

module _ (B : Type 0) (r : Run ours) (g : Good B r) (low : B → Low r.ledger) where
  abbrev s : Set
  s = r.state

  abbrev L : Ledger
  L = r.ledger

  -- a drain clears the counts of resets
  swept_low : B → Low (swept L)
  swept_low _ h = omega arith

  -- the advance of a turn, after its drain
  drained_rang : LetIn s → (N : ℕ) (l : List ℕ) → cap ≤ length l → Rang B (swept L) N 0 (from_start (drained_of s) l) (advanced_of (drained_of s) N l)
  drained_rang a N l room =
      advanced_rang B (drained_of s) (swept L) N l swept_low
      (drain_tracks s g.fit.sound a.still_open g.fit.words B L (now B s L g.fit low g.follows a))
      (drained_sound s g.fit.sound a.still_open g.fit.words) room

  -- nobody waits after a drain
  idle_then : LetIn s → (x : ℕ) → x < cap → waiting (drained_of s) x ≡ false
  idle_then a = none_waiting s g.fit.sound a.still_open g.fit.words

  -- an accepted turn
  pub turn_exact : (N : ℕ) (l : List ℕ) → Accepted ours r (C.Turn N) l → Exact L owed N (seen (handed (step s (C.Turn N) l)))
  unfolding step
  turn_exact N l =
      turn_by (λ o. is_accepted o.answer ≡ true → Exact L owed N (seen (handed o))) s l (λ a r y. true_false y r) N
      (λ a room _.
      let k = drained_rang a N l room in
      let safe : Safe B (drained_of s) = λ x b w. true_false w (idle_then a x b) in
      exact_rang B (swept L) L owed N (drained_of s) l (advanced_of (drained_of s) N l) k safe
      (λ h. ap (λ (c : Bool). c && leb (L.line h).due N) (and_true (owed (L.line h)))) (k.sorted safe))

  -- an accepted advance
  pub advance_exact : B → (N : ℕ) (l : List ℕ) → Accepted ours r (C.Advance N) l → Exact L ready N (seen (handed (step s (C.Advance N) l)))
  unfolding step
  advance_exact b N l =
      advance_by (λ o. is_accepted o.answer ≡ true → Exact L ready N (seen (handed o))) s l (λ a r y. true_false y r) N
      (λ a room _.
      let k = advanced_rang B s L N l low (now B s L g.fit low g.follows a) g.fit.sound room in
      exact_rang B L L ready N s l (advanced_of s N l) k (λ _ _ _. b) (λ h. refl) (k.sorted (λ _ _ _. b)))

  -- any call leaves the lent list as it was but for its reports
  pub list_kept : (c : Call) (l : List ℕ) → let o = step s c l in Kept (reports_in o.answer) l o.state.list
  unfolding step
  list_kept (C.Add d) l = (refl, refl)
  list_kept (C.Reset h d) l = (refl, refl)
  list_kept (C.Cancel h) l = (refl, refl)
  list_kept C.Drain l = (refl, refl)
  list_kept (C.Advance N) l =
      advance_by (λ o. Kept (reports_in o.answer) l o.state.list) s l (λ a r. (refl, refl)) N
      (λ a room. rest_kept s l (advanced_of s N l) (advanced_rest s N l g.fit.sound))
  list_kept (C.Turn N) l =
      turn_by (λ o. Kept (reports_in o.answer) l o.state.list) s l (λ a r. (refl, refl)) N
      (λ a room. rest_kept (drained_of s) l (advanced_of (drained_of s) N l)
      (advanced_rest (drained_of s) N l (drained_sound s g.fit.sound a.still_open g.fit.words)))
  list_kept C.NextWake l = (refl, refl)
  list_kept (C.Poll h) l = (refl, refl)
  list_kept C.Close l = (refl, refl)
  list_kept (C.Tick h p period N) l = (refl, refl)
  list_kept (C.Restart h period N) l = (refl, refl)

  -- where all is settled nobody waits: a live timer that waits is not drained, and a cancelled one is leaving
  idle : L.closed ≡ false → ((h : Handle) → settled (L.line h) ≡ true) → (x : ℕ) → x < cap → waiting s x ≡ false
  idle c all x b = go (timer_at s x).life refl
    where
      h : Handle
      h = handle_at s x

      go : (l : Life) → (timer_at s x).life ≡ l → waiting s x ≡ false
      go Free e = ap is_waiting (g.fit.sound.free_unused x b e).still
      go (Live w d) e =
          let k = living B s L (g.follows.tracks c) g.fit.sound h (record { word = w; due = d })
          (live_in_range s h b ∙ names_same (timer_at s x) (timer_at s x).uses refl ∙ ap timing_of e) in
          not_true (waiting s x) (sym k.drained_is ∙ live_reached (L.line h) (all h) k.known)
      go (Cancelled w) e =
          absurd (stays (L.line h) (all h)
          ((g.follows.housed c).left h ∙ leaving_in s h b ∙ leaves_same (timer_at s x) (timer_at s x).uses refl ∙ ap is_cancelled e))
      go Retired e = ap is_waiting (g.fit.sound.retired_unused x b e).still

  -- the next wake where all is settled
  pub settled_wake : B → L.closed ≡ false → ((h : Handle) → settled (L.line h) ≡ true) → Least L (wake_by (peek_sound s.heap))
  settled_wake b c all =
      wake_least B s L (g.follows.tracks c) g.fit.sound (idle c all) (λ h y. reached (L.line h) (all h) y) b
