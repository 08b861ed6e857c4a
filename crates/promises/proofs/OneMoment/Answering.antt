-- One moment: every call answers what the ledger says it must, before a close and after it; and a next wake is never later than what is
-- owed and drained.
-- Assumes nothing.
use mathlib.Core.Path.{◌≡◌, refl, sym, ap, subst, ◌∙◌}
use mathlib.Core.Logic.{◌≢◌}
use mathlib.Core.Bool.{Bool, true, false, not, cond, ◌||◌}
use mathlib.Core.Option.{Option, none, some}
use mathlib.Core.List.{List}
use Prim.Native.Nat.{ℕ, zero, suc, ◌≤◌, ◌<◌}
use native.Mathlib.Omega.{arith}
use lib.Dec.{ltb, eqb}
use lib.ListN.{length}
use borrow.Author.Tests.{lt-ltb, le-ltb, le-leb, lt-leb}
use Rattle.theory.specs.First.{first_bad}
use Rattle.theory.proofs.Tests.{ref_lt, ref_eq, true_ref, false_ref, by-ref}
use Rattle.refusals.specs.Answer.{Answer, accepted, refused, Outcome, kept, unsound}
use Rattle.heap.specs.Capacity.{cap}
use Rattle.heap.specs.Rules.{entry_at}
use Rattle.heap.specs.Calls.{peek_sound}
use Rattle.word.specs.Rules as Word
use Rattle.interval.specs.declared.Policy.{Policy}
use Rattle.interval.specs.Rules.{tick_of, restart_of}
use Rattle.state.specs.declared.Life.{Life}
use Rattle.state.specs.declared.Life.TheVariants.{Free, Live, Cancelled, Retired}
use Rattle.state.specs.declared.Set.{Set}
use Rattle.state.specs.declared.Handle.{Handle}
use Rattle.state.specs.State.{timer_at}
use Rattle.state.proofs.Test.{sound_tells}
use Rattle.moves.specs.Rules.{is_free, lowest_free, drained_of, Ring, advanced_of}
use Rattle.timers.specs.declared.Call.{Call}
use Rattle.timers.specs.declared.Call.TheVariants as C
use Rattle.timers.specs.Values.{Value, nothing, handle, wake, polled, time}
use Rattle.timers.specs.Calls as Calls
use Rattle.timers.specs.declared.Timing.{Timing}
use Rattle.timers.specs.Calls.{timing_of, Lent, guarded, opened, alive, live_at, lent, rang, roomy, ticked, ticked_by, restarted_by, wake_by, step}
use Rattle.timers.proofs.Guarding.{sound_none}
use Rattle.laws.specs.Words.{Fit}
use Rattle.laws.specs.EntryOf.{entry_of, waiting}
use Rattle.laws.specs.Rooms.{given_by, is_cancelled}
use Rattle.laws.proofs.AnyCall.Found.{lowest_free_lem, lowest_in}
use Rattle.laws.proofs.Handles.Naming.{names_same, names_other, live_in_range, live_none}
use Rattle.laws.proofs.Entries.EntryOfPop.{head_least}
use Rattle.laws.proofs.PlaceByPlace.Rooms.{lowest_by}
use Rattle.promises.specs.Turns.{Ledger, taken_by, taken_in, added_at, if_live, if_timed, Must, exactly, counting, Answers, while_open, once_closed, must}
use Rattle.promises.proofs.Ledger.Tracks.{Living, Stands, Tracks}
use Rattle.promises.proofs.Ledger.TracksPlaces.{Housed, leaving_in, leaves_same, leaves_other}
use Rattle.promises.proofs.Ledger.TracksClose.{Rests, found, open_poll, reported_fired}
use Rattle.promises.proofs.Ledger.TracksHead.{ready, ready_entry}
use Rattle.promises.proofs.Ledger.TracksSteps.{Follows}

-- a next wake of a set that fits is answered
pub wake_answered : (s : Set) → Fit s → (l : List ℕ) → (step s C.NextWake l).answer ≡ accepted (wake (wake_by (peek_sound s.heap)))
unfolding step Calls.next_wake_of guarded
wake_answered s f l = rw (sound_none s (sound_tells s f.sound)) refl

module _ (B : Type 0) (s : Set) (L : Ledger) (fit : Fit s) (f : Follows B s L) where
  -- THE TESTS THAT A CALL BEGINS WITH

  -- a set that fits passes the first
  passed : {S : Type 0} (k : S) (o : Outcome S Value) → guarded s k o ≡ o
  unfolding guarded
  passed k o = rw (sound_none s (sound_tells s fit.sound)) refl

  -- an open one passes the second, and a closed one is refused with 2
  let_in : {S : Type 0} (k : S) (o : Outcome S Value) → s.closed ≡ false → (guarded s k (opened s k o)).answer ≡ o.answer
  let_in k o c = ap (λ (x : Outcome _ Value). x.answer) (passed k (opened s k o)) ∙ rw c refl

  turned_away : {S : Type 0} (k : S) (o : Outcome S Value) → s.closed ≡ true → (guarded s k (opened s k o)).answer ≡ refused 2
  turned_away k o c = ap (λ (x : Outcome _ Value). x.answer) (passed k (opened s k o)) ∙ rw c refl

  -- AFTER A CLOSE
  module _ (shut : L.closed ≡ true) where
    closed : s.closed ≡ true
    closed = f.closed_too ∙ shut

    -- a poll
    rests : (h : Handle) → (Calls.poll_of s h).answer ≡ if_live (L.line h) (accepted (polled (cond (L.line h).reported 1 2)))
    unfolding Calls.poll_of
    rests h = ap (λ (x : Outcome _ Value). x.answer) (passed s _) ∙ go (live_at s h) (f.gone shut h)
      where
        go : (o : Option Timing) → Rests o (L.line h)
            → (alive s o (λ t. Calls.gives s (polled (found t.word)))).answer ≡ if_live (L.line h) (accepted (polled (cond (L.line h).reported 1 2)))
        go none r = sym (rw r refl)
        go (some t) r = ap (λ (n : ℕ). accepted (polled n)) r.1 ∙ sym (rw r.0 refl)

    -- a next wake, for the heap is empty
    asleep : (l : List ℕ) → (step s C.NextWake l).answer ≡ accepted (wake none)
    unfolding peek_sound
    asleep l = wake_answered s fit l ∙ rw (true_ref (ref_eq s.heap.len 0) (fit.sound.heap_empty closed)) refl

    once_closed_lem : (c : Call) (l : List ℕ) → Answers (must L c l) (step s c l).answer
    unfolding step Calls.add_of Calls.reset_of Calls.cancel_of Calls.drain_of Calls.advance_of Calls.turn_of Calls.close_of Calls.tick_at Calls.restart_at
    once_closed_lem (C.Add d) l = rw shut (turned_away s _ closed)
    once_closed_lem (C.Reset h d) l = rw shut (turned_away s _ closed)
    once_closed_lem (C.Cancel h) l = rw shut (turned_away s _ closed)
    once_closed_lem C.Drain l = rw shut (turned_away s _ closed)
    once_closed_lem (C.Advance N) l = rw shut (turned_away (lent s l) _ closed)
    once_closed_lem (C.Turn N) l = rw shut (turned_away (lent s l) _ closed)
    once_closed_lem C.NextWake l = rw shut (asleep l)
    once_closed_lem (C.Poll h) l = rw shut (rests h)
    once_closed_lem C.Close l = rw shut (turned_away s _ closed)
    once_closed_lem (C.Tick h p period N) l = rw shut (turned_away s _ closed)
    once_closed_lem (C.Restart h period N) l = rw shut (turned_away s _ closed)

  -- BEFORE A CLOSE
  module _ (yet : L.closed ≡ false) where
    still : s.closed ≡ false
    still = f.closed_too ∙ yet

    tracks : Tracks B s L
    tracks = f.tracks yet

    -- what must be answered while it is open
    by_open : (c : Call) (l : List ℕ) (a : Answer Value) → Answers (while_open L (length l) c) a → Answers (must L c l) a
    by_open c l a = subst (λ (m : Must). Answers m a) (sym (ap (λ (b : Bool). cond b (once_closed L c) (while_open L (length l) c)) yet))

    -- a call on a handle: what it answers of a live timer, told by the line
    by_line : (h : Handle) (F : Timing → Outcome Set Value) (a : Answer Value)
        → ((t : Timing) → Living B t (waiting s h.place.0) (entry_of s h.place.0) (L.line h) → (F t).answer ≡ a)
        → (alive s (live_at s h) F).answer ≡ if_live (L.line h) a
    by_line h F a more = go (live_at s h) (tracks h)
      where
        go : (o : Option Timing) → Stands B o (waiting s h.place.0) (entry_of s h.place.0) (L.line h) → (alive s o F).answer ≡ if_live (L.line h) a
        go none st = sym (rw st refl)
        go (some t) st = more t st ∙ sym (rw st.known refl)

    -- a tick
    by_tick : (h : Handle) (p : Policy) (period N : ℕ) (t : Timing) → Living B t (waiting s h.place.0) (entry_of s h.place.0) (L.line h)
        → (ticked s h p period N t).answer
        ≡ cond (L.line h).reported (if_timed (tick_of p (L.line h).due period N) (time (L.line h).due)) (refused 10)
    by_tick h p period N t k =
        rw (ap Word.fired_in k.word_is ∙ reported_fired k.generation (L.line h).reported, k.agreed)
        (go (L.line h).reported (tick_of p t.due period N))
      where
        go : (b : Bool) (x : Answer ℕ) → (cond b (ticked_by s h t x) (kept s (refused 10))).answer ≡ cond b (if_timed x (time t.due)) (refused 10)
        go true (accepted d) = refl
        go true (refused n) = refl
        go true (unsound f) = refl
        go false x = refl

    -- an interval reset
    by_restart : (h : Handle) (t : Timing) (x : Answer ℕ) → (restarted_by s h t x).answer ≡ if_timed x nothing
    by_restart h t (accepted d) = refl
    by_restart h t (refused n) = refl
    by_restart h t (unsound f) = refl

    module _ (p : ℕ) (b : p < cap) where
      o : Housed s L
      o = f.housed yet

      abbrev u : ℕ
      u = (timer_at s p).uses

      -- the handle of the place with this use number
      abbrev of : ℕ → Handle
      of v = record { place = record { 0 = p }; uses = v }

      -- a use number that is not the timer's own names nobody
      past : (v : ℕ) → u ≢ v → ((L.line (of v)).live ≡ false) × ((L.line (of v)).leaving ≡ false)
      past v n = (
        subst (λ (x : Option Timing). Stands B x (waiting s p) (entry_of s p) (L.line (of v)))
            (live_none s (of v) (names_other (timer_at s p) v n)) (tracks (of v)),
        o.left (of v) ∙ leaving_in s (of v) b ∙ leaves_other (timer_at s p) v n,
      )

      -- a free place, by how many handles of it were given out
      room : (v : ℕ) → u ≡ v → false ≡ taken_by L p v
      room zero e = refl
      room (suc v) e =
          let x = past v (λ q. omega arith) in
          sym (rw (x.0, x.1, false_ref (ref_eq v 4294967295) (λ q. omega (arith, (o.in_uses p b).fits))) refl)

      -- a live timer's line is live
      lives : (w d : ℕ) → (timer_at s p).life ≡ Live w d → (L.line (of u)).live ≡ true
      lives w d e =
          (subst (λ (x : Option Timing). Stands B x (waiting s p) (entry_of s p) (L.line (of u)))
          (live_in_range s (of u) b ∙ names_same (timer_at s p) u refl ∙ ap timing_of e) (tracks (of u))).known

      -- a cancelled timer's is leaving
      leaves : (w : ℕ) → (timer_at s p).life ≡ Cancelled w → (L.line (of u)).leaving ≡ true
      leaves w e = o.left (of u) ∙ leaving_in s (of u) b ∙ leaves_same (timer_at s p) u refl ∙ ap is_cancelled e

      -- the ledger knows whether the place is taken
      known : not (is_free (timer_at s p).life) ≡ taken_in L p
      unfolding taken_in
      known = go (timer_at s p).life refl ∙ ap (taken_by L p) (sym (o.counted p b))
        where
          second : (x y : Bool) → true ≡ x || (true || y)
          second true y = refl
          second false y = refl

          third : (x y : Bool) → true ≡ x || (y || true)
          third true y = refl
          third false true = refl
          third false false = refl

          go : (l : Life) → (timer_at s p).life ≡ l → not (is_free l) ≡ taken_by L p (given_by l u)
          go Free e = room u refl
          go (Live w d) e = sym (rw (lives w d e) refl)
          go (Cancelled w) e = rw (leaves w e) (second (L.line (of u)).live (eqb u 4294967295))
          go Retired e = rw (true_ref (ref_eq u 4294967295) ((o.in_uses p b).retired_last e)) (third (L.line (of u)).live (L.line (of u)).leaving)

    -- an add
    by_add : (d : ℕ) → (Calls.added_at s d (lowest_free s)).answer ≡ added_at L (first_bad (taken_in L) cap 0)
    by_add d = go (lowest_free s) refl ∙ ap (added_at L) (lowest_by s (taken_in L) known)
      where
        go : (x : Option ℕ) → lowest_free s ≡ x → (Calls.added_at s d x).answer ≡ added_at L x
        go none e = refl
        go (some p) e =
            let u : (timer_at s p).uses ≡ L.given p = sym ((f.housed yet).counted p (lowest_in s p e) ∙ rw (lowest_free_lem s p e) refl) in
            ap (λ (n : ℕ). accepted (handle (record { place = record { 0 = p }; uses = n }))) u

    -- an advance or a turn, by the length of its list
    by_room : (l : List ℕ) (r : Ring)
        → Answers (cond (ltb (length l) cap) (exactly (refused 5)) counting) (guarded s (lent s l) (opened s (lent s l) (roomy s l (rang r)))).answer
    by_room l r =
        subst (Answers (cond (ltb (length l) cap) (exactly (refused 5)) counting)) (sym (let_in (lent s l) (roomy s l (rang r)) still))
        (by-ref (ref_lt (length l) cap)
        (λ b. rw (lt-ltb (length l) cap b, lt-leb cap (length l) b) refl)
        (λ n. rw (le-ltb (length l) cap (omega arith), le-leb cap (length l) (omega arith)) (r.reported, r.popped, refl)))

    while_open_lem : (c : Call) (l : List ℕ) → Answers (must L c l) (step s c l).answer
    unfolding step Calls.add_of Calls.reset_of Calls.cancel_of Calls.drain_of Calls.advance_of Calls.turn_of Calls.poll_of Calls.close_of Calls.tick_at Calls.restart_at
    while_open_lem (C.Add d) l = by_open (C.Add d) l _ (let_in s _ still ∙ by_add d)
    while_open_lem (C.Reset h d) l = by_open (C.Reset h d) l _ (let_in s _ still ∙ by_line h _ (accepted nothing) (λ t k. refl))
    while_open_lem (C.Cancel h) l = by_open (C.Cancel h) l _ (let_in s _ still ∙ by_line h _ (accepted nothing) (λ t k. refl))
    while_open_lem C.Drain l = by_open C.Drain l _ (let_in s _ still)
    while_open_lem (C.Advance N) l = by_open (C.Advance N) l _ (by_room l (advanced_of s N l))
    while_open_lem (C.Turn N) l = by_open (C.Turn N) l _ (by_room l (advanced_of (drained_of s) N l))
    while_open_lem C.NextWake l = by_open C.NextWake l _ (wake_by (peek_sound s.heap), wake_answered s fit l)
    while_open_lem (C.Poll h) l = by_open (C.Poll h) l _ (ap (λ (x : Outcome _ Value). x.answer) (passed s _)
        ∙ by_line h _ (accepted (polled (cond (L.line h).reported 1 0)))
        (λ t k. ap (λ (n : ℕ). accepted (polled n)) (ap found k.word_is ∙ open_poll k.generation (L.line h).reported)))
    while_open_lem C.Close l = by_open C.Close l _ (let_in s _ still)
    while_open_lem (C.Tick h p period N) l = by_open (C.Tick h p period N) l _ (let_in s _ still ∙ by_line h _ _ (by_tick h p period N))
    while_open_lem (C.Restart h period N) l = by_open (C.Restart h period N) l _ (let_in s _ still ∙ by_line h _ _ (λ t k. by_restart h t (restart_of period N)))

    -- a next wake is never later than what is owed and drained
    pub wake_in_time : (h : Handle) (l : List ℕ) → ready (L.line h) ≡ true
        → (t : ℕ) × ((step s C.NextWake l).answer ≡ accepted (wake (some t))) × (t ≤ (L.line h).due)
    unfolding peek_sound
    wake_in_time h l y =
        let k = ready_entry B s L tracks h y in
        let m = head_least s fit.sound h.place.0 k.it k.in_range k.found in (
          (entry_at s.heap 0).at,
          wake_answered s fit l ∙ rw (false_ref (ref_eq s.heap.len 0) (λ e. omega (arith, m.0))) refl,
          omega (arith, m.1, k.on_time),
        )

  -- any call
  pub answered : (c : Call) (l : List ℕ) → Answers (must L c l) (step s c l).answer
  answered c l = go L.closed refl
    where
      go : (b : Bool) → L.closed ≡ b → Answers (must L c l) (step s c l).answer
      go true e = once_closed_lem e c l
      go false e = while_open_lem e c l
