-- The display and the turns cannot disagree: what the two queries answer at any moment before a close is what the ledger says is owed.
-- The premise on resets is not needed.
-- Assumes nothing.
use mathlib.Core.Path.{◌≡◌, refl, sym, ap, subst, ◌∙◌}
use mathlib.Core.Bool.{Bool, true, false, not, cond, ◌&&◌}
use mathlib.Core.Option.{Option, none, some}
use mathlib.Core.List.{List, [], ◌∷◌}
use Prim.Native.Nat.{ℕ, suc, ◌≤◌}
use native.Mathlib.Omega.{arith}
use lib.Dec.{leb}
use borrow.Author.Tests.{not-true}
use lib.IntN.{ℤ}
use Rattle.theory.specs.Tests.{bit}
use Rattle.theory.specs.Occurs.{times}
use Rattle.theory.specs.Least.{through}
use Rattle.theory.proofs.Least.{Told, least_told}
use Rattle.theory.proofs.Tests.{none_some, true_false, and_left, and_right, is_false, ref_true, true_ref, ref_le}
use Rattle.theory.proofs.Occurs.{times_same}
use Rattle.refusals.specs.declared.Refusal.TheVariants.{Unsound, Closed}
use Rattle.refusals.specs.declared.fault.Fault.{Fault}
use Rattle.refusals.proofs.Refusing.{never}
use Rattle.refusals.specs.Answer.{Answer, accepted, refused, refuse, unsound}
use Rattle.refusals.specs.Times.{difference_of}
use Rattle.refusals.proofs.Differences.{minus_over}
use Rattle.refusals.proofs.Times.{difference_value}
use Rattle.heap.specs.Capacity.{cap}
use Rattle.heap.specs.declared.Entry.{Entry}
use Rattle.word.specs.Rules.{fired_in}
use Rattle.state.specs.declared.Set.{Set}
use Rattle.state.specs.declared.Handle.{Handle}
use Rattle.state.specs.Handles.{handle_discrete}
use Rattle.state.specs.Faults.{fault_of, sound_of}
use Rattle.state.proofs.Test.{sound_tells}
use Rattle.timers.specs.declared.Call.{Call}
use Rattle.timers.specs.declared.Call.TheVariants as C
use Rattle.timers.specs.declared.Timing.{Timing}
use Rattle.timers.specs.Calls.{judged, live_at, living, door_of}
use Rattle.timers.specs.Left.{left_at, time_left_by, time_left_of, pending_at, or_none, least_by, least_left_of, soonest_of}
use Rattle.timers.proofs.Guarding.{sound_none}
use Rattle.timers.proofs.Shortest.{least_open}
use Rattle.laws.specs.EntryOf.{entry_of, waiting}
use Rattle.laws.proofs.Handles.Pending.{pending_place, handle_of, place_pending, left_of, left_closed, least_closed}
use Rattle.promises.specs.Turns.{Line, Ledger, Seen, seen, owed, Exact, Least, run, Accepted, Bounded}
use Rattle.promises.specs.Engine.{ours}
use Rattle.promises.specs.Display.{over, shown_for, Shown}
use Rattle.promises.proofs.Ledger.Tracks.{Living, Stands, Tracks}
use Rattle.promises.proofs.Ledger.TracksClose.{reported_fired}
use Rattle.promises.proofs.Ledger.Runs.{Good, run_good}
use Rattle.promises.proofs.Engine.{moment}

-- a live timer is owed exactly where it has not fired
module _ (B : Type 0) (t : Timing) (wait : Bool) (o : Option Entry) (l : Line) (k : Living B t wait o l) where
  owed_is : owed l ≡ not (fired_in t.word)
  owed_is = (λ i. k.known i && not l.reported) ∙ ap not (sym (ap fired_in k.word_is ∙ reported_fired k.generation l.reported))

module _ (B : Type 0) (s : Set) (L : Ledger) (ok : sound_of s ≡ true) (c : s.closed ≡ false) (tracks : Tracks B s L) where
  -- what a handle that is owed names
  pub record Owing (h : Handle) : Type 0 where
    pub timing : Timing
    pub found : live_at s h ≡ some timing
    pub unfired : fired_in timing.word ≡ false
    pub same_due : (L.line h).due ≡ timing.due

  owing : (h : Handle) → owed (L.line h) ≡ true → Owing h
  owing h y = go (live_at s h) refl (tracks h)
    where
      go : (o : Option Timing) → live_at s h ≡ o → Stands B o (waiting s h.place.0) (entry_of s h.place.0) (L.line h) → Owing h
      go none e k = true_false (and_left (L.line h).live _ y) k
      go (some t) e k = record {
        timing = t;
        found = e;
        unfired = not-true _ (sym (owed_is B t _ _ (L.line h) k) ∙ y);
        same_due = k.agreed;
      }

  -- a live handle's line
  line_of : (h : Handle) (t : Timing) → live_at s h ≡ some t → Living B t (waiting s h.place.0) (entry_of s h.place.0) (L.line h)
  line_of h t e = subst (λ (o : Option Timing). Stands B o (waiting s h.place.0) (entry_of s h.place.0) (L.line h)) e (tracks h)

  owed_back : (h : Handle) (t : Timing) → live_at s h ≡ some t → fired_in t.word ≡ false → owed (L.line h) ≡ true
  owed_back h t e u = owed_is B t _ _ (L.line h) (line_of h t e) ∙ ap not u

  -- the earliest deadline that counts is the least owed
  soonest_least : Least L (soonest_of s)
  unfolding soonest_of
  soonest_least = go (soonest_of s) (least_told (pending_at s) cap)
    where
      go : (o : Option ℕ) → Told (pending_at s) cap o → Least L o
      go none k =
          λ h. is_false (owed (L.line h))
          (λ y. let w = owing h y in
          let p = pending_place s h w.timing w.found w.unfired in
          none_some (k h.place.0 p.0) p.1)
      go (some d) k = (
        (let x = place_pending s ok c k.it d k.below k.has in
            let h = handle_of s k.it in
            let t : Timing = record { word = x.word; due = d } in (
              h,
              owed_back h t x.found x.unfired,
              (line_of h t x.found).agreed,
            )),
        λ h y. let w = owing h y in
            let p = pending_place s h w.timing w.found w.unfired in
            let m : d ≤ w.timing.due = k.least h.place.0 w.timing.due p.0 p.1 in
            let e = w.same_due in
            omega arith,
      )

  -- what is shown of each handle
  shown : (N : ℕ) (h : Handle) → time_left_of s h N ≡ cond (L.line h).live (difference_of (L.line h).due N) (refused 3)
  unfolding time_left_of door_of
  shown N h = go (live_at s h) refl (tracks h)
    where
      dead : (b : Option Fault) (x : Bool) (o : Option Timing) → b ≡ none → x ≡ false → o ≡ none
          → time_left_by N (judged b (cond x (refuse Closed) (living o)) (λ y. refuse (Unsound y))) ≡ refused 3
      dead b x o p q e = rw (p, q, e)

      go : (o : Option Timing) → live_at s h ≡ o → Stands B o (waiting s h.place.0) (entry_of s h.place.0) (L.line h)
          → time_left_of s h N ≡ cond (L.line h).live (difference_of (L.line h).due N) (refused 3)
      go none e k = dead (fault_of s) s.closed (live_at s h) (sound_none s ok) c e ∙ sym (ap (λ (b : Bool). cond b (difference_of (L.line h).due N) (refused 3)) k)
      go (some t) e k =
          left_of s N h t ok c e ∙ sym (ap (λ (b : Bool). cond b (difference_of (L.line h).due N) (refused 3)) k.known ∙ ap (λ (d : ℕ). difference_of d N) k.agreed)

-- a deadline minus the reading is zero or less exactly where the deadline is not past it
over_due : (N d : ℕ) (z : ℤ) → difference_of d N ≡ accepted z → over z ≡ leb d N
over_due N d z e = ap over (difference_value d N z e) ∙ minus_over N d

module _ (L : Ledger) (N : ℕ) (a : Seen) (e : Exact L owed N a) where
  -- a turn's reports, and the deadline of each timer that is owed
  reported_due : (h : Handle) → owed (L.line h) ≡ true → times handle_discrete h a.reports ≡ bit (leb (L.line h).due N)
  reported_due h y = e.each_once h ∙ ap (λ (b : Bool). bit (b && leb (L.line h).due N)) y

  -- nobody is reported: the least deadline owed is past the reading
  unheard : (d : ℕ) → Least L (some d) → a.reports ≡ [] → leb d N ≡ false
  unfolding times
  unheard d k z =
      is_false (leb d N)
      (λ y. let h = k.0.0 in
      let m : leb (L.line h).due N ≡ true = ap (λ (x : ℕ). leb x N) k.0.2 ∙ y in
      let n : 0 ≡ 1 = ap (times handle_discrete h) (sym z) ∙ reported_due h k.0.1 ∙ ap bit m in
      omega arith)

  one : (b : Bool) (n : ℕ) → suc n ≡ bit b → b ≡ true
  one true n q = refl
  one false n q = absurd (omega arith)

  -- whoever is reported is owed, and due
  heard : (h : Handle) (hs : List Handle) → a.reports ≡ h ∷ hs → owed (L.line h) && leb (L.line h).due N ≡ true
  heard h hs q =
      one (owed (L.line h) && leb (L.line h).due N) (times handle_discrete h hs)
      (sym (times_same handle_discrete h hs) ∙ ap (times handle_discrete h) (sym q) ∙ e.each_once h)

  -- so where no deadline owed is due, nobody is
  none_due : ((h : Handle) → owed (L.line h) ≡ true → leb (L.line h).due N ≡ true → ⊥) → a.reports ≡ []
  none_due out = go a.reports refl
    where
      go : (hs : List Handle) → a.reports ≡ hs → hs ≡ []
      go [] q = refl
      go (h ∷ hs) q = let y = heard h hs q in absurd (out h (and_left (owed (L.line h)) _ y) (and_right (owed (L.line h)) _ y))

  -- the least deadline owed, and none
  past_due : (d : ℕ) → Least L (some d) → leb d N ≡ false → a.reports ≡ []
  past_due d k z =
      none_due
      (λ h y b. let m = k.1 h y in
      let n = ref_true (ref_le (L.line h).due N) b in
      true_false (true_ref (ref_le d N) (omega arith)) z)

  nobody_due : Least L none → a.reports ≡ []
  nobody_due k = none_due (λ h y b. true_false y (k h))

-- what is shown for a deadline, read back
shown_some : (N : ℕ) (o : Option ℕ) (z : ℤ) → shown_for N o ≡ accepted (some z) → (d : ℕ) × (o ≡ some d) × (difference_of d N ≡ accepted z)
shown_some N none z e = absurd (let q : none ≡ some z = cc in none_some refl q)
shown_some N (some d) z e = (d, refl, go (difference_of d N) e)
  where
    go : (a : Answer ℤ) → or_none a ≡ accepted (some z) → a ≡ accepted z
    go (accepted y) e = let q : y ≡ z = cc in ap accepted q
    go (refused n) e = never refl e
    go (unsound x) e = never refl e

shown_none : (N : ℕ) (o : Option ℕ) → shown_for N o ≡ accepted none → o ≡ none
shown_none N none e = refl
shown_none N (some d) e = absurd (go (difference_of d N) e)
  where
    go : (a : Answer ℤ) → or_none a ≡ accepted none → ⊥
    go (accepted y) e = let q : some y ≡ none = cc in none_some q refl
    go (refused n) e = never refl e
    go (unsound x) e = never refl e

-- the rule says the same of the earliest deadline
by_shown : (N : ℕ) (o : Option ℕ) → least_by (through (left_at N) o) ≡ shown_for N o
by_shown N none = refl
by_shown N (some d) = refl

-- WHAT THE DISPLAY SHOWS, after any calls from fresh with no accepted close among them
pub display : (cs : List (Call × List ℕ)) → (run ours cs).ledger.closed ≡ false → (N : ℕ) → Shown (run ours cs) N
display cs yet N = record {
  owing = λ h. (λ y. let w = owing B s L ok c tracks h y in (w.timing, w.found, w.unfired), λ u. owed_back B s L ok c tracks h u.0 u.1 u.2);
  each = each;
  first = soonest_of s;
  is_least = least;
  least = shows;
  reported = λ l a h y z e.
      reported_due L N _ (exact l a) h y
      ∙ ap bit (sym (over_due N (L.line h).due z
      (sym (each h ∙ ap (λ (b : Bool). cond b (difference_of (L.line h).due N) (refused 3)) (and_left (L.line h).live _ y)) ∙ e)));
  silent = λ l a z e.
      let k = shown_some N (soonest_of s) z (sym shows ∙ e) in
      let m = subst (Least L) k.1 least in
      let v = over_due N k.0 z k.2 in
      (λ q. v ∙ unheard L N _ (exact l a) k.0 m q, λ q. past_due L N _ (exact l a) k.0 m (sym v ∙ q));
  nobody = λ l a e. nobody_due L N _ (exact l a) (subst (Least L) (shown_none N (soonest_of s) (sym shows ∙ e)) least);
}
  where
    B : Type 0
    B = Unit {0} × Bounded ours (run ours []) cs

    s : Set
    s = (run ours cs).state

    L : Ledger
    L = (run ours cs).ledger

    g : Good B (run ours cs)
    g = run_good cs

    ok : sound_of s ≡ true
    ok = sound_tells s g.fit.sound

    c : s.closed ≡ false
    c = g.follows.closed_too ∙ yet

    tracks : Tracks B s L
    tracks = g.follows.tracks yet

    least : Least L (soonest_of s)
    least = soonest_least B s L ok c tracks

    each : (h : Handle) → time_left_of s h N ≡ cond (L.line h).live (difference_of (L.line h).due N) (refused 3)
    each = shown B s L ok c tracks N

    shows : least_left_of s N ≡ shown_for N (soonest_of s)
    shows = least_open s N (ok, c) ∙ by_shown N (soonest_of s)

    -- what an accepted turn reports
    exact : (l : List ℕ) → Accepted ours (run ours cs) (C.Turn N) l → Exact L owed N (seen (ours.step s (C.Turn N) l))
    exact l a = (moment cs).turns N l refl a

-- and once a close was accepted both queries are refused with 2
pub display_closed : (cs : List (Call × List ℕ)) → (run ours cs).ledger.closed ≡ true → (h : Handle) (N : ℕ)
    → (time_left_of (run ours cs).state h N ≡ refused 2) × (least_left_of (run ours cs).state N ≡ refused 2)
display_closed cs was h N =
    let g = run_good cs in
    let s = (run ours cs).state in
    let ok = sound_tells s g.fit.sound in
    let c : s.closed ≡ true = g.follows.closed_too ∙ was in (left_closed s N h ok c, least_closed s N ok c)
