-- The two queries agree with each other and with the polls: the least time left is that of a pending handle with the least deadline, and
-- none exactly where no handle is pending.
-- Assumes nothing.
use mathlib.Core.Path.{◌≡◌, refl, sym, ap, subst, ◌∙◌}
use mathlib.Core.Bool.{Bool, true, false, cond}
use mathlib.Core.Option.{Option, none, some}
use Prim.Native.Nat.{ℕ, ◌≤◌, ◌<◌}
use native.Mathlib.Omega.{arith}
use lib.IntN.{ℤ}
use Rattle.theory.specs.Least.{through}
use Rattle.theory.proofs.Least.{Found, Told, least_told}
use Rattle.theory.proofs.Tests.{none_some}
use Rattle.refusals.specs.declared.fault.Fault.{Fault}
use Rattle.refusals.specs.declared.Refusal.TheVariants.{Unsound, Closed, DeadHandle}
use Rattle.refusals.specs.Answer.{Answer, accepted, refused, unsound, refuse}
use Rattle.theory.specs.Chain.{clear}
use Rattle.refusals.proofs.Refusing.{not_both, never}
use Rattle.refusals.specs.Times.{signed, difference_of}
use Rattle.heap.specs.Capacity.{cap}
use Rattle.word.specs.Rules.{fired_in, invalid_in}
use Rattle.word.specs.Rules as Word
use Rattle.state.specs.declared.Life.{Life}
use Rattle.state.specs.declared.Life.TheVariants.{Free, Live, Cancelled, Retired}
use Rattle.state.specs.declared.Set.{Set}
use Rattle.state.specs.declared.Handle.{Handle}
use Rattle.state.specs.State.{timer_at}
use Rattle.state.specs.Faults.{fault_of, sound_of}
use Rattle.state.specs.Named.{Goes}
use Rattle.state.proofs.Parts.{places_fine}
use Rattle.timers.specs.declared.Timing.{Timing}
use Rattle.timers.specs.Calls.{judged, refusing, polled, timing_of, live_at, alive, living, guarded, door_of, poll_by, poll_of, gives}
use Rattle.timers.specs.Left.{left_at, time_left_by, time_left_of, pending_in, pending_at, or_none, least_by, least_left_of, soonest_of}
use Rattle.timers.proofs.Guarding.{sound_none}
use Rattle.timers.proofs.Shortest.{least_open}
use Rattle.laws.specs.Pending.{Pending, Foremost}
use Rattle.laws.proofs.Handles.Naming.{names_same, live_in_range, live_told}

-- what a poll that says pending tells: the set is sound, the handle is live, and its timer has not fired
pub record PendingTold (s : Set) (h : Handle) : Type 0 where
  pub sound : sound_of s ≡ true
  pub timing : Timing
  pub found : live_at s h ≡ some timing
  pub unfired : fired_in timing.word ≡ false

-- a word that polls as pending has not fired
unfired_word : (w : ℕ) → poll_by (Word.poll_of w) ≡ 0 → fired_in w ≡ false
unfired_word w e = go (fired_in w) (invalid_in w) e
  where
    go : (f i : Bool) → ◌≡◌ {A = ℕ} (cond f 1 (cond i 2 0)) 0 → f ≡ false
    go true i e = absurd (omega arith)
    go false i e = refl

pub pending_told : (s : Set) (h : Handle) → Pending s h → PendingTold s h
unfolding poll_of guarded sound_of
pending_told s h e = go (fault_of s) (live_at s h) refl refl e
  where
    go : (b : Option Fault) (o : Option Timing) → fault_of s ≡ b → live_at s h ≡ o
        → (judged b (alive s o (λ t. gives s (polled (poll_by (Word.poll_of t.word))))) (λ x. refusing s (Unsound x))).answer ≡ accepted (polled 0)
        → PendingTold s h
    go none (some t) p q e = record {
      sound = ap clear p;
      timing = t;
      found = q;
      unfired = let z : poll_by (Word.poll_of t.word) ≡ 0 = cc in unfired_word t.word z;
    }
    go none none p q e = absurd (not_both DeadHandle (sym e))
    go (some x) o p q e = absurd (not_both (Unsound x) (sym e))

-- and the place of such a handle has its deadline among those that count
pub pending_place : (s : Set) (h : Handle) (t : Timing) → live_at s h ≡ some t → fired_in t.word ≡ false
    → (h.place.0 < cap) × (pending_at s h.place.0 ≡ some t.due)
pending_place s h t e u =
    let k = live_told s h t e in (k.in_range, ap pending_in k.is_live ∙ ap (λ (b : Bool). cond b none (some t.due)) u)

-- what a poll of a live handle answers
poll_of_lem : (s : Set) (h : Handle) (t : Timing) → sound_of s ≡ true → live_at s h ≡ some t → (poll_of s h).answer ≡ accepted (polled (poll_by (Word.poll_of t.word)))
unfolding poll_of guarded
poll_of_lem s h t p e = go (fault_of s) (live_at s h) (sound_none s p) e
  where
    go : (b : Option Fault) (o : Option Timing) → b ≡ none → o ≡ some t
        → (judged b (alive s o (λ t. gives s (polled (poll_by (Word.poll_of t.word))))) (λ x. refusing s (Unsound x))).answer
        ≡ accepted (polled (poll_by (Word.poll_of t.word)))
    go b o p e = rw (p, e)

-- the handle of the timer that a place has now
abbrev pub handle_of : Set → ℕ → Handle
handle_of s p = record { place = record { 0 = p }; uses = (timer_at s p).uses }

-- a deadline that counts is that of a handle which a poll calls pending, in a set that is sound and open
pub record Counted (s : Set) (p d : ℕ) : Type 0 where
  pub word : ℕ
  pub found : live_at s (handle_of s p) ≡ some (record { word = word; due = d })
  pub unfired : fired_in word ≡ false
  pub pending : Pending s (handle_of s p)

pub place_pending : (s : Set) → sound_of s ≡ true → s.closed ≡ false → (p d : ℕ) → p < cap → pending_at s p ≡ some d → Counted s p d
place_pending s ok c p d l e = go (timer_at s p).life refl e
  where
    h : Handle
    h = handle_of s p

    -- in an open set that passes its test a live timer has no invalid mark
    live : (w : ℕ) → (timer_at s p).life ≡ Live w d → fired_in w ≡ false → Counted s p d
    live w q u =
        let i : invalid_in w ≡ false = subst (Goes s.closed (timer_at s p)) q (places_fine s ok p l).goes c in
        let f : live_at s h ≡ some (record { word = w; due = d }) =
        live_in_range s h l ∙ names_same (timer_at s p) (timer_at s p).uses refl ∙ ap timing_of q in
        let z : poll_by (Word.poll_of w) ≡ 0 = rw (u, i) refl in
        record { word = w; found = f; unfired = u; pending = poll_of_lem s h (record { word = w; due = d }) ok f ∙ ap (λ (n : ℕ). accepted (polled n)) z }

    go : (x : Life) → (timer_at s p).life ≡ x → pending_in x ≡ some d → Counted s p d
    go Free q e = absurd (none_some refl e)
    go (Cancelled w) q e = absurd (none_some refl e)
    go Retired q e = absurd (none_some refl e)
    go (Live w m) q e = counts (fired_in w) refl e
      where
        counts : (b : Bool) → fired_in w ≡ b → cond b none (some m) ≡ some d → Counted s p d
        counts true u e = absurd (none_some refl e)
        counts false u e = let z : m ≡ d = cc in live w (q ∙ ap (Live w) z) u

module _ (s : Set) (N : ℕ) where
  -- a closed set refuses both with 2
  pub least_closed : sound_of s ≡ true → s.closed ≡ true → least_left_of s N ≡ refuse Closed
  unfolding least_left_of
  least_closed p q = go (fault_of s) s.closed _ (sound_none s p) q
    where
      go : (b : Option Fault) (c : Bool) (a : Answer (Option ℤ)) → b ≡ none → c ≡ true → judged b (cond c (refuse Closed) a) (λ x. refuse (Unsound x)) ≡ refuse Closed
      go b c a p q = rw (p, q)

  pub left_closed : (h : Handle) → sound_of s ≡ true → s.closed ≡ true → time_left_of s h N ≡ refuse Closed
  unfolding time_left_of door_of
  left_closed h p q = go (fault_of s) s.closed _ (sound_none s p) q
    where
      go : (b : Option Fault) (c : Bool) (a : Answer Timing) → b ≡ none → c ≡ true
          → time_left_by N (judged b (cond c (refuse Closed) a) (λ x. refuse (Unsound x))) ≡ refuse Closed
      go b c a p q = rw (p, q)

  -- of a live handle the time left is the difference from its deadline
  pub left_of : (h : Handle) (t : Timing) → sound_of s ≡ true → s.closed ≡ false → live_at s h ≡ some t → time_left_of s h N ≡ difference_of t.due N
  unfolding time_left_of door_of
  left_of h t p q e = go (fault_of s) s.closed (live_at s h) (sound_none s p) q e
    where
      go : (b : Option Fault) (c : Bool) (o : Option Timing) → b ≡ none → c ≡ false → o ≡ some t
          → time_left_by N (judged b (cond c (refuse Closed) (living o)) (λ x. refuse (Unsound x))) ≡ difference_of t.due N
      go b c o p q e = rw (p, q, e)

-- the earliest deadline that counts is that of a pending handle which has the least one
soonest_is : (s : Set) → sound_of s ≡ true → s.closed ≡ false → (h : Handle) (t : Timing) → live_at s h ≡ some t → fired_in t.word ≡ false
    → ((k : Handle) (u : Timing) → Pending s k → live_at s k ≡ some u → t.due ≤ u.due) → soonest_of s ≡ some t.due
unfolding soonest_of
soonest_is s ok c h t e u least = go (soonest_of s) (least_told (pending_at s) cap)
  where
    mine : (h.place.0 < cap) × (pending_at s h.place.0 ≡ some t.due)
    mine = pending_place s h t e u

    go : (o : Option ℕ) → Told (pending_at s) cap o → o ≡ some t.due
    go none k = absurd (none_some (k h.place.0 mine.0) mine.1)
    go (some d) k =
        let m : d ≤ t.due = k.least h.place.0 t.due mine.0 mine.1 in
        let x = place_pending s ok c k.it d k.below k.has in
        let n : t.due ≤ d = least (handle_of s k.it) (record { word = x.word; due = d }) x.pending x.found in
        let z : d ≡ t.due = omega arith in
        ap some z

-- THE TWO AGREE: of a pending handle with the least deadline, whatever that answers, a refusal with 6 included
pub least_agrees : (s : Set) (N : ℕ) (h : Handle) → Foremost s h → least_left_of s N ≡ or_none (time_left_of s h N)
least_agrees s N h f = go s.closed refl
  where
    k : PendingTold s h
    k = pending_told s h f.pending

    same : k.timing ≡ f.timing
    same = let a = k.found in let b = f.found in cc

    unfired : fired_in f.timing.word ≡ false
    unfired = ap (λ (t : Timing). fired_in t.word) (sym same) ∙ k.unfired

    go : (b : Bool) → s.closed ≡ b → least_left_of s N ≡ or_none (time_left_of s h N)
    go true c = least_closed s N k.sound c ∙ sym (ap or_none (left_closed s N h k.sound c))
    go false c =
        least_open s N (k.sound, c)
        ∙ ap (λ (o : Option ℕ). least_by (through (left_at N) o)) (soonest_is s k.sound c h f.timing f.found unfired f.least)
        ∙ sym (ap or_none (left_of s N h f.timing k.sound c f.found))

-- none where no handle is pending, in a set that is sound and open
pub none_pending : (s : Set) (N : ℕ) → sound_of s ≡ true → s.closed ≡ false → ((h : Handle) → ¬ Pending s h) → least_left_of s N ≡ accepted none
unfolding soonest_of
none_pending s N ok c nobody =
    least_open s N (ok, c) ∙ ap (λ (o : Option ℕ). least_by (through (left_at N) o)) (go (soonest_of s) (least_told (pending_at s) cap))
  where
    go : (o : Option ℕ) → Told (pending_at s) cap o → o ≡ none
    go none k = refl
    go (some d) k = absurd (nobody (handle_of s k.it) (place_pending s ok c k.it d k.below k.has).pending)

-- and where it is none, no handle is pending
pub pending_none : (s : Set) (N : ℕ) → least_left_of s N ≡ accepted none → (h : Handle) → ¬ Pending s h
unfolding soonest_of
pending_none s N e h k = go s.closed refl
  where
    t : PendingTold s h
    t = pending_told s h k

    mine : (h.place.0 < cap) × (pending_at s h.place.0 ≡ some t.timing.due)
    mine = pending_place s h t.timing t.found t.unfired

    by : (o : Option ℕ) → Told (pending_at s) cap o → least_by (through (left_at N) o) ≡ accepted none → ⊥
    by none x q = none_some (x h.place.0 mine.0) mine.1
    by (some d) x q = shown (signed (left_at N d)) q
      where
        shown : (a : Answer ℤ) → or_none a ≡ accepted none → ⊥
        shown (accepted z) q = let y : some z ≡ none = cc in none_some y refl
        shown (refused n) q = never refl q
        shown (unsound x) q = never refl q

    go : (b : Bool) → s.closed ≡ b → ⊥
    go true c = not_both Closed (sym e ∙ least_closed s N t.sound c)
    go false c = by (soonest_of s) (least_told (pending_at s) cap) (sym (least_open s N (t.sound, c)) ∙ e)

-- where a handle is pending, one is foremost
pub foremost : (s : Set) → sound_of s ≡ true → s.closed ≡ false → (h : Handle) → Pending s h → (k : Handle) × Foremost s k
unfolding soonest_of
foremost s ok c h p = go (soonest_of s) (least_told (pending_at s) cap)
  where
    t : PendingTold s h
    t = pending_told s h p

    mine : (h.place.0 < cap) × (pending_at s h.place.0 ≡ some t.timing.due)
    mine = pending_place s h t.timing t.found t.unfired

    -- no deadline that counts is earlier, and every pending handle's counts
    first : (d : ℕ) → Found (pending_at s) cap d → (k : Handle) (u : Timing) → Pending s k → live_at s k ≡ some u → d ≤ u.due
    first d x k u q e =
        let w = pending_told s k q in
        let m = pending_place s k w.timing w.found w.unfired in
        let same : w.timing ≡ u = (let a = w.found in cc) in
        let n = x.least k.place.0 w.timing.due m.0 m.1 in
        let v = ap (λ (z : Timing). z.due) same in
        omega arith

    go : (o : Option ℕ) → Told (pending_at s) cap o → (k : Handle) × Foremost s k
    go none x = absurd (none_some (x h.place.0 mine.0) mine.1)
    go (some d) x =
        let y = place_pending s ok c x.it d x.below x.has in
        (handle_of s x.it, record { pending = y.pending; timing = record { word = y.word; due = d }; found = y.found; least = first d x })
