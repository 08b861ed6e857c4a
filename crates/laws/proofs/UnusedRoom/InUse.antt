-- Two sets that differ only in room not in use give the same answers to every call, write the same to the lent list, and go on
-- differing only there.
-- Assumes nothing.
use mathlib.Core.Path.{◌≡◌, refl, sym, ap, subst}
use mathlib.Core.Option.{Option, none, some}
use mathlib.Core.List.{List}
use Prim.Native.Nat.{ℕ}
use lib.ListN.{length, get_or}
use Rattle.theory.proofs.Tests.{ref_le}
use Rattle.refusals.specs.declared.Refusal.TheVariants.{Full, ShortList, NotFired}
use Rattle.refusals.specs.Answer.{Answer, accepted, refused, unsound, refuse, Outcome}
use Rattle.heap.specs.Capacity.{cap}
use Rattle.heap.specs.declared.Entry.{Entry}
use Rattle.heap.proofs.UnusedRoom.InUseWalks.{choose_ref}
use Rattle.heap.proofs.UnusedRoom.InUse.{peek_sound_in_use}
use Rattle.word.specs.Rules as Word
use Rattle.interval.specs.declared.Policy.{Policy}
use Rattle.interval.specs.Rules.{tick_of, restart_of}
use Rattle.state.specs.declared.Life.TheVariants.{Live, Cancelled}
use Rattle.state.specs.declared.Set.{Set}
use Rattle.state.specs.declared.Handle.{Handle}
use Rattle.state.specs.State.{no_timer}
use Rattle.state.specs.InUse.{Twins}
use Rattle.state.proofs.PlaceTest.{ref_self}
use Rattle.state.proofs.InUse.{heap_twins, by_heap}
use Rattle.timers.specs.declared.Call.{Call}
use Rattle.timers.specs.declared.Call.TheVariants as C
use Rattle.moves.specs.Rules.{taken, lowest_free, Ring}
use Rattle.timers.specs.declared.Timing.{Timing}
use Rattle.timers.specs.Calls.{Value, nothing, handle, counts, wake, polled, time, gives, added_at, add_of, reset_to, reset_of, cancel_of, drain_of, rang, roomy, advance_of, turn_of, wake_by, next_wake_of, poll_by, poll_of, close_of, ticked_by, tick_at, restarted_by, restart_at, with_list, step}
use Rattle.laws.specs.InUse.{SameOutcome, SameLent}
use Rattle.laws.proofs.UnusedRoom.InUseDrain.{Alike, touched_alike, drain_alike}
use Rattle.laws.proofs.UnusedRoom.InUseRings.{SameRing, advanced_same, closed_alike}
use Rattle.laws.proofs.UnusedRoom.InUseGuards.{kept_same, gives_same, guarded_same, open_same, alive_same}

module _ {a b : Set} (r : Twins a b) where
  add_same : (d : ℕ) → SameOutcome Twins (add_of a d) (add_of b d)
  unfolding add_of lowest_free taken
  add_same d =
      open_same r Twins r
      (λ q. subst (λ (x : Option ℕ). SameOutcome Twins (added_at a d x) (added_at b d (lowest_free b))) (sym found) (go q (lowest_free b)))
    where
      found : lowest_free a ≡ lowest_free b
      found = by_heap (λ (c d : Set). lowest_free c ≡ lowest_free d) (λ s g _. refl) r

      go : Alike a b → (x : Option ℕ) → SameOutcome Twins (added_at a d x) (added_at b d x)
      go q none = kept_same Twins r (refuse Full)
      go q (some p) = record {
        answers = λ t. accepted (handle (record { place = record { 0 = p }; uses = (get_or (r.same.same_timers t) p no_timer).uses }));
        states = (touched_alike q p (Live 0 d)).twins;
      }

  -- a reset, from whatever call
  reset_to_lem : Alike a b → (h : Handle) (d : ℕ) (t : Timing) (v : Value) → SameOutcome Twins (gives (reset_to a h d t) v) (gives (reset_to b h d t) v)
  reset_to_lem q h d t v = gives_same (touched_alike q h.place.0 (Live (Word.reset_of t.word) d)) v

  reset_same : (h : Handle) (d : ℕ) → SameOutcome Twins (reset_of a h d) (reset_of b h d)
  unfolding reset_of
  reset_same h d = open_same r Twins r (λ q. alive_same r h (λ t. reset_to_lem q h d t nothing))

  cancel_same : (h : Handle) → SameOutcome Twins (cancel_of a h) (cancel_of b h)
  unfolding cancel_of
  cancel_same h = open_same r Twins r (λ q. alive_same r h (λ t. gives_same (touched_alike q h.place.0 (Cancelled t.word)) nothing))

  drain_same : SameOutcome Twins (drain_of a) (drain_of b)
  unfolding drain_of
  drain_same = open_same r Twins r (λ q. gives_same (drain_alike cap q) nothing)

  -- an advance from whatever sets: its list and its counts are the same
  rang_same : (l : List ℕ) {x y : Ring} → SameRing x y → SameOutcome SameLent (roomy a l (rang x)) (roomy b l (rang y))
  rang_same l e =
      choose_ref (SameOutcome SameLent) refl (ref_le cap (length l))
      (λ _. record { answers = λ t. accepted (counts (e.reported t) (e.popped t)); states = record { sets = e.sets.twins; lists = e.lists } })
      (λ _. kept_same SameLent (record { sets = r; lists = refl }) (refuse ShortList))

  advance_same : (N : ℕ) (l : List ℕ) → SameOutcome SameLent (advance_of a N l) (advance_of b N l)
  unfolding advance_of
  advance_same N l = open_same r SameLent (record { sets = r; lists = refl }) (λ q. rang_same l (advanced_same q N l))

  turn_same : (N : ℕ) (l : List ℕ) → SameOutcome SameLent (turn_of a N l) (turn_of b N l)
  unfolding turn_of
  turn_same N l = open_same r SameLent (record { sets = r; lists = refl }) (λ q. rang_same l (advanced_same (drain_alike cap q) N l))

  next_wake_same : SameOutcome Twins (next_wake_of a) (next_wake_of b)
  unfolding next_wake_of
  next_wake_same =
      guarded_same r Twins r
      (λ q. record {
        answers = ap (λ (x : Answer (Option Entry)). accepted (wake (wake_by x))) (peek_sound_in_use a.heap b.heap (heap_twins r));
        states = r;
      })

  poll_same : (h : Handle) → SameOutcome Twins (poll_of a h) (poll_of b h)
  unfolding poll_of
  poll_same h = guarded_same r Twins r (λ q. alive_same r h (λ t. gives_same q (polled (poll_by (Word.poll_of t.word)))))

  close_same : SameOutcome Twins (close_of a) (close_of b)
  unfolding close_of
  close_same = open_same r Twins r (λ q. gives_same (closed_alike q) nothing)

  tick_same : (h : Handle) (p : Policy) (period N : ℕ) → SameOutcome Twins (tick_at a h p period N) (tick_at b h p period N)
  unfolding tick_at
  tick_same h p period N =
      open_same r Twins r
      (λ q. alive_same r h
      (λ t. choose_ref (SameOutcome Twins) refl (ref_self (Word.fired_in t.word)) (λ _. go q t (tick_of p t.due period N))
      (λ _. kept_same Twins r (refuse NotFired))))
    where
      go : Alike a b → (t : Timing) (x : Answer ℕ) → SameOutcome Twins (ticked_by a h t x) (ticked_by b h t x)
      go q t (accepted d) = reset_to_lem q h d t (time t.due)
      go q t (refused n) = kept_same Twins r (refused n)
      go q t (unsound x) = kept_same Twins r (unsound x)

  restart_same : (h : Handle) (period N : ℕ) → SameOutcome Twins (restart_at a h period N) (restart_at b h period N)
  unfolding restart_at
  restart_same h period N = open_same r Twins r (λ q. alive_same r h (λ t. go q t (restart_of period N)))
    where
      go : Alike a b → (t : Timing) (x : Answer ℕ) → SameOutcome Twins (restarted_by a h t x) (restarted_by b h t x)
      go q t (accepted d) = reset_to_lem q h d t nothing
      go q t (refused n) = kept_same Twins r (refused n)
      go q t (unsound x) = kept_same Twins r (unsound x)

-- a call that leaves the lent list as it was
listed_same : {o q : Outcome Set Value} (l : List ℕ) → SameOutcome Twins o q → SameOutcome SameLent (with_list l o) (with_list l q)
listed_same l e = record { answers = e.answers; states = record { sets = e.states; lists = refl } }

-- every call: the same answer, the same list, and sets that differ only in room not in use
pub step_in_use : (a b : Set) → Twins a b → (c : Call) (l : List ℕ) → SameOutcome SameLent (step a c l) (step b c l)
unfolding step
step_in_use a b r (C.Add d) l = listed_same l (add_same r d)
step_in_use a b r (C.Reset h d) l = listed_same l (reset_same r h d)
step_in_use a b r (C.Cancel h) l = listed_same l (cancel_same r h)
step_in_use a b r C.Drain l = listed_same l (drain_same r)
step_in_use a b r (C.Advance N) l = advance_same r N l
step_in_use a b r (C.Turn N) l = turn_same r N l
step_in_use a b r C.NextWake l = listed_same l (next_wake_same r)
step_in_use a b r (C.Poll h) l = listed_same l (poll_same r h)
step_in_use a b r C.Close l = listed_same l (close_same r)
step_in_use a b r (C.Tick h p period N) l = listed_same l (tick_same r h p period N)
step_in_use a b r (C.Restart h period N) l = listed_same l (restart_same r h period N)
