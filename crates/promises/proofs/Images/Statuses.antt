-- A status tells all of an answer that demand 3 asks for: the calls of a sound set are accepted, each with its own kind of value, or
-- refused with a number from 1 to 255 that is not 1 with a fault.
-- Assumes nothing.
use mathlib.Core.Path.{◌≡◌, refl, sym, ap, subst}
use mathlib.Core.Bool.{Bool, true, false, cond}
use mathlib.Core.Option.{Option, none, some}
use mathlib.Core.List.{List}
use Prim.Native.Nat.{ℕ, ◌<◌, ◌^◌}
use native.Mathlib.Omega.{arith}
use lib.Dec.{leb}
use lib.ListN.{length}
use borrow.Author.Tests.{ne_eqb}
use Rattle.refusals.specs.declared.fault.Fault.{Fault}
use Rattle.refusals.specs.declared.Refusal.TheVariants.{Unsound, Closed, ShortList}
use Rattle.refusals.specs.Answer.{Answer, accepted, refused, unsound, Outcome}
use Rattle.heap.specs.Capacity.{cap}
use Rattle.state.specs.declared.Handle.{Handle}
use Rattle.state.specs.declared.Set.{Set}
use Rattle.state.specs.Faults.{fault_of}
use Rattle.state.proofs.Handles.{place_ranged, named_word}
use Rattle.moves.specs.Rules.{lowest_free, drained_of, advanced_of}
use Rattle.timers.specs.Values.{Value, nothing, handle, counts, wake, handle_in}
use Rattle.timers.specs.declared.Timing.{Timing}
use Rattle.timers.specs.Calls.{judged, guarded, opened, live_at, alive, added_at, add_of, reset_of, cancel_of, lent, rang, roomy, refusing, turn_of, next_wake_of}
use Rattle.laws.proofs.AnyCall.Found.{lowest_in}
use Rattle.host.specs.Numbers.{status_of, or_nobody, handle_from}
use Rattle.host.specs.Seen.{word_or, count_or, wake_in, any_or, time_or}
use Rattle.promises.specs.Beside.{plain}
use Rattle.promises.specs.Images.{refusal_in, by_status, wake_of}

-- accepted with such a value, or refused with a number from 1 to 255 alone
abbrev pub Told : (Value → Type 0) → Answer Value → Type 0
Told Q (accepted v) = Q v
Told Q (refused n) = (0 < n) × (n < 2 ^ 8)
Told Q (unsound f) = ⊥

-- the kinds of values
abbrev pub IsHandle : Value → Type 0
IsHandle v = (h : Handle) × (v ≡ handle h) × (h.place.0 < 2 ^ 16)

abbrev pub IsNothing : Value → Type 0
IsNothing v = v ≡ nothing

abbrev pub IsCounts : Value → Type 0
IsCounts v = (r : ℕ) × (p : ℕ) × (v ≡ counts r p)

abbrev pub IsWake : Value → Type 0
IsWake v = (t : Option ℕ) × (v ≡ wake t)

-- THE WAY BACK FROM A STATUS

refusal_back : (n : ℕ) (v : Value) → (0 < n) × (n < 2 ^ 8) → by_status n v ≡ refused n
refusal_back n v b =
    let c : 0 < n = b.0 in
    let d : n < 2 ^ 8 = b.1 in
    let e : refusal_in n ≡ n = omega arith in
    rw (ne_eqb n 0 (λ z. omega arith)) (ap refused e)

-- where the value that is read of the answer is the one that was given
told_back : (Q : Value → Type 0) (f : Answer Value → Value) → ((v : Value) → Q v → accepted (f (accepted v)) ≡ plain (accepted v))
    → (a : Answer Value) → Told Q a → by_status (status_of a) (f a) ≡ plain a
told_back Q f e (accepted v) b = e v b
told_back Q f e (refused n) b = refusal_back n _ b
told_back Q f e (unsound x) b = absurd b

pub added_back : (a : Answer Value) → Told IsHandle a → by_status (status_of a) (handle (handle_from (word_or 0 (handle_in a)))) ≡ plain a
added_back =
    told_back IsHandle (λ a. handle (handle_from (word_or 0 (handle_in a))))
    (λ v b. rw b.1 (ap (λ (o : Option Handle). accepted (handle (or_nobody o))) (named_word b.0 b.2)))

pub done_back : (a : Answer Value) → Told IsNothing a → by_status (status_of a) nothing ≡ plain a
done_back = told_back IsNothing (λ a. nothing) (λ v b. rw b refl)

pub turned_back : (a : Answer Value) → Told IsCounts a → by_status (status_of a) (counts (count_or 0 a) 0) ≡ plain a
turned_back = told_back IsCounts (λ a. counts (count_or 0 a) 0) (λ v b. rw b.2 refl)

pub woken_back : (a : Answer Value) → Told IsWake a → by_status (status_of a) (wake (wake_of (any_or 0 (wake_in a)) (time_or 0 (wake_in a)))) ≡ plain a
woken_back = told_back IsWake (λ a. wake (wake_of (any_or 0 (wake_in a)) (time_or 0 (wake_in a)))) (λ v b. rw b.1 (go b.0))
  where
    go : (t : Option ℕ) → ◌≡◌ {A = Answer Value} (accepted (wake (wake_of (any_or 0 (some t)) (time_or 0 (some t))))) (accepted (wake t))
    go none = refl
    go (some t) = refl

-- THE CALLS

module _ (s : Set) (fine : fault_of s ≡ none) where
  module _ (Q : Value → Type 0) where
    guarded_told : {S : Type 0} (k : S) (o : Outcome S Value) → Told Q o.answer → Told Q (guarded s k o).answer
    unfolding guarded
    guarded_told k o t = subst (λ (x : Option Fault). Told Q (judged x o (λ y. refusing k (Unsound y))).answer) (sym fine) t

    open_told : {S : Type 0} (k : S) (o : Outcome S Value) → Told Q o.answer → Told Q (guarded s k (opened s k o)).answer
    open_told {S} k o t = guarded_told k (opened s k o) (go s.closed)
      where
        go : (b : Bool) → Told Q (cond b (refusing k Closed) o).answer
        go true = (omega arith, omega arith)
        go false = t

    alive_told : (h : Handle) (f : Timing → Outcome Set Value) → ((t : Timing) → Told Q (f t).answer) → Told Q (alive s (live_at s h) f).answer
    alive_told h f g = go (live_at s h)
      where
        go : (x : Option Timing) → Told Q (alive s x f).answer
        go none = (omega arith, omega arith)
        go (some t) = g t

  pub add_told : (d : ℕ) → Told IsHandle (add_of s d).answer
  unfolding add_of
  add_told d = open_told IsHandle s (added_at s d (lowest_free s)) (go (lowest_free s) refl)
    where
      go : (x : Option ℕ) → lowest_free s ≡ x → Told IsHandle (added_at s d x).answer
      go none e = (omega arith, omega arith)
      go (some p) e = (_, refl, place_ranged p (lowest_in s p e))

  pub reset_told : (h : Handle) (d : ℕ) → Told IsNothing (reset_of s h d).answer
  unfolding reset_of
  reset_told h d = open_told IsNothing s _ (alive_told IsNothing h _ (λ t. refl))

  pub cancel_told : (h : Handle) → Told IsNothing (cancel_of s h).answer
  unfolding cancel_of
  cancel_told h = open_told IsNothing s _ (alive_told IsNothing h _ (λ t. refl))

  pub turn_told : (N : ℕ) (l : List ℕ) → Told IsCounts (turn_of s N l).answer
  unfolding turn_of
  turn_told N l = open_told IsCounts (lent s l) (roomy s l (rang (advanced_of (drained_of s) N l))) (go (leb cap (length l)))
    where
      go : (b : Bool) → Told IsCounts (cond b (rang (advanced_of (drained_of s) N l)) (refusing (lent s l) ShortList)).answer
      go true = (_, _, refl)
      go false = (omega arith, omega arith)

  pub wake_told : Told IsWake (next_wake_of s).answer
  unfolding next_wake_of
  wake_told = guarded_told IsWake s _ (_, refl)
