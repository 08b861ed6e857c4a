-- What a call that was let through goes on with: what its guard or its door and the search for a free place have told it, and that
-- the place of a live handle, and a free one that was found, are in range.
-- Assumes nothing.
use mathlib.Core.Path.{◌≡◌, refl, sym, ap, ◌∙◌}
use mathlib.Core.Bool.{Bool, true, false, cond}
use mathlib.Core.Option.{Option, none, some}
use Prim.Native.Nat.{ℕ, ◌<◌}
use native.Mathlib.Omega.{arith}
use borrow.Author.Tests.{tests}
use Rattle.std.specs.Prelude as Code
use Rattle.std.specs.Prelude.{Result, Ok, Err, ⊤}
use Rattle.theory.proofs.First.{some_first}
use Rattle.refusals.specs.declared.fault.Fault.{Fault}
use Rattle.refusals.specs.declared.Refusal.{Refusal}
use Rattle.refusals.specs.declared.Refusal.TheVariants.{Unsound, Closed}
use Rattle.refusals.specs.Answer.{Answer, accepted, refused, unsound, refuse, Outcome, kept}
use Rattle.refusals.specs.Times as Times
use Rattle.refusals.proofs.Refusing.{any_refusal, not_both}
use Rattle.heap.specs.Capacity.{cap}
use Rattle.heap.specs.declared.Place.{Place}
use Rattle.word.specs.Rules.{fired_in}
use Rattle.interval.specs.declared.Policy.{Policy}
use Rattle.interval.specs.Rules.{tick_of, restart_of}
use Rattle.state.specs.declared.Set.{Set}
use Rattle.state.specs.declared.Handle.{Handle}
use Rattle.state.specs.Faults.{fault_of}
use Rattle.moves.specs.Rules.{taken, lowest_free, spot_of}
use Rattle.timers.specs.Calls.{Value, Timing, judged, refusing, guarded, opened, open_of, said_guard, live_at, alive, living, door_of, said_door, added_at, ticked, ticked_by, restarted_by}
use Rattle.timers.proofs.Guarding.{stopped_both}

-- turned away by the guard: the rule's refusal, whatever the call would have done
pub turned_away : (s : Set) (o : Outcome Set Value) {g : Result ⊤ Refusal} {why : Refusal} → g ≡ Err why → said_guard g ≡ open_of s
    → guarded s s (opened s s o) ≡ refusing s why
turned_away s o {why = why} q e = stopped_both s why (sym (ap said_guard q) ∙ e) s o

-- a call on a handle, by what the door says: refused, or done to the live timer
abbrev pub entering : Set → Result Timing Refusal → (Timing → Outcome Set Value) → Outcome Set Value
entering s (Err why) f = refusing s why
entering s (Ok t) f = f t

-- the same by the rule's answer
abbrev answered : Set → (Timing → Outcome Set Value) → Answer Timing → Outcome Set Value
answered s f (refused n) = kept s (refused n)
answered s f (unsound x) = kept s (unsound x)
answered s f (accepted t) = f t

by_answer : (s : Set) (f : Timing → Outcome Set Value) (k : Result Timing Refusal) → answered s f (said_door k) ≡ entering s k f
by_answer s f (Err why) = any_refusal (answered s f) (λ (a : Answer Value). kept s a) (λ n. refl) (λ x. refl) why
by_answer s f (Ok t) = refl

-- the rule of a call on a handle goes by what the door says: barred where the set is closed, or never for a call that one answers too
pub at_door : (barred : Bool) (s : Set) (h : Handle) (f : Timing → Outcome Set Value) {r k : Result Timing Refusal} → r ≡ k → said_door r ≡ door_of barred s h
    → guarded s s (cond barred (refusing s Closed) (alive s (live_at s h) f)) ≡ entering s k f
unfolding door_of guarded
at_door barred s h f {k = k} q e =
    go (fault_of s) barred (live_at s h) ∙ ap (answered s f) (sym e ∙ ap said_door q) ∙ by_answer s f k
  where
    go : (b : Option Fault) (c : Bool) (x : Option Timing) → judged b (cond c (refusing s Closed) (alive s x f)) (λ y. refusing s (Unsound y))
        ≡ answered s f (judged b (cond c (refuse Closed) (living x)) (λ y. refuse (Unsound y)))
    go none true x = refl
    go none false none = refl
    go none false (some t) = refl
    go (some y) c x = refl

-- turned away by the door, it is refused
pub door_stops : (barred : Bool) (s : Set) (h : Handle) (f : Timing → Outcome Set Value) (why : Refusal) → refuse why ≡ door_of barred s h
    → guarded s s (cond barred (refusing s Closed) (alive s (live_at s h) f)) ≡ refusing s why
door_stops barred s h f why e = at_door barred s h f {r = Err why} {k = Err why} refl e

-- an add goes by the place that was found
pub as_placed : (s : Set) (d : ℕ) {r k : Code.Option Place} → r ≡ k → spot_of r ≡ lowest_free s → added_at s d (lowest_free s) ≡ added_at s d (spot_of k)
as_placed s d q e = ap (added_at s d) (sym e ∙ ap spot_of q)

-- a tick of a timer that has fired goes by the interval's rule
pub as_timed : (s : Set) (h : Handle) (p : Policy) (period N : ℕ) (t : Timing) {r k : Result ℕ Refusal} {b : Bool} → b ≡ true → b ≡ fired_in t.word
    → r ≡ k → Times.said r ≡ tick_of p t.due period N → ticked s h p period N t ≡ ticked_by s h t (Times.said k)
as_timed s h p period N t y f q e = rw (sym f ∙ y) (ap (ticked_by s h t) (sym e ∙ ap Times.said q))

-- an interval reset goes by the interval's rule
pub as_restarted : (s : Set) (h : Handle) (period N : ℕ) (t : Timing) {r k : Result ℕ Refusal} → r ≡ k → Times.said r ≡ restart_of period N
    → restarted_by s h t (restart_of period N) ≡ restarted_by s h t (Times.said k)
as_restarted s h period N t q e = ap (restarted_by s h t) (sym e ∙ ap Times.said q)

-- and what that refuses is refused
pub tick_refused : (s : Set) (h : Handle) (t : Timing) (why : Refusal) → ticked_by s h t (refuse why) ≡ refusing s why
tick_refused s h t why = any_refusal (ticked_by s h t) (λ (a : Answer Value). kept s a) (λ n. refl) (λ x. refl) why

pub restart_refused : (s : Set) (h : Handle) (t : Timing) (why : Refusal) → restarted_by s h t (refuse why) ≡ refusing s why
restart_refused s h t why = any_refusal (restarted_by s h t) (λ (a : Answer Value). kept s a) (λ n. refl) (λ x. refl) why

-- a handle that the door lets in has its place in range
pub live_place : (barred : Bool) (s : Set) (h : Handle) {t : Timing} → accepted t ≡ door_of barred s h → h.place.0 < cap
unfolding door_of live_at
live_place barred s h e = grind (arith, tests, not_both)

-- a free place that was found is in range
pub free_place : (s : Set) {p : ℕ} → some p ≡ lowest_free s → p < cap
unfolding lowest_free
free_place s {p} e = (some_first (taken s) cap 0 p (sym e)).1
