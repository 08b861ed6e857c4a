-- An engine that meets the statement never refuses with 1, whatever fault it would name, or none: no call must be answered so.
-- Assumes nothing.
use mathlib.Core.Path.{◌≡◌, refl, ap, ◌∙◌}
use mathlib.Core.Bool.{Bool, true, false, cond}
use mathlib.Core.Option.{Option, none, some}
use mathlib.Core.List.{List}
use Prim.Native.Nat.{ℕ, ◌+◌, ◌%◌, ◌-◌, ◌^◌}
use mathlib.Core.Logic.{◌≢◌}
use lib.Dec.{ltb, eqb}
use borrow.Author.Tests.{eqb-false}
use lib.ListN.{length}
use Rattle.refusals.specs.Answer.{Answer, accepted, refused, unsound, number_in}
use Rattle.refusals.specs.Times.{timely}
use Rattle.heap.specs.Capacity.{cap}
use Rattle.interval.specs.declared.Policy.{Policy}
use Rattle.interval.specs.declared.Policy.TheVariants.{Burst, Delay, Skip}
use Rattle.interval.specs.Rules.{late_at, earlier, late_of, tick_of, restart_of}
use Rattle.timers.specs.declared.Call.{Call}
use Rattle.timers.specs.declared.Call.TheVariants as C
use Rattle.timers.specs.Values.{Value, nothing, polled, time}
use Rattle.theory.specs.First.{first_bad}
use Rattle.promises.specs.Turns.{Engine, Line, Ledger, taken_in, added_at, if_live, if_timed, exactly, counting, Answers, while_open, once_closed, must, run, all_asked, Meets}

-- whether the number of a refusal is 1
abbrev one : {A : Type 0} → Answer A → Bool
one a = eqb (number_in a) 1

-- one of two that are not so refused
either : {A : Type 0} (b : Bool) (a c : Answer A) → one a ≡ false → one c ≡ false → one (cond b a c) ≡ false
either true a c p q = p
either false a c p q = q

-- a sum of times, and what an interval sets
timely_none : (t : ℕ) → one (timely t) ≡ false
timely_none t = either (ltb t (2 ^ 64)) (accepted t) (refused 6) refl refl

earlier_none : (a : Answer ℕ) (d : ℕ) → one a ≡ false → one (earlier a d) ≡ false
earlier_none (accepted t) d e = refl
earlier_none (refused n) d e = e
earlier_none (unsound f) d e = e

late_none : (p : Policy) (T period N : ℕ) → one (late_of p T period N) ≡ false
late_none Burst T period N = timely_none (T + period)
late_none Delay T period N = timely_none (N + period)
late_none Skip T period N =
    either (eqb period 0) (refused 9) (earlier (timely (N + period)) ((N - T) % period)) refl
    (earlier_none (timely (N + period)) ((N - T) % period) (timely_none (N + period)))

tick_none : (p : Policy) (T period N : ℕ) → one (tick_of p T period N) ≡ false
tick_none p T period N =
    either (late_at T N) (late_of p T period N) (timely (T + period)) (late_none p T period N) (timely_none (T + period))

timed_none : (a : Answer ℕ) (v : Value) → one a ≡ false → one (if_timed a v) ≡ false
timed_none (accepted t) v e = refl
timed_none (refused n) v e = e
timed_none (unsound f) v e = e

live_none : (l : Line) (a : Answer Value) → one a ≡ false → one (if_live l a) ≡ false
live_none l a e = either l.live a (refused 3) e refl

added_none : (L : Ledger) (o : Option ℕ) → one (added_at L o) ≡ false
added_none L none = refl
added_none L (some p) = refl

-- an answer that is the one that must be
exact : (x a : Answer Value) → one x ≡ false → a ≡ x → one a ≡ false
exact x a h e = ap one e ∙ h

short_none : (b : Bool) (a : Answer Value) → Answers (cond b (exactly (refused 5)) counting) a → one a ≡ false
short_none true a e = ap one e
short_none false a (n, m, e) = ap one e

open_none : (L : Ledger) (n : ℕ) (c : Call) (a : Answer Value) → Answers (while_open L n c) a → one a ≡ false
open_none L n (C.Add d) a = exact (added_at L (first_bad (taken_in L) cap 0)) a (added_none L (first_bad (taken_in L) cap 0))
open_none L n (C.Reset h d) a = exact _ a (live_none (L.line h) (accepted nothing) refl)
open_none L n (C.Cancel h) a = exact _ a (live_none (L.line h) (accepted nothing) refl)
open_none L n C.Drain a = ap one
open_none L n (C.Advance N) a = short_none (ltb n cap) a
open_none L n (C.Turn N) a = short_none (ltb n cap) a
open_none L n C.NextWake a = λ (t, e). ap one e
open_none L n (C.Poll h) a = exact _ a (live_none (L.line h) (accepted (polled (cond (L.line h).reported 1 0))) refl)
open_none L n C.Close a = ap one
open_none L n (C.Tick h p period N) a =
    let l = L.line h in
    let x = if_timed (tick_of p l.due period N) (time l.due) in
    exact _ a
    (live_none l (cond l.reported x (refused 10))
    (either l.reported x (refused 10) (timed_none (tick_of p l.due period N) (time l.due) (tick_none p l.due period N)) refl))
open_none L n (C.Restart h period N) a =
    exact _ a (live_none (L.line h) (if_timed (restart_of period N) nothing) (timed_none (restart_of period N) nothing (timely_none (N + period))))

closed_none : (L : Ledger) (c : Call) (a : Answer Value) → Answers (once_closed L c) a → one a ≡ false
closed_none L (C.Add d) a = ap one
closed_none L (C.Reset h d) a = ap one
closed_none L (C.Cancel h) a = ap one
closed_none L C.Drain a = ap one
closed_none L (C.Advance N) a = ap one
closed_none L (C.Turn N) a = ap one
closed_none L C.NextWake a = ap one
closed_none L (C.Poll h) a = exact _ a (live_none (L.line h) (accepted (polled (cond (L.line h).reported 1 2))) refl)
closed_none L C.Close a = ap one
closed_none L (C.Tick h p period N) a = ap one
closed_none L (C.Restart h period N) a = ap one

must_none : (L : Ledger) (c : Call) (l : List ℕ) (a : Answer Value) → Answers (must L c l) a → one a ≡ false
must_none L c l a = go L.closed
  where
    go : (b : Bool) → Answers (cond b (once_closed L c) (while_open L (length l) c)) a → one a ≡ false
    go true = closed_none L c a
    go false = open_none L (length l) c a

-- NO REFUSAL WITH 1, with any pair or with none
pub never_faulty : (E : Engine) (asked : Call → Bool) → Meets E asked → (cs : List (Call × List ℕ)) → all_asked asked cs ≡ true → (c : Call) (l : List ℕ)
    → asked c ≡ true → number_in (E.step (run E cs).state c l).answer ≢ 1
never_faulty E asked m cs a c l q = eqb-false _ 1 (must_none (run E cs).ledger c l _ ((m cs a).answers c l q))
