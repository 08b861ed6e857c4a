-- DEMAND 3: every turn reports exactly the timers that are owed and due, and every call is answered as the calls before it say it must be.
-- The whole statement, of any engine; `Meets` is the claim. The project's engine meets it (proofs/Engine.antt), useless ones do not
-- (proofs/Useless.antt); specs/Traces.antt has worked traces.
-- Assumes nothing.
use Rattle.std.specs.Prelude.{◌≡◌, Bool, true, false, not, cond, ◌&&◌, ◌||◌, ℕ, zero, suc, ◌+◌, ◌≤◌, ◌<◌, ◌^◌, ltb, leb, eqb, length, take, drop}
use Rattle.std.proofs.Math.Option.{Option, none, some}
use mathlib.Core.List.{List, [], ◌∷◌, filter_map}
use Rattle.std.proofs.Math.Decide.{ℕ_discrete}
use Rattle.theory.specs.Tests.{bit}
use Rattle.theory.specs.First.{first_bad}
use Rattle.theory.specs.Update.{upd}
use Rattle.theory.specs.Occurs.{times, has}
use Rattle.theory.specs.Weights.{Rising}
use Rattle.refusals.specs.Answer.{Answer, accepted, refused, value_or, is_accepted, Outcome, unsound}
use Rattle.heap.specs.Capacity.{cap}
use Rattle.interval.specs.Rules.{tick_of, restart_of}
use Rattle.state.specs.declared.Handle.{Handle}
use Rattle.state.specs.Handles.{named_by, handle_discrete}
use Rattle.timers.specs.declared.Call.{Call}
use Rattle.timers.specs.declared.Call.TheVariants as C
use Rattle.timers.specs.Values.{Value, nothing, handle, counts, wake, polled, time, handle_in, reports_in}

-- AN ENGINE: its states, a fresh one, and what a call with a lent list leaves of both and answers
pub record Engine : Type 1 where
  pub State : Type 0
  pub fresh : State
  pub step : State → Call → List ℕ → Outcome (State × List ℕ) Value

-- WHAT THE CALLER SEES: the answer, and whom the words of the list name, from its start to the count answered. A word that names nobody
-- is no report: there are then fewer than the count says
pub record Seen : Type 0 where
  pub answer : Answer Value
  pub reports : List Handle

abbrev pub seen : {S : Type 0} → Outcome (S × List ℕ) Value → Seen
seen o = record { answer = o.answer; reports = filter_map named_by (take (reports_in o.answer) o.state.1) }

-- THE LEDGER, kept from calls and answers alone: a line for each handle, how many handles of each place were given out, and whether a
-- close was accepted
pub record Line : Type 0 where
  pub live : Bool  -- added, and not cancelled
  pub due : ℕ  -- the deadline of the last accepted add or reset
  pub reported : Bool  -- reported since then
  pub drained : Bool  -- drained since then
  pub resets : ℕ  -- accepted resets since the last drain
  pub leaving : Bool  -- cancelled, and not drained since

pub record Ledger : Type 0 where
  pub line : Handle → Line
  pub given : ℕ → ℕ
  pub closed : Bool

abbrev pub blank : Ledger
blank = record {
  line = λ h. record { live = false; due = 0; reported = false; drained = false; resets = 0; leaving = false };
  given = λ p. 0;
  closed = false;
}

-- an add; a reset to d, by whatever call; a cancel; a drain; a report or none
abbrev pub begun : ℕ → Line → Line
begun d l = record { live = true; due = d; reported = false; drained = false; resets = 0; leaving = false }

abbrev pub moved : ℕ → Line → Line
moved d l = record { live = l.live; due = d; reported = false; drained = false; resets = suc l.resets; leaving = l.leaving }

abbrev pub ended : Line → Line
ended l = record { live = false; due = l.due; reported = l.reported; drained = l.drained; resets = l.resets; leaving = true }

abbrev pub cleared : Line → Line
cleared l = record { live = l.live; due = l.due; reported = l.reported; drained = true; resets = 0; leaving = false }

abbrev pub rung : Bool → Line → Line
rung b l = record { live = l.live; due = l.due; reported = l.reported || b; drained = l.drained; resets = l.resets; leaving = l.leaving }

-- one handle's line rewritten; every line; and the handle that an add answers, one more of its place
abbrev pub at : Handle → (Line → Line) → Ledger → Ledger
at h f L = record { line = upd handle_discrete L.line h (f (L.line h)); given = L.given; closed = L.closed }

abbrev pub each : (Handle → Line → Line) → Ledger → Ledger
each f L = record { line = λ h. f h (L.line h); given = L.given; closed = L.closed }

abbrev pub one_more : ℕ → Ledger → Ledger
one_more p L = record { line = L.line; given = upd ℕ_discrete L.given p (suc (L.given p)); closed = L.closed }

abbrev pub added : Option Handle → ℕ → Ledger → Ledger
added none d L = L
added (some h) d L = one_more h.place.0 (at h (begun d) L)

-- what an accepted call adds; a refused one adds nothing
abbrev pub noted : Call → Seen → Ledger → Ledger
noted (C.Add d) a L = added (handle_in a.answer) d L
noted (C.Reset h d) a L = at h (moved d) L
noted (C.Cancel h) a L = at h ended L
noted C.Drain a L = each (λ h. cleared) L
noted (C.Advance N) a L = each (λ h. rung (has handle_discrete h a.reports)) L
noted (C.Turn N) a L = each (λ h l. rung (has handle_discrete h a.reports) (cleared l)) L
noted C.NextWake a L = L
noted (C.Poll h) a L = L
noted C.Close a L = record { line = L.line; given = L.given; closed = true }
noted (C.Tick h p period N) a L = at h (moved (value_or 0 (tick_of p (L.line h).due period N))) L
noted (C.Restart h period N) a L = at h (moved (N + period)) L

unfoldable pub note : Call → Seen → Ledger → Ledger
note c a L = cond (is_accepted a.answer) (noted c a L) L

-- OWED: the handle is live, and it has not been reported since its last accepted add or reset
abbrev pub owed : Line → Bool
owed l = l.live && not l.reported

-- SETTLED: a drain has reached the last add, reset or cancel of the handle. After a drain, and so after a turn, all are
abbrev pub settled : Line → Bool
settled l = not l.leaving && (not l.live || l.drained)

-- the reports: exactly the handles that pass and are due at N, each once, no later deadline before an earlier one; and as many as the
-- count says, so that each of its words names one
pub record Exact (L : Ledger) (passes : Line → Bool) (N : ℕ) (a : Seen) : Type 0 where
  pub each_once : (h : Handle) → times handle_discrete h a.reports ≡ bit (passes (L.line h) && leb (L.line h).due N)
  pub in_order : Rising (λ h. (L.line h).due) 0 a.reports
  pub counted : length a.reports ≡ reports_in a.answer

-- a time is the least deadline owed; none: nothing is owed
abbrev pub Least : Ledger → Option ℕ → Type 0
Least L none = (h : Handle) → owed (L.line h) ≡ false
Least L (some t) = ((h : Handle) × (owed (L.line h) ≡ true) × ((L.line h).due ≡ t)) × ((h : Handle) → owed (L.line h) ≡ true → t ≤ (L.line h).due)

-- TAKEN: the newest handle of the place is live, or cancelled and not drained since, or has the last use number there is
abbrev pub taken_by : Ledger → ℕ → ℕ → Bool
taken_by L p zero = false
taken_by L p (suc u) = let l = L.line (record { place = record { 0 = p }; uses = u }) in l.live || (l.leaving || eqb u 4294967295)

unfoldable pub taken_in : Ledger → ℕ → Bool
taken_in L p = taken_by L p (L.given p)

-- an add is given the lowest place that is not taken, with as many uses as handles of it were given out; refused with 4 where all are taken
abbrev pub added_at : Ledger → Option ℕ → Answer Value
added_at L none = refused 4
added_at L (some p) = accepted (handle (record { place = record { 0 = p }; uses = L.given p }))

-- of a live handle this, of a dead one refusal 3; with a time of the interval's rule this, else that rule's refusal
abbrev pub if_live : Line → Answer Value → Answer Value
if_live l a = cond l.live a (refused 3)

abbrev pub if_timed : Answer ℕ → Value → Answer Value
if_timed (accepted t) v = accepted v
if_timed (refused n) v = refused n
if_timed (unsound f) v = unsound f

-- WHAT A CALL MUST ANSWER: this very answer; or it is accepted, with counts of the reported and the popped, or with a wake
pub data Must : Type 0 where
  exactly : Answer Value → Must
  counting : Must
  waking : Must

abbrev pub Answers : Must → Answer Value → Type 0
Answers (exactly a) b = b ≡ a
Answers counting b = (n m : ℕ) × (b ≡ accepted (counts n m))
Answers waking b = (t : Option ℕ) × (b ≡ accepted (wake t))

-- before a close, with a lent list of n words; polls are 0 pending, 1 fired
abbrev pub while_open : Ledger → ℕ → Call → Must
while_open L n (C.Add d) = exactly (added_at L (first_bad (taken_in L) cap 0))
while_open L n (C.Reset h d) = exactly (if_live (L.line h) (accepted nothing))
while_open L n (C.Cancel h) = exactly (if_live (L.line h) (accepted nothing))
while_open L n C.Drain = exactly (accepted nothing)
while_open L n (C.Advance N) = cond (ltb n cap) (exactly (refused 5)) counting
while_open L n (C.Turn N) = cond (ltb n cap) (exactly (refused 5)) counting
while_open L n C.NextWake = waking
while_open L n (C.Poll h) = let l = L.line h in exactly (if_live l (accepted (polled (cond l.reported 1 0))))
while_open L n C.Close = exactly (accepted nothing)
while_open L n (C.Tick h p period N) =
    let l = L.line h in exactly (if_live l (cond l.reported (if_timed (tick_of p l.due period N) (time l.due)) (refused 10)))
while_open L n (C.Restart h period N) = exactly (if_live (L.line h) (if_timed (restart_of period N) nothing))

-- after it: only a next wake and a poll are answered, none and 1 fired or 2 gone
abbrev pub once_closed : Ledger → Call → Must
once_closed L (C.Add d) = exactly (refused 2)
once_closed L (C.Reset h d) = exactly (refused 2)
once_closed L (C.Cancel h) = exactly (refused 2)
once_closed L C.Drain = exactly (refused 2)
once_closed L (C.Advance N) = exactly (refused 2)
once_closed L (C.Turn N) = exactly (refused 2)
once_closed L C.NextWake = exactly (accepted (wake none))
once_closed L (C.Poll h) = let l = L.line h in exactly (if_live l (accepted (polled (cond l.reported 1 2))))
once_closed L C.Close = exactly (refused 2)
once_closed L (C.Tick h p period N) = exactly (refused 2)
once_closed L (C.Restart h period N) = exactly (refused 2)

abbrev pub must : Ledger → Call → List ℕ → Must
must L c l = cond L.closed (once_closed L c) (while_open L (length l) c)

-- WHICH CALLS an engine is asked, and lists of such calls alone; ours is asked every one
abbrev pub all_asked : (Call → Bool) → List (Call × List ℕ) → Bool
all_asked asked [] = true
all_asked asked (c ∷ cs) = asked c.0 && all_asked asked cs

abbrev pub every : Call → Bool
every c = true

-- ANY CALLS, each with the list that is lent for it and on the state that the last one left, refusals included
module _ (E : Engine) where
  pub record Run : Type 0 where
    pub state : E.State
    pub ledger : Ledger

  unfoldable pub next : Run → Call → List ℕ → Run
  next r c l = record { state = (E.step r.state c l).state.0; ledger = note c (seen (E.step r.state c l)) r.ledger }

  unfoldable pub from : Run → List (Call × List ℕ) → Run
  from r [] = r
  from r (c ∷ cs) = from (next r c.0 c.1) cs

  abbrev pub run : List (Call × List ℕ) → Run
  run cs = from (record { state = E.fresh; ledger = blank }) cs

  -- THE PREMISE: at no moment have 2^30 resets of one timer been accepted with no drain among them
  unfoldable pub Bounded : Run → List (Call × List ℕ) → Type 0
  Bounded r [] = (h : Handle) → (r.ledger.line h).resets < 2 ^ 30
  Bounded r (c ∷ cs) = ((h : Handle) → (r.ledger.line h).resets < 2 ^ 30) × Bounded (next r c.0 c.1) cs

  abbrev pub Accepted : Run → Call → List ℕ → Type 0
  Accepted r c l = is_accepted (E.step r.state c l).answer ≡ true

  -- THE CLAIM of a moment, of the calls that the engine is asked: each answers what it must, and leaves the lent list as it was but for
  -- its reports; an accepted turn reports exactly what is owed and due; a next wake is never later than what is owed and drained; and,
  -- under the premise, a next wake is the least deadline owed where all is settled, as after a turn, and an advance reports those of the
  -- owed that are drained
  pub record Moment (asked : Call → Bool) (r : Run) (premise : Type 0) : Type 0 where
    pub answers : (c : Call) (l : List ℕ) → asked c ≡ true → Answers (must r.ledger c l) (E.step r.state c l).answer
    pub lends : (c : Call) (l : List ℕ) → asked c ≡ true
        → let o = E.step r.state c l in (length o.state.1 ≡ length l) × (drop (reports_in o.answer) o.state.1 ≡ drop (reports_in o.answer) l)
    pub turns : (N : ℕ) (l : List ℕ) → asked (C.Turn N) ≡ true → Accepted r (C.Turn N) l
        → Exact r.ledger owed N (seen (E.step r.state (C.Turn N) l))
    pub wakes : (l : List ℕ) → asked C.NextWake ≡ true → premise → r.ledger.closed ≡ false → ((h : Handle) → settled (r.ledger.line h) ≡ true)
        → (t : Option ℕ) × ((E.step r.state C.NextWake l).answer ≡ accepted (wake t)) × Least r.ledger t
    pub in_time : (h : Handle) (l : List ℕ) → asked C.NextWake ≡ true → r.ledger.closed ≡ false → owed (r.ledger.line h) && (r.ledger.line h).drained ≡ true
        → (t : ℕ) × ((E.step r.state C.NextWake l).answer ≡ accepted (wake (some t))) × (t ≤ (r.ledger.line h).due)
    pub advances : (N : ℕ) (l : List ℕ) → asked (C.Advance N) ≡ true → premise → Accepted r (C.Advance N) l
        → Exact r.ledger (λ x. owed x && x.drained) N (seen (E.step r.state (C.Advance N) l))

  -- DEMAND 3: it holds after any such calls from fresh
  abbrev pub Meets : (Call → Bool) → Type 0
  Meets asked = (cs : List (Call × List ℕ)) → all_asked asked cs ≡ true → Moment asked (run cs) (Bounded (run []) cs)
