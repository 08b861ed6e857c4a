-- From fresh the engine without its test is the engine: every set that calls lead to is sound, and the test says yes of it. So a trace
-- is right on the one exactly where it is on the other.
-- Assumes nothing.
use mathlib.Core.Path.{◌≡◌, refl, sym, ap, ◌∙◌}
use mathlib.Core.Bool.{cond, ◌&&◌}
use mathlib.Core.List.{List, [], ◌∷◌}
use Prim.Native.Nat.{ℕ}
use lib.Dec.{eqb}
use lib.ListN.{replicate}
use Rattle.theory.specs.Tests.{bit}
use Rattle.refusals.specs.Answer.{Answer, Outcome, accepted}
use Rattle.heap.specs.Capacity.{cap}
use Rattle.state.specs.State.{fresh_of}
use Rattle.timers.specs.declared.Call.{Call}
use Rattle.timers.specs.declared.Call.TheVariants as C
use Rattle.timers.specs.Calls.{Value, wake, Lent, lent, step}
use Rattle.laws.specs.Words.{Fit}
use Rattle.laws.specs.Unguarded.{unguarded}
use Rattle.laws.proofs.Soundness.StepSound.{step_fit, fresh_fit}
use Rattle.laws.proofs.Soundness.Unguarded.{step_same}
use Rattle.promises.specs.Bench as Bench
use Rattle.promises.specs.Bench.{same_numbers, code, Case, word, tick, heap, set, Row}
use Rattle.promises.specs.Turns.{Run, blank, seen, note, next, from}
use Rattle.promises.specs.Engine.{ours, handed}
use Rattle.promises.specs.Untested.{untested}
use Rattle.promises.specs.Tracing.{Made, Trace, calls_of, handles_code, time_code, lined, added_in, least_in, answered, ended, right, wrong}

-- a moment of the engine, as one of the other
abbrev pub as_untested : Run ours → Run untested
as_untested r = record { state = r.state; ledger = r.ledger }

-- a call leads from one to one, and from a set that fits to one that fits
pub next_same : (r : Run ours) → Fit r.state → (c : Call) (l : List ℕ) → next untested (as_untested r) c l ≡ as_untested (next ours r c l)
unfolding next
next_same r f c l = ap (λ (o : Outcome Lent Value). record { state = o.state.set; ledger = note c (seen (handed o)) r.ledger }) (sym (step_same r.state f c l))

pub next_fit : (r : Run ours) → Fit r.state → (c : Call) (l : List ℕ) → Fit (next ours r c l).state
unfolding next
next_fit r f c l = step_fit r.state f c l

-- the answers of a trace are the same
answered_same : (r : Run ours) → Fit r.state → (ms : List Made) → answered untested (as_untested r) ms ≡ answered ours r ms
answered_same r f [] = refl
answered_same r f (m ∷ ms) =
    let e = sym (step_same r.state f m.call m.list) in
    let rest = ap (λ (x : Run untested). answered untested x ms) (next_same r f m.call m.list)
    ∙ answered_same (next ours r m.call m.list) (next_fit r f m.call m.list) ms in
    λ t.
    same_numbers (code (e t).answer) (code m.answer)
    && (same_numbers (handles_code (seen (handed (e t))).reports) (handles_code m.reports) && rest t)

-- and so are the moments after any calls
pub from_same : (r : Run ours) → Fit r.state → (cs : List (Call × List ℕ)) → from untested (as_untested r) cs ≡ as_untested (from ours r cs)
unfolding from
from_same r f [] = refl
from_same r f (c ∷ cs) =
    ap (λ (x : Run untested). from untested x cs) (next_same r f c.0 c.1)
    ∙ from_same (next ours r c.0 c.1) (next_fit r f c.0 c.1) cs

pub from_fit : (r : Run ours) → Fit r.state → (cs : List (Call × List ℕ)) → Fit (from ours r cs).state
unfolding from
from_fit r f [] = f
from_fit r f (c ∷ cs) = from_fit (next ours r c.0 c.1) (next_fit r f c.0 c.1) cs

-- what a trace must end with
ended_same : (r : Run ours) → Fit r.state → (t : Trace) → ended untested (as_untested r) t ≡ ended ours r t
ended_same r f t =
    let e = sym (step_same r.state f C.NextWake []) in
    λ i.
    lined r.ledger t.lines
    && (eqb (bit r.ledger.closed) (bit t.closed)
    && (same_numbers (time_code (least_in r.ledger (added_in t.calls))) (time_code t.least)
    && same_numbers (code (e i).answer) (code (accepted (wake t.wake)))))

-- a trace is right on both or on neither
right_same : (t : Trace) → right untested t ≡ right ours t
unfolding from
right_same t =
    let r : Run ours = record { state = fresh_of; ledger = blank } in
    let a = answered_same r fresh_fit t.calls in
    let b = ap (λ (x : Run untested). ended untested x t) (from_same r fresh_fit (calls_of t.calls))
    ∙ ended_same (from ours r (calls_of t.calls)) (from_fit r fresh_fit (calls_of t.calls)) t in
    λ i. a i && b i

-- SO the same traces are wrong
pub traces_same : (ts : List Trace) → wrong untested ts ≡ wrong ours ts
traces_same [] = refl
traces_same (t ∷ ts) = λ i. cond (right_same t i) (traces_same ts i) (t.number ∷ traces_same ts i)

-- THE SAME of calls on a set and a lent list, whatever else is asked of them
pub calls_same : (s : Lent) → Fit s.set → (cs : List Call) (ws : List (Answer Value)) → Bench.answered unguarded s cs ws ≡ Bench.answered step s cs ws
calls_same s f [] [] = refl
calls_same s f [] (a ∷ ws) = refl
calls_same s f (c ∷ cs) [] = refl
calls_same s f (c ∷ cs) (a ∷ ws) =
    let e = sym (step_same s.set f c s.list) in
    let o = step s.set c s.list in
    let rest = ap (λ (x : Outcome Lent Value). Bench.answered unguarded x.state cs ws) e
    ∙ calls_same o.state (step_fit s.set f c s.list) cs ws in
    λ t. same_numbers (code (e t).answer) (code a) && rest t

row_same : (x : Case) → Bench.right unguarded x ≡ Bench.right step x
row_same (word w v) = refl
row_same (tick p T period N d) = refl
row_same (set cs ws) = calls_same (lent fresh_of (replicate cap 0)) fresh_fit cs ws
row_same (heap cs es ss n) = refl

pub rows_same : (rs : List Row) → Bench.wrong unguarded rs ≡ Bench.wrong step rs
rows_same [] = refl
rows_same (r ∷ rs) = λ i. cond (row_same r.asked i) (rows_same rs i) (r.number ∷ rows_same rs i)
