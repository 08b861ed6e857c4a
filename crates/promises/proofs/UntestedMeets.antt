-- The engine without its test meets demand 3, as the project's own does. So what refutes a useless engine that is made of it is what
-- that engine does otherwise.
-- Assumes nothing.
use mathlib.Core.Path.{◌≡◌, sym, subst}
use mathlib.Core.Bool.{true, ◌&&◌}
use mathlib.Core.List.{List, [], ◌∷◌}
use mathlib.Core.Option.{some}
use Prim.Native.Nat.{ℕ}
use lib.ListN.{length, drop}
use Rattle.refusals.specs.Answer.{Outcome, accepted, is_accepted}
use Rattle.timers.specs.declared.Call.{Call}
use Rattle.timers.specs.declared.Call.TheVariants as C
use Rattle.timers.specs.Values.{reports_in}
use Rattle.timers.specs.Calls.{Value, wake, Lent, step}
use Rattle.laws.specs.Words.{Fit}
use Rattle.laws.specs.Unguarded.{unguarded}
use Rattle.laws.proofs.Soundness.StepSound.{fresh_fit}
use Rattle.laws.proofs.Soundness.Unguarded.{step_same}
use Rattle.promises.specs.Turns.{every, Line, Run, blank, seen, owed, Exact, Answers, must, next, from, Bounded, Moment, Meets}
use Rattle.promises.specs.Engine.{ours, handed}
use Rattle.promises.specs.Untested.{untested}
use Rattle.promises.proofs.Untested.{as_untested, next_same, next_fit, from_same, from_fit}
use Rattle.promises.proofs.Engine.{moment}

-- the premise is one
bounded_same : (cs : List (Call × List ℕ)) (r : Run ours) → Fit r.state → Bounded untested (as_untested r) cs → Bounded ours r cs
unfolding Bounded
bounded_same [] r f b = b
bounded_same (c ∷ cs) r f b = (
  b.0,
  bounded_same cs (next ours r c.0 c.1) (next_fit r f c.0 c.1)
      (subst (λ (x : Run untested). Bounded untested x cs) (next_same r f c.0 c.1) b.1),
)

-- what is so of a moment of the one is so of the same moment of the other: each call is the same there
moment_same : (r : Run ours) → Fit r.state → (P Q : Type 0) → (P → Q) → Moment ours every r Q → Moment untested every (as_untested r) P
moment_same r f P Q premise m =
    let e : (c : Call) (l : List ℕ) → step r.state c l ≡ unguarded r.state c l = step_same r.state f in
    record {
      answers = λ c l a. subst (λ (o : Outcome Lent Value). Answers (must r.ledger c l) o.answer) (e c l) (m.answers c l a);
      lends = λ c l a.
          subst
          (λ (o : Outcome Lent Value).
          (length o.state.list ≡ length l) × (drop (reports_in o.answer) o.state.list ≡ drop (reports_in o.answer) l))
          (e c l) (m.lends c l a);
      turns = λ N l a y.
          subst (λ (o : Outcome Lent Value). Exact r.ledger owed N (seen (handed o))) (e (C.Turn N) l)
          (m.turns N l a (subst (λ (o : Outcome Lent Value). is_accepted o.answer ≡ true) (sym (e (C.Turn N) l)) y));
      wakes = λ l a p c all.
          let w = m.wakes l a (premise p) c all in
          (w.0, subst (λ (o : Outcome Lent Value). o.answer ≡ accepted (wake w.0)) (e C.NextWake l) w.1, w.2);
      in_time = λ h l a c y.
          let w = m.in_time h l a c y in
          (w.0, subst (λ (o : Outcome Lent Value). o.answer ≡ accepted (wake (some w.0))) (e C.NextWake l) w.1, w.2);
      advances = λ N l a p y.
          subst (λ (o : Outcome Lent Value). Exact r.ledger (λ (x : Line). owed x && x.drained) N (seen (handed o))) (e (C.Advance N) l)
          (m.advances N l a (premise p) (subst (λ (o : Outcome Lent Value). is_accepted o.answer ≡ true) (sym (e (C.Advance N) l)) y));
    }

-- SO IT MEETS DEMAND 3
pub untested_meets : Meets untested every
unfolding from
untested_meets cs _ =
    let r : Run ours = record { state = ours.fresh; ledger = blank } in
    subst (λ (x : Run untested). Moment untested every x (Bounded untested (as_untested r) cs)) (sym (from_same r fresh_fit cs))
    (moment_same (from ours r cs) (from_fit r fresh_fit cs) (Bounded untested (as_untested r) cs) (Bounded ours r cs) (bounded_same cs r fresh_fit) (moment cs))
