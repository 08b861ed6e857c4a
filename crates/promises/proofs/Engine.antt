-- The project's engine meets demand 3.
-- Assumes nothing.
use mathlib.Core.List.{List, []}
use Prim.Native.Nat.{ℕ}
use Rattle.heap.specs.Calls.{peek_sound}
use Rattle.timers.specs.declared.Call.{Call}
use Rattle.timers.specs.Calls.{wake_by}
use Rattle.promises.specs.Turns.{next, from, run, Bounded, Moment, Meets, every}
use Rattle.promises.specs.Engine.{ours}
use Rattle.promises.proofs.Ledger.TracksSteps.{Low}
use Rattle.promises.proofs.Ledger.Runs.{bounded_low, run_good}
use Rattle.promises.proofs.OneMoment.Answering.{wake_answered, answered, wake_in_time}
use Rattle.promises.proofs.OneMoment.Moments.{list_kept, turn_exact, advance_exact, settled_wake}

-- a moment, whatever calls led to it
pub moment : (cs : List (Call × List ℕ)) → Moment ours every (run ours cs) (Bounded ours (run ours []) cs)
unfolding from next
moment cs =
    let r = run ours cs in
    let B = Unit {0} × Bounded ours (run ours []) cs in
    let g = run_good cs in
    let low : B → Low r.ledger = λ b. bounded_low cs (run ours []) b.1 in
    record {
      answers = λ c l _. answered B r.state r.ledger g.fit g.follows c l;
      lends = λ c l _. list_kept B r g low c l;
      turns = λ N l _. turn_exact B r g low N l;
      wakes = λ l _ b c all. (wake_by (peek_sound r.state.heap), wake_answered r.state g.fit l, settled_wake B r g low (tt, b) c all);
      in_time = λ h l _ c y. wake_in_time B r.state r.ledger g.fit g.follows c h l y;
      advances = λ N l _ b y. advance_exact B r g low (tt, b) N l y;
    }

-- this project's engine meets demand 3, whatever it is asked
pub meets : Meets ours every
meets cs _ = moment cs
