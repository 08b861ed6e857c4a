-- The rounds have no second answer.
-- Assumes nothing.
use Rattle.std.proofs.Common.{ℕ}
use Rattle.theory.specs.Promise.{NoSecond}
use Rattle.theory.proofs.Promise.{by_rule, plain_apart}
use Rattle.rounds.specs.Rules.{rounds_of}
use Rattle.rounds.specs.Promises.{Runs}

pub rounds_run_no_second : NoSecond (λ (q : ℕ × ℕ) (r : ℕ). Runs q.0 q.1 r)
rounds_run_no_second = by_rule (λ (r : ℕ). r) (λ (q : ℕ × ℕ). rounds_of q.0 q.1) plain_apart
