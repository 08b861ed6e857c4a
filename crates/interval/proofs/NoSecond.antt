-- No function on intervals has a second answer.
-- Assumes nothing.
use mathlib.Core.Bool.{Bool}
use Prim.Native.Nat.{ℕ}
use Rattle.theory.specs.Promise.{NoSecond}
use Rattle.theory.proofs.Promise.{by_rule, plain_apart}
use Rattle.std.specs.Prelude.{Result}
use Rattle.refusals.specs.declared.Refusal.{Refusal}
use Rattle.refusals.specs.Times.{said}
use Rattle.refusals.proofs.Apart.{said_apart}
use Rattle.interval.specs.declared.Policy.{Policy}
use Rattle.interval.specs.Rules.{late_at, tick_of, restart_of}
use Rattle.interval.specs.Promises.{IsLate, Ticks, Restarts}

pub next_deadline_no_second : NoSecond (λ (q : Policy × ℕ × ℕ × ℕ) (r : Result ℕ Refusal). Ticks q.0 q.1 q.2 q.3 r)
next_deadline_no_second = by_rule said (λ (q : Policy × ℕ × ℕ × ℕ). tick_of q.0 q.1 q.2 q.3) said_apart

pub restarted_no_second : NoSecond (λ (q : ℕ × ℕ) (r : Result ℕ Refusal). Restarts q.0 q.1 r)
restarted_no_second = by_rule said (λ (q : ℕ × ℕ). restart_of q.0 q.1) said_apart

pub is_late_no_second : NoSecond (λ (q : ℕ × ℕ) (r : Bool). IsLate q.0 q.1 r)
is_late_no_second = by_rule (λ (r : Bool). r) (λ (q : ℕ × ℕ). late_at q.0 q.1) plain_apart
