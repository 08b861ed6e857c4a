-- No function on the clock has a second answer: neither another clock nor another word about it.
-- Assumes nothing.
use mathlib.Core.Path.{refl}
use mathlib.Core.Bool.{Bool}
use Prim.Native.Nat.{ℕ}
use Rattle.theory.specs.Promise.{NoSecond, TellsApart}
use Rattle.theory.proofs.Promise.{by_rule, plain_apart}
use Rattle.std.specs.Prelude.{Result, ⊤}
use Rattle.refusals.specs.declared.Refusal.{Refusal}
use Rattle.refusals.specs.declared.outcome.Outcome as Code
use Rattle.refusals.specs.Times as Times
use Rattle.refusals.proofs.Apart as Apart
use Rattle.clock.specs.declared.Clock.{Clock}
use Rattle.clock.specs.Rules.{fresh_of, reading_of, pause_of, resume_of, advance_of, paused_in, told}
use Rattle.clock.specs.Promises.{Starts, Reads, Pauses, Resumes, Advances, IsPaused}

-- the clock handed back and what is said tell any two answers apart
pub told_apart : TellsApart told
told_apart = Apart.told_by_apart (λ (u : ⊤). u) (λ (u : ⊤). u) (λ u. refl)

pub fresh_no_second : NoSecond Starts
fresh_no_second = by_rule (λ (r : Clock). r) fresh_of plain_apart

pub reading_no_second : NoSecond (λ (q : Clock × ℕ) (r : Result ℕ Refusal). Reads q.0 q.1 r)
reading_no_second = by_rule Times.said (λ (q : Clock × ℕ). reading_of q.0 q.1) Apart.said_apart

pub pause_no_second : NoSecond (λ (q : Clock × ℕ) (r : Code.Outcome Clock ⊤). Pauses q.0 q.1 r)
pause_no_second = by_rule told (λ (q : Clock × ℕ). pause_of q.0 q.1) told_apart

pub resume_no_second : NoSecond (λ (q : Clock × ℕ) (r : Code.Outcome Clock ⊤). Resumes q.0 q.1 r)
resume_no_second = by_rule told (λ (q : Clock × ℕ). resume_of q.0 q.1) told_apart

pub advance_no_second : NoSecond (λ (q : Clock × ℕ) (r : Code.Outcome Clock ⊤). Advances q.0 q.1 r)
advance_no_second = by_rule told (λ (q : Clock × ℕ). advance_of q.0 q.1) told_apart

pub is_paused_no_second : NoSecond IsPaused
is_paused_no_second = by_rule (λ (r : Bool). r) paused_in plain_apart
