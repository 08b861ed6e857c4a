-- The deadline that a tick, or an interval reset, sets is a time: it has 64 bits, whatever the period and the reading.
-- Assumes nothing.
use Prim.Native.Nat.{ℕ, ◌+◌, ◌-◌, ◌%◌, ◌<◌, ◌^◌}
use native.Mathlib.Omega.{arith}
use Rattle.theory.proofs.Tests.{ref_lt, ref_eq, cond-ref}
use Rattle.refusals.specs.Answer.{Answer, accepted, refused, unsound}
use Rattle.refusals.specs.Times.{timely}
use Rattle.interval.specs.declared.Policy.{Policy}
use Rattle.interval.specs.declared.Policy.TheVariants.{Burst, Delay, Skip}
use Rattle.interval.specs.Rules.{earlier, late_of, tick_of, restart_of}

-- an accepted time has 64 bits
abbrev pub Timed : Answer ℕ → Type 0
Timed (accepted t) = t < 2 ^ 64
Timed (refused n) = Unit {0}
Timed (unsound f) = Unit {0}

-- a sum of times
timely_timed : (t : ℕ) → Timed (timely t)
timely_timed t = cond-ref Timed (ref_lt t (2 ^ 64)) (λ b. b) (λ n. tt)

-- a time that is earlier than one
earlier_timed : (a : Answer ℕ) (d : ℕ) → Timed a → Timed (earlier a d)
earlier_timed (accepted t) d b = omega arith
earlier_timed (refused n) d b = tt
earlier_timed (unsound f) d b = tt

late_timed : (p : Policy) (T period N : ℕ) → Timed (late_of p T period N)
late_timed Burst T period N = timely_timed (T + period)
late_timed Delay T period N = timely_timed (N + period)
late_timed Skip T period N =
    cond-ref Timed (ref_eq period 0) (λ z. tt) (λ n. earlier_timed (timely (N + period)) ((N - T) % period) (timely_timed (N + period)))

-- a tick
pub tick_timed : (p : Policy) (T period N : ℕ) → Timed (tick_of p T period N)
tick_timed p T period N =
    cond-ref Timed (ref_lt (T + 5000000) N) (λ l. late_timed p T period N) (λ n. timely_timed (T + period))

-- an interval reset
pub restart_timed : (period N : ℕ) → Timed (restart_of period N)
restart_timed period N = timely_timed (N + period)
