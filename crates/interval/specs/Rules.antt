-- The rules of an interval: the deadline that a tick, or an interval reset, sets. T is the deadline that the tick answers, N the
-- reading at which it is made.
-- Assumes nothing.
use Rattle.std.specs.Prelude.{Bool, cond, ℕ, ◌+◌, ◌-◌, ◌%◌, ltb, eqb}
use Rattle.refusals.specs.declared.Refusal.TheVariants.{ZeroPeriod}
use Rattle.refusals.specs.Answer.{Answer, accepted, refused, unsound, refuse}
use Rattle.refusals.specs.Times.{timely}
use Rattle.interval.specs.declared.Policy.{Policy}
use Rattle.interval.specs.declared.Policy.TheVariants.{Burst, Delay, Skip}

-- late: N is above T + 5 ms, a sum that does not wrap
abbrev pub late_at : ℕ → ℕ → Bool
late_at T N = ltb (T + 5000000) N

-- an accepted time, earlier by d
abbrev pub earlier : Answer ℕ → ℕ → Answer ℕ
earlier (accepted t) d = accepted (t - d)
earlier (refused n) d = refused n
earlier (unsound f) d = unsound f

-- Skip: N + period - ((N - T) mod period); refused with 9 where the period is 0, then with 6 where N + period is above 2^64-1
abbrev pub skip_of : ℕ → ℕ → ℕ → Answer ℕ
skip_of T period N = cond (eqb period 0) (refuse ZeroPeriod) (earlier (timely (N + period)) ((N - T) % period))

-- a late tick, by the policy
abbrev pub late_of : Policy → ℕ → ℕ → ℕ → Answer ℕ
late_of Burst T period N = timely (T + period)
late_of Delay T period N = timely (N + period)
late_of Skip T period N = skip_of T period N

-- a tick: where it is late the policy decides, else T + period
abbrev pub tick_of : Policy → ℕ → ℕ → ℕ → Answer ℕ
tick_of p T period N = cond (late_at T N) (late_of p T period N) (timely (T + period))

-- an interval reset: N + period
abbrev pub restart_of : ℕ → ℕ → Answer ℕ
restart_of period N = timely (N + period)
