-- The rules of the clock: what each call makes of a clock and of the raw counter.
-- Assumes nothing.
use Rattle.std.specs.Prelude.{Bool, true, false, cond, ℕ, ◌+◌, ◌-◌, ltb, ⊤}
use Rattle.refusals.specs.declared.Refusal.TheVariants.{CounterBehind, WrongMode}
use Rattle.refusals.specs.Answer.{Answer, accepted, refused, unsound, refuse, Outcome, Nothing, done, kept}
use Rattle.refusals.specs.declared.outcome.Outcome as Code
use Rattle.refusals.specs.Outcomes.{told_by}
use Rattle.refusals.specs.Times.{timely}
use Rattle.clock.specs.declared.Clock.{Clock}
use Rattle.clock.specs.declared.Clock.TheVariants.{Running, Paused}

-- fresh: base and start are the raw value
abbrev pub fresh_of : ℕ → Clock
fresh_of raw = Running raw raw

-- running: base + (raw - start), refused with 7 where raw is below start, then with 6; paused: base, raw ignored
abbrev pub reading_of : Clock → ℕ → Answer ℕ
reading_of (Running base start) raw = cond (ltb raw start) (refuse CounterBehind) (timely (base + (raw - start)))
reading_of (Paused base) raw = accepted base

-- the clock stands at the time found, or is as it was where there is none
abbrev pub paused_at : Clock → Answer ℕ → Outcome Clock Nothing
paused_at c (accepted t) = done (Paused t)
paused_at c (refused n) = kept c (refused n)
paused_at c (unsound f) = kept c (unsound f)

abbrev pub paused_in : Clock → Bool
paused_in (Running base start) = false
paused_in (Paused base) = true

-- pause: the base becomes the reading, base + (raw - start); refused with 8 when paused, then as a reading is
abbrev pub pause_of : Clock → ℕ → Outcome Clock Nothing
pause_of c raw = cond (paused_in c) (kept c (refuse WrongMode)) (paused_at c (reading_of c raw))

-- resume: start becomes raw; refused with 8 when running
abbrev pub resume_of : Clock → ℕ → Outcome Clock Nothing
resume_of (Running base start) raw = kept (Running base start) (refuse WrongMode)
resume_of (Paused base) raw = done (Running base raw)

-- advance, only while paused: the duration goes to the base; refused with 8 when running, then with 6
abbrev pub advance_of : Clock → ℕ → Outcome Clock Nothing
advance_of (Running base start) d = kept (Running base start) (refuse WrongMode)
advance_of (Paused base) d = paused_at (Paused base) (timely (base + d))

-- the clock handed back, and what is said
abbrev pub told : Code.Outcome Clock ⊤ → Outcome Clock Nothing
told = told_by (λ (u : ⊤). u)
