-- What each function on the clock promises of its answer r.
-- Assumes nothing.
use Rattle.std.specs.Prelude.{◌≡◌, Bool, ℕ, Result, ⊤}
use Rattle.refusals.specs.declared.Refusal.{Refusal}
use Rattle.refusals.specs.declared.outcome.Outcome as Code
use Rattle.refusals.specs.Times as Times
use Rattle.clock.specs.declared.Clock.{Clock}
use Rattle.clock.specs.Rules.{fresh_of, reading_of, pause_of, resume_of, advance_of, paused_in, paused_at, told}

abbrev pub Starts : ℕ → Clock → Type 0
Starts raw r = r ≡ fresh_of raw

abbrev pub Reads : Clock → ℕ → Result ℕ Refusal → Type 0
Reads c raw r = Times.said r ≡ reading_of c raw

abbrev pub Pauses : Clock → ℕ → Code.Outcome Clock ⊤ → Type 0
Pauses c raw r = told r ≡ pause_of c raw

abbrev pub Resumes : Clock → ℕ → Code.Outcome Clock ⊤ → Type 0
Resumes c raw r = told r ≡ resume_of c raw

abbrev pub Advances : Clock → ℕ → Code.Outcome Clock ⊤ → Type 0
Advances c d r = told r ≡ advance_of c d

abbrev pub IsPaused : Clock → Bool → Type 0
IsPaused c r = r ≡ paused_in c

-- the clock stopped at a time r, or as it was where r refuses
abbrev pub PausesAt : Clock → Result ℕ Refusal → Code.Outcome Clock ⊤ → Type 0
PausesAt c t r = told r ≡ paused_at c (Times.said t)
