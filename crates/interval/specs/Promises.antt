-- What each function on intervals promises of its answer r.
-- Assumes nothing.
use Rattle.std.specs.Prelude.{◌≡◌, Bool, ℕ, Result}
use Rattle.refusals.specs.declared.Refusal.{Refusal}
use Rattle.refusals.specs.Times.{said}
use Rattle.interval.specs.declared.Policy.{Policy}
use Rattle.interval.specs.Rules.{late_at, skip_of, tick_of, restart_of}

abbrev pub Ticks : Policy → ℕ → ℕ → ℕ → Result ℕ Refusal → Type 0
Ticks p T period N r = said r ≡ tick_of p T period N

abbrev pub Restarts : ℕ → ℕ → Result ℕ Refusal → Type 0
Restarts period N r = said r ≡ restart_of period N

abbrev pub IsLate : ℕ → ℕ → Bool → Type 0
IsLate T N r = r ≡ late_at T N

abbrev pub Skips : ℕ → ℕ → ℕ → Result ℕ Refusal → Type 0
Skips T period N r = said r ≡ skip_of T period N
