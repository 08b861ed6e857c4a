-- What the rounds promise of their answer r.
-- Assumes nothing.
use Rattle.std.specs.Prelude.{◌≡◌, ℕ, List}
use Rattle.rounds.specs.declared.Run.{Run}
use Rattle.rounds.specs.Rules.{Lent, round_of, rounds_of}

abbrev pub Runs : ℕ → ℕ → ℕ → Type 0
Runs due turns r = r ≡ rounds_of due turns

-- and of one round, with the lent list as it is at the end

abbrev pub lent : Run → List ℕ → Lent
lent r l = record { run = r; list = l }

abbrev pub Rounds : Run → ℕ → List ℕ → Run → List ℕ → Type 0
Rounds run reading l r l' = lent r l' ≡ round_of (lent run l) reading
