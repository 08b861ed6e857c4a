-- What each function on the word promises of its answer r.
-- Assumes nothing.
use Rattle.std.specs.Prelude.{◌≡◌, ℕ, Bool}
use Rattle.word.specs.declared.Polled.{Polled}
use Rattle.word.specs.Rules.{generation_of, fired_in, invalid_in, fired_of, invalid_of, reset_of, matches_in, poll_of, said}

abbrev pub Generation : ℕ → ℕ → Type 0
Generation w r = r ≡ generation_of w

abbrev pub IsFired : ℕ → Bool → Type 0
IsFired w r = r ≡ fired_in w

abbrev pub IsInvalid : ℕ → Bool → Type 0
IsInvalid w r = r ≡ invalid_in w

abbrev pub Fires : ℕ → ℕ → Type 0
Fires w r = r ≡ fired_of w

abbrev pub Invalidates : ℕ → ℕ → Type 0
Invalidates w r = r ≡ invalid_of w

abbrev pub Resets : ℕ → ℕ → Type 0
Resets w r = r ≡ reset_of w

abbrev pub Matches : ℕ → ℕ → Bool → Type 0
Matches w g r = r ≡ matches_in w g

abbrev pub Polls : ℕ → Polled → Type 0
Polls w r = said r ≡ poll_of w
