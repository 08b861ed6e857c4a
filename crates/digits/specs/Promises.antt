-- What each function promises of its answer r, and of the lent bytes as they are afterwards.
-- Assumes nothing.
use Rattle.std.specs.Prelude.{◌≡◌, Bool, List, ℕ, ◌+◌, ◌^◌, ◌<◌, length}
use Rattle.std.proofs.lemmas.List.Edits.{sets}
use Rattle.digits.specs.Digits.{digits, value_at, zeros_at}

-- the number of k bytes, which k bytes can hold
pub record Reads (k : ℕ) (l : List ℕ) (i r : ℕ) : Type 0 where
  pub value : r ≡ value_at k l i
  pub small : r < 256 ^ k

-- `out'` is `out` with the k bytes t in place of its own from `at` on, and r is the offset behind them
pub record Puts (k : ℕ) (out : List ℕ) (at : ℕ) (t : List ℕ) (out' : List ℕ) (r : ℕ) : Type 0 where
  pub written : out' ≡ sets out at t
  pub next : r ≡ at + k
  pub long : length t ≡ k

-- the last k bytes of n are put
abbrev pub PutsNumber : ℕ → ℕ → List ℕ → ℕ → List ℕ → ℕ → Type 0
PutsNumber k n out at out' r = Puts k out at (digits k n) out' r

-- whether k bytes are zero
abbrev pub AreZeros : ℕ → List ℕ → ℕ → Bool → Type 0
AreZeros k l i r = r ≡ zeros_at k l i
