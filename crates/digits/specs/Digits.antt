-- Numbers as bytes, most significant first: a number's bytes, the number in bytes, and what it means that bytes stand somewhere.
-- Assumes nothing.
use Rattle.std.specs.Prelude.{◌≡◌, Bool, List, [], ◌∷◌, ◌++◌, ℕ, zero, suc, ◌+◌, ◌*◌, ◌/◌, ◌%◌, ◌<◌, eqb, length, get_or}
use Rattle.digits.specs.Rows.{all_to}

-- the last k bytes of n
abbrev pub digits : ℕ → ℕ → List ℕ
digits zero n = []
digits (suc k) n = digits k (n / 256) ++ (n % 256 ∷ [])

-- the number in the k bytes of l from the i-th on
abbrev pub value_at : ℕ → List ℕ → ℕ → ℕ
value_at zero l i = 0
value_at (suc k) l i = value_at k l i * 256 + get_or l (i + k) 0

-- whether the k bytes of l from the i-th on are all zero
abbrev pub zeros_at : ℕ → List ℕ → ℕ → Bool
zeros_at k l i = all_to (λ j. eqb (get_or l (i + j) 0) 0) k

-- each number of l is a byte
pub record Bytes (l : List ℕ) : Type 0 where
  pub small : (j : ℕ) → get_or l j 0 < 256

-- the bytes t stand in l from the i-th on
pub record Stands (l : List ℕ) (i : ℕ) (t : List ℕ) : Type 0 where
  pub there : (j : ℕ) → j < length t → get_or l (i + j) 0 ≡ get_or t j 0
