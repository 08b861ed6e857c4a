-- How many numbers below a bound pass a test, and what it means that a list names each of them once.
-- Assumes nothing.
use Rattle.std.specs.Prelude.{◌≡◌, ◌⊎◌, Bool, true, false, not, ◌&&◌, List, [], ◌∷◌, ℕ, zero, suc, ◌<◌, eqb}

-- the count so far, raised by 1 for a number that passes
abbrev pub tally : Bool → ℕ → ℕ
tally true n = suc n
tally false n = n

-- how many of the numbers below the bound pass
unfoldable pub count : (ℕ → Bool) → ℕ → ℕ
count f zero = 0
count f (suc n) = tally (f n) (count f n)

-- the same test, except that x never passes
unfoldable pub but : (ℕ → Bool) → ℕ → ℕ → Bool
but f x i = f i && not (eqb i x)

-- the number is one of the list's
abbrev pub Mem : ℕ → List ℕ → Type 0
Mem x [] = ⊥
Mem x (y ∷ l) = (x ≡ y) ⊎ Mem x l

-- the list repeats no number
abbrev pub Distinct : List ℕ → Type 0
Distinct [] = Unit {0}
Distinct (x ∷ l) = (Mem x l → ⊥) × Distinct l

-- the numbers below n that pass are those of the list, and it repeats none
pub record Lists (f : ℕ → Bool) (n : ℕ) (l : List ℕ) : Type 0 where
  pub once : Distinct l
  pub sound : (x : ℕ) → Mem x l → (x < n) × (f x ≡ true)
  pub whole : (x : ℕ) → x < n → f x ≡ true → Mem x l
