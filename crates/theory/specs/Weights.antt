-- What a list holds, said by sums and by what all its entries have, with no word on permutations.
-- Assumes nothing.
use Rattle.std.specs.Prelude.{cond, List, [], ◌∷◌, ℕ, ◌+◌, ◌≤◌, leb}

-- the sum of the entries' weights. Lists that weigh the same by every weight have the same entries, each as often
abbrev pub total : {A : Type 0} → (A → ℕ) → List A → ℕ
total w [] = 0
total w (x ∷ xs) = w x + total w xs

-- every entry has the property
abbrev pub All : {A : Type 0} → (A → Type 0) → List A → Type 0
All P [] = Unit {0}
All P (x ∷ xs) = P x × All P xs

module _ {A : Type 0} (key : A → ℕ) where
  -- the keys start at m or more and never fall
  abbrev pub Rising : ℕ → List A → Type 0
  Rising m [] = Unit {0}
  Rising m (x ∷ xs) = (m ≤ key x) × Rising (key x) xs

  -- the weight w, but 0 for an entry whose key is more than m
  abbrev pub up_to : ℕ → (A → ℕ) → A → ℕ
  up_to m w x = cond (leb (key x) m) (w x) 0
