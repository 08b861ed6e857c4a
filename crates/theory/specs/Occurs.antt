-- How often an element stands in a list, and whether it does, for elements that can be told apart.
-- Assumes nothing.
use Rattle.std.specs.Prelude.{Bool, false, ◌||◌, List, [], ◌∷◌, ℕ, ◌+◌}
use Rattle.theory.specs.Tests.{bit, is_yes}

module _ {A : Type 0} (d : Discrete A) (a : A) where
  -- how many entries of the list are a
  unfoldable pub times : List A → ℕ
  times [] = 0
  times (x ∷ xs) = bit (is_yes (d a x)) + times xs

  -- whether some entry of the list is a
  unfoldable pub has : List A → Bool
  has [] = false
  has (x ∷ xs) = is_yes (d a x) || has xs
