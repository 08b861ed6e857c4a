-- Tests that agree, or that are always passed, of every element of a list.
-- Assumes nothing.
use mathlib.Core.Path.{◌≡◌, refl, ap₂}
use mathlib.Core.Bool.{Bool, true, ◌&&◌}
use mathlib.Core.Option.{Option, none, some}
use mathlib.Core.List.{List, [], ◌∷◌}
use Prim.Native.Nat.{ℕ, suc}
use Rattle.promises.specs.Clauses.{each, there}

-- tests that agree say the same of every element
pub each_same : {A : Type 0} (f g : ℕ → A → Bool) → ((i : ℕ) (x : A) → f i x ≡ g i x) → (k : ℕ) (xs : List A) → each k f xs ≡ each k g xs
each_same f g e k [] = refl
each_same f g e k (x ∷ xs) = ap₂ ◌&&◌ (e k x) (each_same f g e (suc k) xs)

-- and of what there is
pub there_same : {A B : Type 0} (n : B) (f g : A → B) → ((x : A) → f x ≡ g x) → (o : Option A) → there n f o ≡ there n g o
there_same n f g e none = refl
there_same n f g e (some x) = e x

-- a test that every element passes
pub each_yes : {A : Type 0} (f : ℕ → A → Bool) → ((i : ℕ) (x : A) → f i x ≡ true) → (k : ℕ) (xs : List A) → each k f xs ≡ true
each_yes f h k [] = refl
each_yes f h k (x ∷ xs) = ap₂ ◌&&◌ (h k x) (each_yes f h (suc k) xs)
