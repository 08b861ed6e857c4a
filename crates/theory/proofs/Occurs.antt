-- What one more entry does to how often an element stands in a list, and to whether it does.
-- Assumes nothing.
use mathlib.Core.Path.{◌≡◌, refl}
use mathlib.Core.Logic.{◌≢◌}
use mathlib.Core.Bool.{true}
use mathlib.Core.List.{List, ◌∷◌}
use Prim.Native.Nat.{suc}
use native.Mathlib.Omega.{arith}
use Rattle.theory.specs.Occurs.{times, has}
use Rattle.theory.proofs.Tests.{yes-isYes, no-isYes}

module _ {A : Type 0} (d : Discrete A) (a : A) where
  -- a in front stands once more in the list
  pub times_same : (xs : List A) → times d a (a ∷ xs) ≡ suc (times d a xs)
  unfolding times
  times_same xs = rw (yes-isYes (d a a) refl) (omega arith)

  -- another element in front makes no difference to how often a stands there
  pub times_other : (x : A) (xs : List A) → a ≢ x → times d a (x ∷ xs) ≡ times d a xs
  unfolding times
  times_other x xs n = rw (no-isYes (d a x) n) (omega arith)

  -- a list with a in front has a
  pub has_same : (xs : List A) → has d a (a ∷ xs) ≡ true
  unfolding has
  has_same xs = rw (yes-isYes (d a a) refl)

  -- another element in front makes no difference to whether the list has a
  pub has_other : (x : A) (xs : List A) → a ≢ x → has d a (x ∷ xs) ≡ has d a xs
  unfolding has
  has_other x xs n = rw (no-isYes (d a x) n)
