-- The least of some values, by a test that says which of two comes first.
-- Assumes nothing.
use Rattle.std.specs.Prelude.{Bool, cond, ℕ, zero, suc}
use Rattle.std.proofs.Math.Option.{Option, none, some}

-- a value made into another, where there is one
abbrev pub through : {A B : Type 0} → (A → B) → Option A → Option B
through f none = none
through f (some a) = some (f a)

-- the lesser of two values, or the one that there is; of two that are alike, the first
abbrev pub lesser : {A : Type 0} → (A → A → Bool) → Option A → Option A → Option A
lesser before none b = b
lesser before (some a) none = some a
lesser before (some a) (some b) = some (cond (before b a) b a)

-- the least of what the numbers below n have, or none where none of them has any
unfoldable pub least_below : {A : Type 0} → (A → A → Bool) → (ℕ → Option A) → ℕ → Option A
least_below before f zero = none
least_below before f (suc n) = lesser before (least_below before f n) (f n)
