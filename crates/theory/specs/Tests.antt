-- Boolean tests beside the facts that they tell.
-- Assumes nothing.
use Rattle.std.specs.Prelude.{Bool, true, false, ℕ}

-- the test t tells P: either t is true and P holds, or t is false and P does not
pub data Ref (P : Type 0) : Bool → Type 0 where
  holds : P → Ref P true
  fails : ¬ P → Ref P false

-- whether a decision came out as yes: what the library calls `decide`, but it computes without being opened
abbrev pub is_yes {ℓ} : {P : Type ℓ} → Dec P → Bool
is_yes (yes p) = true
is_yes (no n) = false

-- a test as a number: 1 for true, 0 for false
abbrev pub bit : Bool → ℕ
bit true = 1
bit false = 0
