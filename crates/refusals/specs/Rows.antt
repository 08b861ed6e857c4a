-- Worked rows of the difference of two times, and of the faults, each with what the rules must give.
-- Assumes nothing.
use Rattle.std.specs.Prelude.{List, [], ◌∷◌, ℕ, ◌+◌, ◌-◌, ◌^◌, ℤ, pos, neg_ℤ}
use Rattle.refusals.specs.declared.fault.Fault.{Fault}
use Rattle.refusals.specs.declared.fault.Fault.TheVariants as F
use Rattle.refusals.specs.Faults.{kind_of, where_of}
use Rattle.refusals.specs.Answer.{Answer, accepted, refused}
use Rattle.refusals.specs.Times.{difference_of}

-- a deadline, a reading, and what is left
pub record Row : Type 0 where
  pub deadline : ℕ
  pub reading : ℕ
  pub left : Answer ℤ

infixl 4 ◌at_reading◌
infixl 3 ◌leaves◌
abbrev pub ◌at_reading◌ : ℕ → ℕ → ℕ × ℕ
d at_reading N = (d, N)

abbrev pub ◌leaves◌ : ℕ × ℕ → Answer ℤ → Row
q leaves a = record { deadline = q.0; reading = q.1; left = a }

-- around zero, at either end of the signed numbers and one past it, and between the largest times
abbrev pub rows : List Row
rows =
    (5 at_reading 7 leaves accepted (neg_ℤ (pos 2)))
    ∷ (7 at_reading 7 leaves accepted (pos 0))
    ∷ (7 at_reading 5 leaves accepted (pos 2))
    ∷ (2 ^ 63 - 1 at_reading 0 leaves accepted (pos (2 ^ 63 - 1)))
    ∷ (2 ^ 63 at_reading 0 leaves refused 6)
    ∷ (2 ^ 64 - 1 at_reading 0 leaves refused 6)
    ∷ (0 at_reading 2 ^ 63 leaves accepted (neg_ℤ (pos (2 ^ 63))))
    ∷ (0 at_reading 2 ^ 63 + 1 leaves refused 6)
    ∷ (0 at_reading 2 ^ 64 - 1 leaves refused 6)
    ∷ (2 ^ 64 - 1 at_reading 2 ^ 64 - 1 leaves accepted (pos 0))
    ∷ (2 ^ 64 - 1 at_reading 2 ^ 63 leaves accepted (pos (2 ^ 63 - 1)))
    ∷ (2 ^ 63 - 1 at_reading 2 ^ 64 - 1 leaves accepted (neg_ℤ (pos (2 ^ 63))))
    ∷ []

-- what the rule says to a row
abbrev pub ruled : Row → Answer ℤ
ruled r = difference_of r.deadline r.reading

-- a fault, the number of its kind, and where it is: the kinds in the order in which they are tried, and 0 for a count
pub record FaultRow : Type 0 where
  pub fault : Fault
  pub pair : ℕ × ℕ

abbrev pub is_pair : Fault → ℕ → ℕ → FaultRow
is_pair f k n = record { fault = f; pair = (k, n) }

abbrev pub fault_rows : List FaultRow
fault_rows =
    is_pair F.Count 1 0
    ∷ is_pair (F.Position 5) 2 5
    ∷ is_pair (F.Order 6) 3 6
    ∷ is_pair (F.FreeChain 7) 4 7
    ∷ is_pair (F.List 8) 5 8
    ∷ is_pair (F.Place 65535) 6 65535
    ∷ []

-- what the rules say to a row
abbrev pub pair_of : FaultRow → ℕ × ℕ
pair_of r = (kind_of r.fault, where_of r.fault)
