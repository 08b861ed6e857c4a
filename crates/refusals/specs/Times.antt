-- Times, their sums and their differences. A time is an unsigned number of nanoseconds below 2^64. A difference is an integer of the
-- logic's library, `lib.IntN`: `pos n` is n and `negsuc n` is -(n + 1); an `i64` of the code is read as one.
-- Assumes nothing.
use Rattle.std.specs.Prelude.{◌≡◌, Bool, cond, ◌&&◌, ℕ, ◌+◌, ◌^◌, ltb, ℤ, pos, neg_ℤ, nat_abs, ◌-ℤ◌, Result}
use Rattle.std.specs.Int.Signed.{le_z, lt_z}
use Rattle.refusals.specs.declared.Refusal.TheVariants.{TimeOverflow}
use Rattle.refusals.specs.declared.Refusal.{Refusal}
use Rattle.refusals.specs.Answer.{Answer, accepted, refuse}
use Rattle.refusals.specs.Outcomes.{said_by}

-- a sum of times: refused with 6 where it is above 2^64-1
abbrev pub timely : ℕ → Answer ℕ
timely t = cond (ltb t (2 ^ 64)) (accepted t) (refuse TimeOverflow)

-- what a sum of times says: the time, or the refusal's number
abbrev pub said : Result ℕ Refusal → Answer ℕ
said = said_by (λ (t : ℕ). t)

-- `sum` of a and b answers r
abbrev pub Sums : ℕ → ℕ → Result ℕ Refusal → Type 0
Sums a b r = said r ≡ timely (a + b)

-- a signed number of 64 bits is from -2^63 to 2^63-1
abbrev pub in_signed : ℤ → Bool
in_signed z = le_z (neg_ℤ (pos (2 ^ 63))) z && lt_z z (pos (2 ^ 63))

-- a difference of times: refused with 6 where it is not such a number
abbrev pub signed : ℤ → Answer ℤ
signed z = cond (in_signed z) (accepted z) (refuse TimeOverflow)

-- the first time minus the second
abbrev pub difference_of : ℕ → ℕ → Answer ℤ
difference_of a b = signed (pos a -ℤ pos b)

-- what a difference of times says: its number of nanoseconds, or the refusal's number
abbrev pub said_left : Result ℤ Refusal → Answer ℤ
said_left = said_by (λ (z : ℤ). z)

-- `difference` of a and b answers r
abbrev pub Differs : ℕ → ℕ → Result ℤ Refusal → Type 0
Differs a b r = said_left r ≡ difference_of a b

-- `size` of z is n: z without its sign
abbrev pub Sizes : ℤ → ℕ → Type 0
Sizes z n = n ≡ nat_abs z
