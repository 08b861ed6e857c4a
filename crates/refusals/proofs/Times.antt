-- What is known of a sum or a difference of times that was accepted.
-- Assumes nothing.
use mathlib.Core.Path.{◌≡◌}
use mathlib.Core.Bool.{Bool, true, false, cond}
use Prim.Native.Nat.{ℕ, ◌^◌}
use native.Mathlib.Omega.{arith}
use lib.Dec.{ltb}
use lib.IntN.{ℤ, pos, ◌-ℤ◌}
use Rattle.refusals.specs.declared.Refusal.TheVariants.{TimeOverflow}
use Rattle.refusals.specs.Answer.{accepted, refuse}
use Rattle.refusals.specs.Times.{timely, in_signed, difference_of}

-- an accepted sum is the sum
pub timely_value : (t s : ℕ) → accepted t ≡ timely s → t ≡ s
timely_value t s e = go (ltb s (2 ^ 64)) e
  where
    go : (b : Bool) → accepted t ≡ cond b (accepted s) (refuse TimeOverflow) → t ≡ s
    go true e = cc
    go false e = absurd (let z : ◌≡◌ {A = ℕ} 0 1 = cc in omega arith)

-- an accepted difference is the difference
pub difference_value : (a b : ℕ) (z : ℤ) → difference_of a b ≡ accepted z → z ≡ pos a -ℤ pos b
difference_value a b z e = go (in_signed (pos a -ℤ pos b)) e
  where
    go : (t : Bool) → cond t (accepted (pos a -ℤ pos b)) (refuse TimeOverflow) ≡ accepted z → z ≡ pos a -ℤ pos b
    go true e = cc
    go false e = absurd (let n : ◌≡◌ {A = ℕ} 0 1 = cc in omega arith)
