-- Each turn takes one byte more.
-- Assumes nothing.
use mathlib.Core.Path.{◌≡◌}
use mathlib.Core.List.{List}
use Prim.Native.Nat.{ℕ, ◌^◌, ◌<◌}
use Rattle.digits.specs.Digits.{value_at}
use Rattle.digits.proofs.number.Given as goal

-- i bytes are read
pub record Going (bytes : List ℕ) (at n i : ℕ) : Type 0 where
  pub value : n ≡ value_at i bytes at
  pub small : n < 256 ^ i

abbrev pub invariant-loop-byte : goal.invariant-loop-byte
invariant-loop-byte l = Going l.bytes l.at l.n l.byte-index
