-- What is known of a late tick.
-- Assumes nothing.
use mathlib.Core.Path.{◌≡◌}
use mathlib.Core.Bool.{true}
use Prim.Native.Nat.{ℕ, ◌+◌, ◌<◌, ◌≤◌}
use native.Mathlib.Omega.{arith}
use borrow.Author.Tests.{ltb-true}
use Rattle.interval.specs.Rules.{late_at}

-- a late tick is past its deadline
pub late_past : (T N : ℕ) → late_at T N ≡ true → T ≤ N
late_past T N e = let l : T + 5000000 < N = ltb-true (T + 5000000) N e in omega arith
