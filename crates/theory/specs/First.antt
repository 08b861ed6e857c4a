-- The first number that fails a test.
-- Assumes nothing.
use Rattle.std.specs.Prelude.{Bool, cond, ℕ, zero, suc, ◌+◌}
use Rattle.std.proofs.Math.Option.{Option, none, some}

-- the first of the n numbers from k on that fails the test, or none
unfoldable pub first_bad : (ℕ → Bool) → ℕ → ℕ → Option ℕ
first_bad ok zero k = none
first_bad ok (suc n) k = cond (ok k) (first_bad ok n (k + 1)) (some k)
