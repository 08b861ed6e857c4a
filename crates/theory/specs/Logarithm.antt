-- The logarithm to the base 2, rounded down.
-- Assumes nothing.
use Rattle.std.specs.Prelude.{cond, ℕ, zero, suc, ◌/◌, ltb}

-- how often m can be halved before it is less than 2; the first number bounds the halvings
unfoldable pub log_by : ℕ → ℕ → ℕ
log_by zero m = 0
log_by (suc f) m = cond (ltb m 2) 0 (suc (log_by f (m / 2)))

-- the largest s with 2 ^ s at most m, and 0 for 0
unfoldable pub log2 : ℕ → ℕ
log2 m = log_by m m
