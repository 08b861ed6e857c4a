-- How many entries a heap holds at most, `CAP` of the code. Every rule and every law is over this name.
-- Assumes nothing.
use Rattle.std.specs.Prelude.{ℕ}

abbrev pub cap : ℕ
cap = 256
