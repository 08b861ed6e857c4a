-- The number grows smaller.
-- Assumes nothing.
use Rattle.records.proofs.text.Pen.+digits.Given as goal

abbrev pub decreases-digits : goal.decreases-digits
decreases-digits l = l.n
