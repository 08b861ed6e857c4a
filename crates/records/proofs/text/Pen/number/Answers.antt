-- A blank and the digits, of which a number of 64 bits has at most 20.
-- Assumes nothing.
use Rattle.std.proofs.Common.{arith}
use Rattle.records.proofs.Decimal.{digits_of_64}
use Rattle.records.proofs.text.Pen.number.Goals as goal

pub digits-requires : goal.digits-requires
digits-requires c = omega (arith, digits_of_64 c.args.n c.ranges.n.fits)
