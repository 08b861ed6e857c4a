-- A number below 10 is one digit; of any other the tenth comes first, and then the last digit.
-- Assumes nothing.
use Rattle.std.proofs.Common.{◌≡◌, ◌∙◌, ℕ, ◌+◌, ◌/◌, ◌≤◌, length, sym, ap, arith, length-append}
use Rattle.records.specs.Lines.{decimal}
use Rattle.records.proofs.Decimal.{decimal_one, decimal_more, digits_of_64}
use Rattle.records.proofs.Putting.{puts_then, puts_as}
use Rattle.records.proofs.text.Pen.+digits.Goals as goal

-- how long a number of more digits is
longer : (n : ℕ) → 10 ≤ n → length (decimal n) ≡ length (decimal (n / 10)) + 1
longer n h = ap length (decimal_more n h) ∙ simp length-append

pub byte-requires : goal.byte-requires
byte-requires t c = omega (arith, ap length (decimal_one c.args.n c.if-n-lt10.true))

pub returns-then-n-lt10 : goal.returns-then-n-lt10
returns-then-n-lt10 t c =
    puts_as (sym (decimal_one c.args.n c.if-n-lt10.true))
    (omega (arith, ap length (decimal_one c.args.n c.if-n-lt10.true))) c.byte.ensures

pub digits-requires : goal.digits-requires
digits-requires t c = omega (arith, longer c.args.n c.if-n-lt10.false, c.requires)

pub byte-requires-2 : goal.byte-requires-2
byte-requires-2 t c = omega (arith, longer c.args.n c.if-n-lt10.false)

pub returns : goal.returns
returns t c =
    puts_as (sym (decimal_more c.args.n c.if-n-lt10.false)) (digits_of_64 c.args.n (omega arith))
    (puts_then c.digits.ensures c.byte-2.ensures)
