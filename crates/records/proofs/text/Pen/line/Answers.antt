-- The operation or a `?`, what was answered, and the newline, one behind the other.
-- Assumes nothing.
use mathlib.Core.Path.{refl, ap}
use mathlib.Core.List.{◌++◌}
use Prim.Native.Nat.{ℕ}
use native.Mathlib.Omega.{arith}
use Rattle.refusals.specs.Answer.{Nothing}
use Rattle.refusals.proofs.Refusing.{number_of_lem}
use Rattle.records.specs.Lines.{text, decimal, spaced, line_of}
use Rattle.records.proofs.Decimal.{digits_of_64}
use Rattle.records.proofs.Putting.{puts_then, puts_same}
use Rattle.records.proofs.text.Pen.line.Goals as goal
use Rattle.records.proofs.text.Pen.line.Goals.{in-Ok, in-Err}

pub digits-requires : goal.digits-requires
digits-requires c = omega (arith, digits_of_64 c.in-Ok.field-0.operation (omega arith))

pub returns : goal.returns
unfolding line_of
returns c =
    elim c.match-line.branch [
      | in-Ok w ↦
          rw w.in-Ok.is
          (puts_same (puts_then w.digits.ensures (puts_then w.answer.ensures (rw w.self-is at c.byte-2.ensures))) refl (omega arith))
      | in-Err w ↦
          rw w.in-Err.is
          (puts_same (puts_then w.byte.ensures (puts_then w.refusal.ensures (rw w.self-is at c.byte-2.ensures)))
          (ap (λ (n : ℕ). text "?" ++ (spaced (decimal n) ++ text "\n")) (number_of_lem Nothing w.in-Err.why)) (omega arith))
    ]
