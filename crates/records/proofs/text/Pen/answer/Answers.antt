-- 0 and the values, or the refusal.
-- Assumes nothing.
use mathlib.Core.Path.{◌≡◌, refl, sym}
use mathlib.Core.Option.{Option}
use mathlib.Core.List.{List}
use Prim.Native.Nat.{ℕ}
use native.Mathlib.Omega.{arith}
use Rattle.refusals.specs.declared.Refusal.{Refusal}
use Rattle.refusals.specs.Numbers.{number_of}
use Rattle.refusals.specs.Answer.{refuse}
use Rattle.refusals.proofs.Refusing.{by_number}
use Rattle.records.specs.Answers.{said_wake}
use Rattle.records.specs.Lines.{decimal, spaced, answer_text}
use Rattle.records.proofs.Putting.{puts_then, puts_same}
use Rattle.records.proofs.text.Pen.answer.Goals as goal

-- a refusal is its number
refusal_text : (w : Option ℕ) (l : List ℕ) (r : Refusal) → spaced (decimal (number_of r)) ≡ answer_text (refuse r) w l
unfolding answer_text
refusal_text w l r = sym (by_number (λ a. answer_text a w l) (λ n. spaced (decimal n)) (λ n. refl) (λ x. refl) r)

pub returns-in-Ok : goal.returns-in-Ok
unfolding answer_text
returns-in-Ok c = rw c.in-Ok.is (puts_same (puts_then c.two.ensures c.values.ensures) refl (omega arith))

pub returns-in-Err : goal.returns-in-Err
returns-in-Err c =
    rw c.in-Err.is (puts_same c.refusal.ensures (refusal_text (said_wake c.args.wake) c.args.list.now c.in-Err.why) (omega arith))
