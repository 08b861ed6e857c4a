-- Each kind of reply has its own parts.
-- Assumes nothing.
use mathlib.Core.Path.{◌≡◌, refl, sym, ap, ◌∙◌}
use mathlib.Core.Logic.{by_cases}
use mathlib.Core.List.{List}
use Prim.Native.Nat.{ℕ, min}
use native.Mathlib.Omega.{arith}
use native.Mathlib.Decide.{dec_lt}
use lib.ListN.{length, take, length-take}
use lib.Seq.{take_all}
use Rattle.records.specs.Answers.{said_wake}
use Rattle.records.specs.Lines.{decimal, spaced, report_text, values_text}
use Rattle.records.proofs.Putting.{puts_none, puts_then, puts_same}
use Rattle.records.proofs.text.Pen.values.Goals as goal

-- as many words as were reported, or as the list has
take_least : (n k : ℕ) (l : List ℕ) → k ≡ min n (length l) → take k l ≡ take n l
take_least n k l e =
    by_cases (dec_lt n (length l)) (λ h. let q : k ≡ n = omega arith in ap (λ (i : ℕ). take i l) q)
    (λ h. take_all k l (omega arith) ∙ sym (take_all n l (omega arith)))

pub returns-in-Added : goal.returns-in-Added
unfolding values_text
returns-in-Added c = rw c.in-Added.is (puts_same (puts_then c.number.ensures c.number-in-Added.ensures) refl (omega arith))

pub returns-in-Done : goal.returns-in-Done
unfolding values_text
returns-in-Done c = rw c.in-Done.is (puts_same puts_none refl (omega arith))

pub returns-in-Ran : goal.returns-in-Ran
unfolding values_text
returns-in-Ran c =
    let l = c.args.list.now in
    rw c.in-Ran.is
    (puts_same c.report.ensures
    (ap (λ (ws : List ℕ). report_text ws (said_wake c.args.wake)) (take_least c.in-Ran.reported c.min.result l c.min.ensures))
    (omega (arith, c.min.ensures, length-take c.min.result l, c.requires.list_len_bound)))

pub returns-in-Wake : goal.returns-in-Wake
unfolding values_text
returns-in-Wake c = rw c.in-Wake.is (puts_same c.wake.ensures refl (omega arith))

pub returns-in-Found : goal.returns-in-Found
unfolding values_text
returns-in-Found c =
    rw c.in-Found.is (puts_same c.number-in-Found.ensures (ap (λ (n : ℕ). spaced (decimal n)) c.polled.ensures) (omega arith))

pub returns-in-Ticked : goal.returns-in-Ticked
unfolding values_text
returns-in-Ticked c = rw c.in-Ticked.is (puts_same c.number-in-Ticked.ensures refl (omega arith))
