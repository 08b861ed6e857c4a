-- No function has a second answer: its promise is one equation for each thing that it leaves or answers.
-- Assumes nothing.
use mathlib.Core.Path.{sym, ◌∙◌}
use mathlib.Core.Bool.{Bool}
use mathlib.Core.List.{List}
use Prim.Native.Nat.{ℕ}
use Rattle.theory.specs.Promise.{NoSecond}
use Rattle.digits.specs.Promises.{Reads, Puts, PutsNumber, AreZeros}

pub number_no_second : NoSecond (λ (q : ℕ × List ℕ × ℕ) (r : ℕ). Reads q.0 q.1 q.2 r)
number_no_second q r s p t = p.value ∙ sym t.value

-- whatever is put: the bytes afterwards and the offset behind it are known
pub puts_no_second : NoSecond (λ (q : ℕ × List ℕ × ℕ × List ℕ) (r : List ℕ × ℕ). Puts q.0 q.1 q.2 q.3 r.0 r.1)
puts_no_second q r s p t = λ i. ((p.written ∙ sym t.written) i, (p.next ∙ sym t.next) i)

pub put_no_second : NoSecond (λ (q : ℕ × ℕ × List ℕ × ℕ) (r : List ℕ × ℕ). PutsNumber q.0 q.1 q.2 q.3 r.0 r.1)
put_no_second q r s p t = λ i. ((p.written ∙ sym t.written) i, (p.next ∙ sym t.next) i)

pub zeros_no_second : NoSecond (λ (q : ℕ × List ℕ × ℕ) (r : Bool). AreZeros q.0 q.1 q.2 r)
zeros_no_second q r s p t = p ∙ sym t
