-- The last byte is put first; what is left to put makes the whole.
-- Assumes nothing.
use mathlib.Core.Path.{◌≡◌, refl, ap, ◌∙◌, sym}
use mathlib.Core.List.{List, [], ◌∷◌}
use Prim.Native.Nat.{ℕ, suc, ◌+◌, ◌-◌, ◌/◌, ◌%◌}
use native.Mathlib.Omega.{arith}
use lib.ListN.{length, set}
use lib.Seq.{sets}
use Rattle.digits.specs.Digits.{digits}
use Rattle.digits.proofs.Digits.{length_digits}
use Rattle.digits.proofs.Stores.{sets_append, store_first}
use Rattle.digits.proofs.put.Goals as goal

-- one byte is put, and the others are left
step : (l : List ℕ) (at j m : ℕ) → sets (set l (at + j) (m % 256)) at (digits j (m / 256)) ≡ sets l at (digits (suc j) m)
step l at j m =
    let d = digits j (m / 256) in
    let e : length d ≡ j = length_digits j (m / 256) in
    store_first l at d (at + j) (m % 256) (omega arith)
    ∙ ap (λ (n : ℕ). set (sets l at d) (at + n) (m % 256)) (sym e)
    ∙ sets_append l at d (m % 256 ∷ [])

pub loop-i-preserved : goal.loop-i-preserved
loop-i-preserved c =
    let l = c.loop-i in
    let at = c.args.at in
    let e : suc (l.i - 1) ≡ l.i = omega (arith, c.loop-i-test.true) in
    step l.out at (l.i - 1) l.m ∙ ap (λ (n : ℕ). sets l.out at (digits n l.m)) e ∙ l.invariant

pub returns : goal.returns
returns c =
    let l = c.loop-i in
    let a = c.args in
    let e : 0 ≡ l.i = omega (arith, c.loop-i-test.false) in
    record {
      written = ap (λ (n : ℕ). sets l.out a.at (digits n l.m)) e ∙ l.invariant;
      next = refl;
      long = length_digits a.k a.n;
    }
