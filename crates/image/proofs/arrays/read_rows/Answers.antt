-- Each turn looks at one record more.
-- Assumes nothing.
use mathlib.Core.Path.{◌≡◌, refl, sym, subst}
use mathlib.Core.Bool.{Bool, true, false}
use mathlib.Core.List.{List}
use Prim.Native.Nat.{ℕ, ◌+◌, ◌*◌, ◌<◌}
use native.Mathlib.Omega.{arith}
use lib.Dec.{ltb}
use lib.ListN.{length, set}
use Rattle.std.specs.Bool.{then_some}
use Rattle.std.specs.Prelude.{Option, Some, None, ⊤}
use Rattle.digits.proofs.Loops.{Taking, taking_none, taking_more, taking_all, one_not}
use Rattle.image.specs.Image.{clear_if, in_if, read_or}
use Rattle.image.specs.Promises.{FindsRow, FindsRows}
use Rattle.image.proofs.arrays.read_rows.Goals as goal

-- what is answered of a record tells whether its bytes pass
not_passed : {A : Type 0} (b : Bool) (y : A) → None ≡ then_some b y → b ≡ false
not_passed true y e = cc
not_passed false y e = refl

passed : {A : Type 0} (b : Bool) (x y : A) → Some x ≡ then_some b y → (b ≡ true) × (x ≡ y)
passed true x y e = (refl, cc)
passed false x y e = cc

-- the loop over any kind of records
module _ {A : Type 0} (clear within : List ℕ → ℕ → Bool) (read_as : List ℕ → ℕ → A) (d : A) (w n : ℕ) (l : List ℕ) (at : ℕ) where
  abbrev Going : List A → ℕ → Type 0
  Going =
      Taking (λ j. clear_if clear w (ltb j n) l (at + j * w)) (λ j. in_if within (ltb j n) l (at + j * w)) (λ j. read_or read_as d (ltb j n) l (at + j * w))

  none : (xs : List A) → Going xs 0
  none = taking_none _ _ _

  more : {xs : List A} {i s : ℕ} (x : A) → Going xs i → i < length xs → s ≡ w → FindsRow clear within read_as d w (ltb i n) l (at + i * s) (Some x)
      → Going (set xs i x) (i + 1)
  more {xs} {i} {s} x v q e f =
      let p = passed _ x _ (subst (λ (k : ℕ). FindsRow clear within read_as d w (ltb i n) l (at + i * k) (Some x)) e f) in
      taking_more _ _ _ x v q p.0 p.1

  fails : {i s : ℕ} (m : ℕ) (xs : List A) {r : Option ⊤} → i < m → s ≡ w → FindsRow clear within read_as d w (ltb i n) l (at + i * s) None
      → r ≡ None → FindsRows clear within read_as d w m n l at xs r
  fails {i} {s} m xs q e f z =
      let p = not_passed _ _ (subst (λ (k : ℕ). FindsRow clear within read_as d w (ltb i n) l (at + i * k) None) e f) in
      subst (λ r. FindsRows clear within read_as d w m n l at xs r) (sym z) (one_not _ _ i m q p)

  all : {xs : List A} {i : ℕ} (m : ℕ) → Going xs i → i ≡ m → length xs ≡ m → FindsRows clear within read_as d w m n l at xs (Some tt)
  all m v e h = taking_all _ _ _ m v e h

pub loop-i-init : goal.loop-i-init
loop-i-init g c = let t = g.T.Cell in let a = c.args in none t.clear t.within t.read_as t.blank t.SIZE a.used a.bytes.now a.at a.all.now

pub returns-in_err-row : goal.returns-in_err-row
returns-in_err-row g c =
    let t = g.T.Cell in
    let a = c.args in
    fails t.clear t.within t.read_as t.blank t.SIZE a.used a.bytes.now a.at (length a.all.now) _ c.loop-i-test.true c.SIZE.ensures c.in_err-row.ensures
    c.from_residual.ensures

pub loop-i-preserved : goal.loop-i-preserved
loop-i-preserved g c =
    let t = g.T.Cell in
    let a = c.args in
    more t.clear t.within t.read_as t.blank t.SIZE a.used a.bytes.now a.at c.in_ok-row.field-0 c.loop-i.invariant (omega (arith, c.loop-i.auto.all))
    c.SIZE.ensures c.in_ok-row.ensures

pub returns : goal.returns
returns g c =
    let t = g.T.Cell in
    let a = c.args in
    all t.clear t.within t.read_as t.blank t.SIZE a.used a.bytes.now a.at (length a.all.now) c.loop-i.invariant (omega arith) c.loop-i.auto.all
