-- The numbers from one down to 0, and another after them: how often each stands there, and which is the last.
-- Assumes nothing.
use mathlib.Core.Path.{◌≡◌, refl}
use mathlib.Core.Bool.{true, false≢true}
use mathlib.Core.List.{List, [], ◌∷◌}
use Prim.Native.Nat.{ℕ, zero, suc, ◌≤◌, ◌<◌}
use native.Mathlib.Omega.{arith}
use borrow.Author.Tests.{eq-eqb, ne_eqb}
use Rattle.theory.proofs.Order.{split}
use Rattle.promises.specs.Clauses.{times, ends_in}

-- from m down to 0, and then n
unfoldable pub path : ℕ → ℕ → List ℕ
path n zero = 0 ∷ n ∷ []
path n (suc m) = suc m ∷ path n m

pub ends_path : (n m : ℕ) → ends_in n (path n m) ≡ true
unfolding path
ends_path n zero = eq-eqb n n refl
ends_path n (suc m) = later (suc m) (path n m) (ends_path n m)
  where
    later : (x : ℕ) (l : List ℕ) → ends_in n l ≡ true → ends_in n (x ∷ l) ≡ true
    later x [] e = absurd (false≢true e)
    later x (y ∷ l) e = e

-- a number below n is there once where it is at most m, and not where it is above
path_past : (n m q : ℕ) → m < q → q < n → times q (path n m) ≡ 0
unfolding path
path_past n zero q a b = rw (ne_eqb q 0 (λ e. omega arith), ne_eqb q n (λ e. omega arith)) refl
path_past n (suc m) q a b = let e = path_past n m q (omega arith) b in rw (ne_eqb q (suc m) (λ e. omega arith)) (omega (arith, e))

pub path_once : (n m q : ℕ) → q ≤ m → q < n → times q (path n m) ≡ 1
unfolding path
path_once n zero q a b = rw (eq-eqb q 0 (omega arith), ne_eqb q n (λ e. omega arith)) refl
path_once n (suc m) q a b =
    split q (suc m)
    (λ e. let z = path_past n m q (omega arith) b in rw (eq-eqb q (suc m) e) (omega (arith, z)))
    (λ e. let z = path_once n m q (omega arith) b in rw (ne_eqb q (suc m) e) (omega (arith, z)))
