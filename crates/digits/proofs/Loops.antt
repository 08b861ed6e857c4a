-- What a loop over an array of records keeps: one that puts them, and one that reads them.
-- Assumes nothing.
use mathlib.Core.Path.{◌≡◌, refl, sym, ap, subst, ◌∙◌}
use mathlib.Core.Bool.{Bool, true, false, ◌&&◌}
use mathlib.Core.List.{List, [], ◌∷◌, ◌++◌}
use Prim.Native.Nat.{ℕ, ◌+◌, ◌*◌, ◌<◌, ◌≤◌}
use native.Mathlib.Numerals.{add-one}
use native.Mathlib.Omega.{arith}
use lib.ListN.{length, set, take, length-set}
use lib.Seq.{take_all, take-suc-set}
use Rattle.theory.proofs.Tests.{and_left, and_right, is_false, true_false}
use Rattle.digits.specs.Promises.{Puts}
use Rattle.digits.specs.Rows.{rows, blocks, all_to}
use Rattle.digits.proofs.Passing.{all_none, all_more, all_at, two_tests}
use Rattle.digits.proofs.Rows.{rows_more, rows_none, blocks_none, blocks_more}
use Rattle.digits.proofs.Stores.{puts_none, puts_then, puts_as}

-- the first i records, each of w bytes, are put
pub record Putting {A : Type 0} (f : A → List ℕ) (g : ℕ → A) (n w : ℕ) (out₀ : List ℕ) (at : ℕ) (out : List ℕ) (next i : ℕ) : Type 0 where
  pub within : i ≤ n
  pub so_far : Puts (i * w) out₀ at (blocks f (rows g i)) out next
  pub long : length out ≡ length out₀

module _ {A : Type 0} (f : A → List ℕ) (g : ℕ → A) (n w : ℕ) where
  pub putting_none : (out : List ℕ) (at : ℕ) → Putting f g n w out at out at 0
  putting_none out at = record {
    within = omega arith;
    so_far = subst (λ (k : ℕ). Puts k out at (blocks f (rows g 0)) out at) z (puts_as (sym (blocks_none f g)) puts_none);
    long = refl;
  }
    where
      z : 0 ≡ 0 * w
      z = omega arith

  pub putting_more : {out₀ out out' : List ℕ} {at next r i : ℕ} (x : A) → Putting f g n w out₀ at out next i → i < n → x ≡ g i
      → Puts w out next (f x) out' r → length out' ≡ length out → Putting f g n w out₀ at out' r (i + 1)
  putting_more {out₀} {out} {out'} {at} {next} {r} {i} x v q e p l =
      let p' : Puts w out next (f (g i)) out' r = puts_as (ap f e) p in
      let b : i * w + w ≡ (i + 1) * w = omega arith in
      let t : blocks f (rows g i) ++ f (g i) ≡ blocks f (rows g (i + 1)) =
      blocks_more f g i ∙ ap (λ (k : ℕ). blocks f (rows g k)) (sym (add-one i))
      in
      record {
        within = omega arith;
        so_far = subst (λ (k : ℕ). Puts k out₀ at (blocks f (rows g (i + 1))) out' r) b (puts_as t (puts_then v.so_far p'));
        long = l ∙ v.long;
      }

  pub putting_all : {out₀ out : List ℕ} {at next i : ℕ} → Putting f g n w out₀ at out next i → n ≤ i
      → Puts (n * w) out₀ at (blocks f (rows g n)) out next
  putting_all {out₀} {out} {at} {next} {i} v q =
      let e : i ≡ n = omega (arith, v.within) in
      subst (λ (k : ℕ). Puts (k * w) out₀ at (blocks f (rows g k)) out next) e v.so_far

-- one record more is read
read_more : {A : Type 0} (of : ℕ → A) (xs : List A) {i : ℕ} (x : A) → take i xs ≡ rows of i → i < length xs → x ≡ of i
    → take (i + 1) (set xs i x) ≡ rows of (i + 1)
read_more of xs {i} x v q e =
    ap (λ (k : ℕ). take k (set xs i x)) (add-one i)
    ∙ take-suc-set xs i x q
    ∙ (λ k. v k ++ (e k ∷ []))
    ∙ sym (rows_more of i)
    ∙ ap (rows of) (sym (add-one i))

-- the first i records pass both tests, and are read
pub record Taking {A : Type 0} (f g : ℕ → Bool) (of : ℕ → A) (xs : List A) (i : ℕ) : Type 0 where
  pub clear : all_to f i ≡ true
  pub within : all_to g i ≡ true
  pub so_far : take i xs ≡ rows of i

-- where one does not pass, all do not
pub one_not : (f g : ℕ → Bool) (i n : ℕ) → i < n → (f i && g i) ≡ false → (all_to f n && all_to g n) ≡ false
one_not f g i n q e =
    is_false (all_to f n && all_to g n)
    (λ h. true_false (λ k. all_at f n (and_left (all_to f n) (all_to g n) h) i q k && all_at g n (and_right (all_to f n) (all_to g n) h) i q k) e)

module _ {A : Type 0} (f g : ℕ → Bool) (of : ℕ → A) where
  pub taking_none : (xs : List A) → Taking f g of xs 0
  taking_none xs = record { clear = all_none f; within = all_none g; so_far = sym (rows_none of) }

  pub taking_more : {xs : List A} {i : ℕ} (x : A) → Taking f g of xs i → i < length xs → (f i && g i) ≡ true → x ≡ of i → Taking f g of (set xs i x) (i + 1)
  taking_more {xs} {i} x v q t e = record {
    clear = all_more f i ∙ (λ k. v.clear k && and_left (f i) (g i) t k);
    within = all_more g i ∙ (λ k. v.within k && and_right (f i) (g i) t k);
    so_far = read_more of xs x v.so_far q e;
  }

  pub taking_all : {xs : List A} {i : ℕ} (n : ℕ) → Taking f g of xs i → i ≡ n → length xs ≡ n → ((all_to f n && all_to g n) ≡ true) × (xs ≡ rows of n)
  taking_all {xs} {i} n v e l = (
    ap (λ (m : ℕ). all_to f m && all_to g m) (sym e) ∙ (λ k. v.clear k && v.within k),
    sym (take_all i xs (omega arith)) ∙ v.so_far ∙ ap (rows of) e,
  )

-- the first i of n records are read whether they pass or not, and what is told beside them is whether all of them pass both tests
pub record Finding {A : Type 0} (f g : ℕ → Bool) (of : ℕ → A) (n : ℕ) (fine : Bool) (xs : List A) (i : ℕ) : Type 0 where
  pub within : i ≤ n
  pub so_far : take i xs ≡ rows of i
  pub long : length xs ≡ n
  pub passes : fine ≡ (all_to f i && all_to g i)

-- all are
pub record Found {A : Type 0} (f g : ℕ → Bool) (of : ℕ → A) (n : ℕ) (fine : Bool) (xs : List A) : Type 0 where
  pub passes : fine ≡ (all_to f n && all_to g n)
  pub reads : xs ≡ rows of n

module _ {A : Type 0} (f g : ℕ → Bool) (of : ℕ → A) (n : ℕ) where
  pub finding_none : (xs : List A) → length xs ≡ n → Finding f g of n true xs 0
  finding_none xs l = record {
    within = omega arith;
    so_far = sym (rows_none of);
    long = l;
    passes = λ k. sym (all_none f) k && sym (all_none g) k;
  }

  pub finding_more : {fine : Bool} {xs : List A} {i : ℕ} (b : Bool) (x : A) → Finding f g of n fine xs i → i < n → b ≡ (f i && g i)
      → x ≡ of i → Finding f g of n (fine && b) (set xs i x) (i + 1)
  finding_more {fine} {xs} {i} b x v q t e = record {
    within = omega arith;
    so_far = read_more of xs x v.so_far (omega (arith, v.long)) e;
    long = length-set xs i x ∙ v.long;
    passes =
        (λ k. v.passes k && t k)
        ∙ two_tests (all_to f i) (all_to g i) (f i) (g i)
        ∙ (λ k. sym (all_more f i) k && sym (all_more g i) k);
  }

  pub finding_all : {fine : Bool} {xs : List A} {i : ℕ} → Finding f g of n fine xs i → n ≤ i → Found f g of n fine xs
  finding_all {fine} {xs} {i} v q =
      let e : i ≡ n = omega (arith, v.within) in
      record {
        passes = v.passes ∙ ap (λ (m : ℕ). all_to f m && all_to g m) e;
        reads = sym (take_all i xs (omega (arith, v.long))) ∙ v.so_far ∙ ap (rows of) e;
      }
