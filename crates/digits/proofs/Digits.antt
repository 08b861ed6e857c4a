-- Digits and values undo each other, over the count.
-- Assumes nothing.
use mathlib.Core.Path.{◌≡◌, refl, sym, ap, subst, ◌∙◌}
use mathlib.Core.Bool.{true}
use mathlib.Core.List.{List, [], ◌∷◌, ◌++◌}
use Prim.Native.Nat.{ℕ, zero, suc, ◌+◌, ◌*◌, ◌-◌, ◌/◌, ◌%◌, ◌^◌, ◌<◌}
use native.Mathlib.Nat.{pow-suc, add-zero}
use native.Mathlib.Omega.{arith}
use lib.Dec.{eqb}
use lib.ListN.{length, get_or, replicate, length-append, length-replicate, get_or-replicate, get_or-append}
use lib.Seq.{get_or-append-add, ext_get_or}
use borrow.Author.Tests.{eqb-true, eq-eqb}
use mathlib.Core.Logic.{by_cases}
use native.Mathlib.Decide.{dec_lt}
use Rattle.digits.specs.Digits.{digits, value_at, zeros_at, Bytes, Stands}
use Rattle.digits.proofs.Passing.{all_by, all_at}

pub length_digits : (k n : ℕ) → length (digits k n) ≡ k
length_digits zero n = refl
length_digits (suc k) n = length-append (digits k (n / 256)) (n % 256 ∷ []) ∙ (let h : length (digits k (n / 256)) ≡ k = length_digits k (n / 256) in omega arith)

-- what stands, in parts
pub stands_left : {l : List ℕ} {i : ℕ} (s t : List ℕ) → Stands l i (s ++ t) → Stands l i s
stands_left {l} {i} s t h = record {
  there = λ j q. h.there j (omega (arith, length-append s t)) ∙ get_or-append s t 0 j q;
}

pub stands_right : {l : List ℕ} {i : ℕ} (s t : List ℕ) (k : ℕ) → length s ≡ k → Stands l i (s ++ t) → Stands l (i + k) t
stands_right {l} {i} s t k e h = record {
  there = λ j q.
      let p : i + k + j ≡ i + (length s + j) = omega arith in
      ap (λ (n : ℕ). get_or l n 0) p ∙ h.there (length s + j) (omega (arith, length-append s t)) ∙ get_or-append-add s t j 0;
}

pub stands_skip : {l : List ℕ} {i : ℕ} (s t : List ℕ) (k j : ℕ) → length s ≡ k → i + k ≡ j → Stands l i (s ++ t) → Stands l j t
stands_skip {l} {i} s t k j e f h = subst (λ (n : ℕ). Stands l n t) f (stands_right s t k e h)

pub stands_both : {l : List ℕ} {i : ℕ} (s t : List ℕ) → Stands l i s → Stands l (i + length s) t → Stands l i (s ++ t)
stands_both {l} {i} s t a b = record {
  there = λ j q.
      by_cases (dec_lt j (length s)) (λ p. a.there j p ∙ sym (get_or-append s t 0 j p))
      (λ p.
      let e : i + j ≡ i + length s + (j - length s) = omega arith in
      let f : length s + (j - length s) ≡ j = omega arith in
      ap (λ (n : ℕ). get_or l n 0) e ∙ b.there (j - length s) (omega (arith, length-append s t)) ∙ sym (get_or-append-add s t (j - length s) 0)
      ∙ ap (λ (n : ℕ). get_or (s ++ t) n 0) f);
}

-- bytes that stand one behind the other
pub stands_then : {l : List ℕ} {i : ℕ} (t u : List ℕ) (k j : ℕ) → length t ≡ k → i + k ≡ j → Stands l i t → Stands l j u → Stands l i (t ++ u)
stands_then {l} {i} t u k j e f a b = stands_both t u a (subst (λ (m : ℕ). Stands l m u) (sym (ap (λ (m : ℕ). i + m) e ∙ f)) b)

pub stands_one : {l : List ℕ} {i : ℕ} (b : ℕ) → get_or l i 0 ≡ b → Stands l i (b ∷ [])
stands_one {l} {i} b e = record {
  there = λ j q.
      let z : j ≡ 0 = omega arith in
      ap (λ (n : ℕ). get_or l (i + n) 0) z ∙ ap (λ (n : ℕ). get_or l n 0) (add-zero i) ∙ e ∙ ap (λ (n : ℕ). get_or (b ∷ []) n 0) (sym z);
}

pub stands_all : (l : List ℕ) → Stands l 0 l
stands_all l = record { there = λ j q. let p : 0 + j ≡ j = omega arith in ap (λ (n : ℕ). get_or l n 0) p }

-- the bytes of a number are that number
pub value_digits : {l : List ℕ} {i : ℕ} (k n : ℕ) → n < 256 ^ k → Stands l i (digits k n) → value_at k l i ≡ n
value_digits zero n h s = omega arith
value_digits {l} {i} (suc k) n h s =
    let a : value_at k l i ≡ n / 256 = value_digits k (n / 256) (omega (arith, pow-suc 256 k)) (stands_left (digits k (n / 256)) (n % 256 ∷ []) s) in
    let b : get_or l (i + k) 0 ≡ n % 256 =
    ap (λ (m : ℕ). get_or l m 0) (sym (add-zero (i + k))) ∙ (stands_right (digits k (n / 256)) (n % 256 ∷ []) k (length_digits k (n / 256)) s).there 0 (omega arith) in
    omega arith

-- a number of k bytes
pub value_small : (l : List ℕ) → Bytes l → (k i : ℕ) → value_at k l i < 256 ^ k
value_small l b zero i = omega arith
value_small l b (suc k) i = omega (arith, value_small l b k i, b.small (i + k), pow-suc 256 k)

-- the digits of the number of bytes are those bytes
pub digits_value : (l : List ℕ) → Bytes l → (k i : ℕ) → Stands l i (digits k (value_at k l i))
digits_value l b zero i = record { there = λ j q. absurd (omega arith) }
digits_value l b (suc k) i =
    let n = value_at k l i * 256 + get_or l (i + k) 0 in
    let p : value_at k l i ≡ n / 256 = omega (arith, b.small (i + k)) in
    let q : get_or l (i + k) 0 ≡ n % 256 = omega (arith, b.small (i + k)) in
    stands_both (digits k (n / 256)) (n % 256 ∷ [])
    (subst (λ (m : ℕ). Stands l i (digits k m)) p (digits_value l b k i))
    (subst (λ (m : ℕ). Stands l (i + m) (n % 256 ∷ [])) (sym (length_digits k (n / 256))) (stands_one (n % 256) q))

-- bytes are zero exactly where that many zeros stand
pub zeros_stand : (k : ℕ) (l : List ℕ) (i : ℕ) → zeros_at k l i ≡ true → Stands l i (replicate k 0)
zeros_stand k l i e = record {
  there = λ j q.
      let p : j < k = omega (arith, length-replicate {A = ℕ} k 0) in
      eqb-true (get_or l (i + j) 0) 0 (all_at (λ j. eqb (get_or l (i + j) 0) 0) k e j p) ∙ sym (get_or-replicate k j 0 0 p);
}

pub stand_zeros : (k : ℕ) (l : List ℕ) (i : ℕ) → Stands l i (replicate k 0) → zeros_at k l i ≡ true
stand_zeros k l i s =
    all_by (λ j. eqb (get_or l (i + j) 0) 0) k
    (λ j p. eq-eqb (get_or l (i + j) 0) 0 (s.there j (omega (arith, length-replicate {A = ℕ} k 0)) ∙ get_or-replicate k j 0 0 p))

-- what stands from the start on, as long as the bytes are, is the bytes
pub stands_whole : {l t : List ℕ} → length l ≡ length t → Stands l 0 t → t ≡ l
stands_whole {l} {t} e s =
    ext_get_or 0 t l (sym e) (λ j q. sym (ap (λ (n : ℕ). get_or l n 0) (let z : j ≡ 0 + j = omega arith in z) ∙ s.there j q))

-- A FIELD of k bytes, whatever its width and its offset: it is read again, what stands behind it, and it stands with what is behind
module _ {l : List ℕ} {i : ℕ} where
  pub field : (k n : ℕ) (t : List ℕ) → n < 256 ^ k → Stands l i (digits k n ++ t) → value_at k l i ≡ n
  field k n t h s = value_digits k n h (stands_left (digits k n) t s)

  pub behind : (k n j : ℕ) (t : List ℕ) → i + k ≡ j → Stands l i (digits k n ++ t) → Stands l j t
  behind k n j t e s = stands_skip (digits k n) t k j (length_digits k n) e s

  pub with_behind : (k n j : ℕ) (t : List ℕ) → i + k ≡ j → Stands l i (digits k n) → Stands l j t → Stands l i (digits k n ++ t)
  with_behind k n j t e a b = stands_then (digits k n) t k j (length_digits k n) e a b

-- the bytes of the number that they make, by any name of the number
pub digits_as : (l : List ℕ) → Bytes l → (k i n : ℕ) → n ≡ value_at k l i → Stands l i (digits k n)
digits_as l b k i n e = subst (λ (m : ℕ). Stands l i (digits k m)) (sym e) (digits_value l b k i)
