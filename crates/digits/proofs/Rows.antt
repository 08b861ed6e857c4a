-- Lists by their places.
-- Assumes nothing.
use mathlib.Core.Path.{◌≡◌, refl, sym, ap, subst, ◌∙◌}
use mathlib.Core.Bool.{Bool, cond}
use borrow.Author.Tests.{lt-ltb}
use mathlib.Core.List.{List, [], ◌∷◌, ◌++◌, append_assoc, append-nil}
use mathlib.Core.Logic.{by_cases}
use native.Mathlib.Decide.{dec_lt}
use Prim.Native.Nat.{ℕ, zero, suc, ◌+◌, ◌*◌, ◌<◌, ◌≤◌}
use native.Mathlib.Omega.{arith}
use lib.ListN.{length, get_or, length-append, get_or-append}
use lib.Seq.{get_or_at, ext_get_or}
use Rattle.digits.specs.Digits.{Stands}
use Rattle.digits.specs.Rows.{rows, blocks, used}
use Rattle.theory.proofs.Tests.{false_ref, ref_lt}
use Rattle.digits.proofs.Digits.{stands_left, stands_right, stands_both}

module _ {A : Type 0} where
  pub length_rows : (f : ℕ → A) (n : ℕ) → length (rows f n) ≡ n
  unfolding rows
  length_rows f zero = refl
  length_rows f (suc n) = length-append (rows f n) (f n ∷ []) ∙ omega (arith, length_rows f n)

  -- in range the default does not matter
  pub get_d_any : (l : List A) (i : ℕ) (d e : A) → i < length l → get_or l i d ≡ get_or l i e
  get_d_any [] i d e h = absurd (omega arith)
  get_d_any (x ∷ l) zero d e h = refl
  get_d_any (x ∷ l) (suc i) d e h = get_d_any l i d e (omega arith)

  -- what is in use, and what is not
  pub used_in : (d : A) (n : ℕ) (xs : List A) (j : ℕ) → j < n → used d n xs j ≡ get_or xs j d
  used_in d n xs j q = ap (λ (b : Bool). cond b (get_or xs j d) d) (lt-ltb j n q)

  pub used_not : (d : A) (n : ℕ) (xs : List A) (j : ℕ) → n ≤ j → used d n xs j ≡ d
  used_not d n xs j q = ap (λ (b : Bool). cond b (get_or xs j d) d) (false_ref (ref_lt j n) (λ p. omega arith))

  pub rows_ext : (f g : ℕ → A) (n : ℕ) → ((j : ℕ) → j < n → f j ≡ g j) → rows f n ≡ rows g n
  unfolding rows
  rows_ext f g zero h = refl
  rows_ext f g (suc n) h =
      let a : rows f n ≡ rows g n = rows_ext f g n (λ j q. h j (omega arith)) in
      let b : f n ≡ g n = h n (omega arith) in
      cc

  pub rows_at : (f : ℕ → A) (n j : ℕ) (d : A) → j < n → get_or (rows f n) j d ≡ f j
  unfolding rows
  rows_at f zero j d q = absurd (omega arith)
  rows_at f (suc n) j d q =
      by_cases (dec_lt j n) (λ p. get_or-append (rows f n) (f n ∷ []) d j (omega (arith, length_rows f n)) ∙ rows_at f n j d p)
      (λ p.
      let e : j ≡ n = omega arith in
      get_or_at (rows f n) (f n) [] d j (length_rows f n ∙ sym e) ∙ ap f (sym e))

  -- a list is the rows of its places
  pub rows_self : (d : A) (xs : List A) → rows (λ j. get_or xs j d) (length xs) ≡ xs
  rows_self d xs =
      ext_get_or d (rows (λ j. get_or xs j d) (length xs)) xs (length_rows (λ j. get_or xs j d) (length xs))
      (λ i q. rows_at (λ j. get_or xs j d) (length xs) i d (omega (arith, length_rows (λ j. get_or xs j d) (length xs))))

  pub blocks_append : (f : A → List ℕ) (xs ys : List A) → blocks f (xs ++ ys) ≡ blocks f xs ++ blocks f ys
  unfolding blocks
  blocks_append f [] ys = refl
  blocks_append f (x ∷ xs) ys = ap (λ (l : List ℕ). f x ++ l) (blocks_append f xs ys) ∙ sym (append_assoc (f x) (blocks f xs) (blocks f ys))

  -- one row more
  pub rows_more : (f : ℕ → A) (n : ℕ) → rows f (suc n) ≡ rows f n ++ (f n ∷ [])
  unfolding rows
  rows_more f n = refl

  pub rows_none : (f : ℕ → A) → rows f 0 ≡ []
  unfolding rows
  rows_none f = refl

  pub blocks_none : (f : A → List ℕ) (g : ℕ → A) → blocks f (rows g 0) ≡ []
  unfolding rows blocks
  blocks_none f g = refl

  -- one record more
  pub blocks_more : (f : A → List ℕ) (g : ℕ → A) (n : ℕ) → blocks f (rows g n) ++ f (g n) ≡ blocks f (rows g (suc n))
  unfolding rows blocks
  blocks_more f g n =
      ap (λ (l : List ℕ). blocks f (rows g n) ++ l) (sym (append-nil (f (g n)))) ∙ sym (blocks_append f (rows g n) (g n ∷ []))

  pub blocks_long : (f : A → List ℕ) (w : ℕ) → ((x : A) → length (f x) ≡ w) → (xs : List A) → length (blocks f xs) ≡ length xs * w
  unfolding blocks
  blocks_long f w h [] = omega arith
  blocks_long f w h (x ∷ xs) = length-append (f x) (blocks f xs) ∙ omega (arith, h x, blocks_long f w h xs)

  -- each record stands at its own offset
  pub block_stands : (f : A → List ℕ) (w : ℕ) → ((x : A) → length (f x) ≡ w) → (g : ℕ → A) (n : ℕ) {l : List ℕ} {at : ℕ}
      → Stands l at (blocks f (rows g n)) → (j : ℕ) → j < n → Stands l (at + j * w) (f (g j))
  unfolding rows blocks
  block_stands f w h g zero s j q = absurd (omega arith)
  block_stands f w h g (suc n) {l} {at} s j q =
      let t : Stands l at (blocks f (rows g n) ++ f (g n)) = subst (λ (u : List ℕ). Stands l at u) (sym (blocks_more f g n)) s in
      by_cases (dec_lt j n) (λ p. block_stands f w h g n (stands_left (blocks f (rows g n)) (f (g n)) t) j p)
      (λ p.
      let e : n ≡ j = omega arith in
      subst (λ (m : ℕ). Stands l (at + m * w) (f (g m))) e
      (stands_right (blocks f (rows g n)) (f (g n)) (n * w) (blocks_long f w h (rows g n) ∙ ap (λ (m : ℕ). m * w) (length_rows g n)) t))

  -- records that stand each at its own offset stand one behind the other
  pub blocks_stand : (f : A → List ℕ) (w : ℕ) → ((x : A) → length (f x) ≡ w) → (g : ℕ → A) (n : ℕ) {l : List ℕ} {at : ℕ}
      → ((j : ℕ) → j < n → Stands l (at + j * w) (f (g j))) → Stands l at (blocks f (rows g n))
  blocks_stand f w h g zero {l} {at} s =
      subst (λ (t : List ℕ). Stands l at t) (sym (blocks_none f g)) (record { there = λ j q. absurd (omega arith) })
  blocks_stand f w h g (suc n) {l} {at} s =
      let e : length (blocks f (rows g n)) ≡ n * w = blocks_long f w h (rows g n) ∙ ap (λ (m : ℕ). m * w) (length_rows g n) in
      subst (λ (t : List ℕ). Stands l at t) (blocks_more f g n)
      (stands_both (blocks f (rows g n)) (f (g n)) (blocks_stand f w h g n (λ j q. s j (omega arith)))
      (subst (λ (m : ℕ). Stands l (at + m) (f (g n))) (sym e) (s n (omega arith))))
