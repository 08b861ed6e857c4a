-- A list of elements made of their numbers: how long it is, what is at a number, and what a test of all of them says.
-- Assumes nothing.
use mathlib.Core.Path.{◌≡◌, refl, sym, ap, ap₂, ◌∙◌}
use mathlib.Core.Bool.{Bool, true, ◌&&◌}
use mathlib.Core.Option.{none, some}
use mathlib.Core.List.{List, [], ◌∷◌, ◌++◌}
use Prim.Native.Nat.{ℕ, zero, suc, ◌+◌, ◌-◌, ◌≤◌, ◌<◌}
use native.Mathlib.Omega.{arith}
use lib.ListN.{length, take, replicate}
use lib.Seq.{take_all}
use Rattle.heap.specs.Capacity.{cap}
use Rattle.promises.specs.Clauses.{each, element}
use Rattle.promises.specs.States.{spare, in_room, numbered}

module _ {A : Type 0} (f : ℕ → A) where
  -- there are n
  pub numbered_length : (n k : ℕ) → length (numbered f n k) ≡ n
  unfolding numbered
  numbered_length zero k = refl
  numbered_length (suc n) k = ap suc (numbered_length n (suc k))

  -- the element with the number p is made of its own number
  pub numbered_at : (n k p : ℕ) → p < n → element (numbered f n k) p ≡ some (f (k + p))
  unfolding numbered
  numbered_at zero k p l = absurd (omega arith)
  numbered_at (suc n) k zero l = let e : k ≡ k + 0 = omega arith in ap (λ (i : ℕ). some (f i)) e
  numbered_at (suc n) k (suc p) l =
      let e : suc k + p ≡ k + suc p = omega arith in
      numbered_at n (suc k) p (omega arith) ∙ ap (λ (i : ℕ). some (f i)) e

  pub numbered_first : (n p : ℕ) → p < n → element (numbered f n 0) p ≡ some (f p)
  numbered_first n p l = let e : 0 + p ≡ p = omega arith in numbered_at n 0 p l ∙ ap (λ (i : ℕ). some (f i)) e

  -- and past the n there is none
  pub numbered_past : (n k p : ℕ) → n ≤ p → element (numbered f n k) p ≡ none
  unfolding numbered
  numbered_past zero k p l = refl
  numbered_past (suc n) k zero l = absurd (omega arith)
  numbered_past (suc n) k (suc p) l = numbered_past n (suc k) p (omega arith)

  -- the tests of the elements go by another number, which is j for the first
  pub numbered_each : (t : ℕ → A → Bool) (n k j : ℕ) → ((i : ℕ) → i < n → t (j + i) (f (k + i)) ≡ true) → each j t (numbered f n k) ≡ true
  unfolding numbered
  numbered_each t zero k j h = refl
  numbered_each t (suc n) k j h =
      let a : j + 0 ≡ j = omega arith in
      let b : k + 0 ≡ k = omega arith in
      ap₂ ◌&&◌ (sym (ap₂ t a (ap f b)) ∙ h 0 (omega arith))
      (numbered_each t n (suc k) (suc j)
      (λ i l.
      let c : suc j + i ≡ j + suc i = omega arith in
      let e : suc k + i ≡ k + suc i = omega arith in
      ap₂ t c (ap f e) ∙ h (suc i) (omega arith)))

  -- from 0 on, where both numbers are one
  pub numbered_all : (t : ℕ → A → Bool) (n : ℕ) → ((i : ℕ) → i < n → t i (f i) ≡ true) → each 0 t (numbered f n 0) ≡ true
  numbered_all t n h = numbered_each t n 0 0 (λ i l. let e : 0 + i ≡ i = omega arith in ap₂ t e (ap f e) ∙ h i l)

-- nothing stands after what is drawn of an array that is full, and its front is all of it
pub room_whole : {A : Type 0} (d : A) (xs : List A) → length xs ≡ cap → in_room d 0 xs ≡ xs
unfolding spare
room_whole d xs e =
    let z : cap - (0 + length xs) ≡ 0 = omega arith in
    ap (λ (m : ℕ). xs ++ replicate m d) z ∙ append_none xs
  where
    append_none : {A : Type 0} (xs : List A) → xs ++ [] ≡ xs
    append_none [] = refl
    append_none (x ∷ xs) = ap (◌∷◌ x) (append_none xs)

pub room_full : {A : Type 0} (d : A) (xs : List A) → length xs ≡ cap → (n : ℕ) → cap ≤ n → take n (in_room d 0 xs) ≡ xs
room_full d xs e n l = ap (take n) (room_whole d xs e) ∙ take_all n xs (omega (arith, e))
