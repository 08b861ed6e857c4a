-- An array of which some elements are drawn, and the rest is one unused element: how long it is, what is at a number, and what a test
-- of all elements says that passes the unused one.
-- Assumes nothing.
use mathlib.Core.Path.{◌≡◌, refl, ap, ◌∙◌}
use mathlib.Core.Bool.{Bool, true, cond, ◌&&◌}
use mathlib.Core.Option.{Option, none, some}
use mathlib.Core.List.{List, [], ◌∷◌, ◌++◌}
use Prim.Native.Nat.{ℕ, zero, suc, ◌+◌, ◌-◌, ◌≤◌, ◌<◌}
use native.Mathlib.Omega.{arith}
use lib.Dec.{ltb}
use lib.ListN.{length, get_or, replicate, length-append, length-replicate}
use Rattle.theory.proofs.Tests.{ref_lt, cond-ref}
use Rattle.heap.specs.Capacity.{cap}
use Rattle.promises.specs.Clauses.{each, element}
use Rattle.promises.specs.States.{spare, in_room}
use Rattle.promises.proofs.ByClause.ClauseLists.{element_in, element_out}

-- an array whose elements are drawn from the number k on
abbrev pub drawn : {A : Type 0} → A → ℕ → List A → List A
drawn d k xs = spare d k ++ in_room d k xs

-- there is room for `cap` elements
pub room_length : {A : Type 0} (d : A) (k : ℕ) (xs : List A) → k + length xs ≤ cap → length (in_room d k xs) + k ≡ cap
unfolding spare
room_length d k xs l =
    let n = cap - (k + length xs) in
    let b : length (replicate n d) ≡ n = length-replicate n d in
    let f = length-append xs (replicate n d) in
    let z : n + (k + length xs) ≡ cap = omega arith in
    omega (arith, b, f, z)

pub drawn_length : {A : Type 0} (d : A) (k : ℕ) (xs : List A) → k + length xs ≤ cap → length (drawn d k xs) ≡ cap
unfolding spare
drawn_length d k xs l =
    let a : length (replicate k d) ≡ k = length-replicate k d in
    let b = room_length d k xs l in
    length-append (replicate k d) (in_room d k xs) ∙ omega (arith, a, b)

-- what stands at a number: what is drawn there, or else the unused element
abbrev pub drawn_at : {A : Type 0} → A → ℕ → List A → ℕ → Option A
drawn_at d k xs p = cond (ltb p cap) (some (cond (ltb p k) d (get_or xs (p - k) d))) none

module _ {A : Type 0} (d : A) where
  -- before what is drawn, and after it
  front : (k : ℕ) (l : List A) (p : ℕ) → p < k → get_or (replicate k d ++ l) p d ≡ d
  front zero l p h = absurd (omega arith)
  front (suc k) l zero h = refl
  front (suc k) l (suc p) h = front k l p (omega arith)

  behind : (k : ℕ) (l : List A) (p : ℕ) → k ≤ p → get_or (replicate k d ++ l) p d ≡ get_or l (p - k) d
  behind zero l p h = let e : p ≡ p - 0 = omega arith in ap (λ (i : ℕ). get_or l i d) e
  behind (suc k) l zero h = absurd (omega arith)
  behind (suc k) l (suc p) h = let e : p - k ≡ suc p - suc k = omega arith in behind k l p (omega arith) ∙ ap (λ (i : ℕ). get_or l i d) e

  -- among elements that are all d, and after what is drawn
  alone : (n p : ℕ) → get_or (replicate n d) p d ≡ d
  alone zero p = refl
  alone (suc n) zero = refl
  alone (suc n) (suc p) = alone n p

  past : (xs : List A) (n p : ℕ) → get_or (xs ++ replicate n d) p d ≡ get_or xs p d
  past [] n p = alone n p
  past (x ∷ xs) n zero = refl
  past (x ∷ xs) n (suc p) = past xs n p

  -- so at every number
  pub room_at : (k : ℕ) (xs : List A) (p : ℕ) → get_or (drawn d k xs) p d ≡ cond (ltb p k) d (get_or xs (p - k) d)
  unfolding spare
  room_at k xs p =
      let n = cap - (k + length xs) in
      cond-ref (λ (x : A). get_or (replicate k d ++ (xs ++ replicate n d)) p d ≡ x) (ref_lt p k) (λ l. front k (xs ++ replicate n d) p l)
      (λ l. behind k (xs ++ replicate n d) p (omega arith) ∙ past xs n (p - k))

  pub room_element : (k : ℕ) (xs : List A) → k + length xs ≤ cap → (p : ℕ) → element (drawn d k xs) p ≡ drawn_at d k xs p
  room_element k xs h p =
      let e = drawn_length d k xs h in
      cond-ref (λ (o : Option A). element (drawn d k xs) p ≡ o) (ref_lt p cap)
      (λ l. element_in d (drawn d k xs) p (omega (arith, e)) ∙ ap some (room_at k xs p))
      (λ l. element_out (drawn d k xs) p (omega (arith, e)))

  -- a test of all elements is one of those that are drawn
  module _ (f : ℕ → A → Bool) (t : (i : ℕ) → f i d ≡ true) where
    -- before what is drawn, after it, and all together
    each_front : (k j : ℕ) (l : List A) → each j f (replicate k d ++ l) ≡ each (j + k) f l
    each_front zero j l = let e : j ≡ j + 0 = omega arith in ap (λ (i : ℕ). each i f l) e
    each_front (suc k) j l =
        let e : suc j + k ≡ j + suc k = omega arith in
        rw (t j) (each_front k (suc j) l ∙ ap (λ (i : ℕ). each i f l) e)

    each_past : (xs : List A) (n j : ℕ) → each j f (xs ++ replicate n d) ≡ each j f xs
    each_past [] zero j = refl
    each_past [] (suc n) j = rw (t j) (each_past [] n (suc j))
    each_past (x ∷ xs) n j = ap (λ (b : Bool). f j x && b) (each_past xs n (suc j))

    pub room_each : (k : ℕ) (xs : List A) → each 0 f (drawn d k xs) ≡ each k f xs
    unfolding spare
    room_each k xs =
        let n = cap - (k + length xs) in
        let e : 0 + k ≡ k = omega arith in
        each_front k 0 (xs ++ replicate n d) ∙ ap (λ (i : ℕ). each i f (xs ++ replicate n d)) e ∙ each_past xs n k
