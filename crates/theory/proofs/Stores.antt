-- What a store into one place of a list changes and leaves, seen entry by entry and through a function of the entries.
-- Assumes nothing.
use mathlib.Core.Path.{◌≡◌, sym, ap, subst, ◌∙◌}
use mathlib.Core.Logic.{◌≢◌, by_cases}
use mathlib.Core.List.{List, map}
use Prim.Native.Nat.{ℕ, ◌<◌}
use native.Mathlib.Decide.{ℕ_discrete}
use lib.ListN.{length, get_or, set, length-map, get_or-map}
use lib.Seq.{get_or-set_same, get_or-set_other, map-set_same}

-- a property that the new entry has at its place and the old entries have at theirs holds at every place
pub set_all : {A : Type 0} (d : A) (l : List A) (p : ℕ) (r : A) → p < length l → (P : ℕ → A → Type 0) → P p r → ((x : ℕ) → x ≢ p → P x (get_or l x d))
    → (x : ℕ) → P x (get_or (set l p r) x d)
set_all {A} d l p r lt P here there x =
    by_cases (ℕ_discrete x p)
    (λ e. subst (λ (y : ℕ). P y (get_or (set l p r) y d)) (sym e) (subst (λ (c : A). P p c) (sym (get_or-set_same l p r d lt)) here))
    (λ n. subst (λ (c : A). P x c) (sym (get_or-set_other l p x r d n)) (there x n))

module _ {A B : Type 0} (f : A → B) (d : A) (l : List A) (x : ℕ) (t : A) where
  -- f sees no difference at any place where it sees none between the new entry and the old
  pub sees : f t ≡ f (get_or l x d) → (y : ℕ) → f (get_or l y d) ≡ f (get_or (set l x t) y d)
  sees e y =
      sym (get_or-map f l y d) ∙ ap (λ (m : List B). get_or m y (f d)) (sym (map-set_same f l x t d e))
      ∙ get_or-map f (set l x t) y d

  -- f sees no difference at the other places
  pub sees_other : (y : ℕ) → (y ≡ x → ⊥) → f (get_or l y d) ≡ f (get_or (set l x t) y d)
  sees_other y n = ap f (sym (get_or-set_other l x y t d n))

  -- at the place itself f sees the new entry
  pub sees_here : x < length l → f (get_or (set l x t) x d) ≡ f t
  sees_here h = ap f (get_or-set_same l x t d h)

-- a list is as long as its image: with this, `search (needs, unmapped)` finds how long an array of structs in a struct is
pub unmapped : {A B : Type 0} (f : A → B) (l : List A) (n : ℕ) → length (map f l) ≡ n → length l ≡ n
unmapped f l n e = sym (length-map l f) ∙ e
