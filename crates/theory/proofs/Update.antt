-- What a function that was changed at one argument gives, there and elsewhere.
-- Assumes nothing.
use mathlib.Core.Path.{◌≡◌, refl, sym, subst}
use mathlib.Core.Logic.{◌≢◌, if_pos, if_neg, by_cases}
use Rattle.theory.specs.Update.{upd}

module _ {A B : Type 0} (d : Discrete A) (f : A → B) (a : A) (b : B) where
  -- at the argument, the new value
  pub upd_same : upd d f a b a ≡ b
  unfolding upd
  upd_same = if_pos (d a a) refl b (f a)

  -- at any other argument, the old value
  pub upd_other : (x : A) → x ≢ a → upd d f a b x ≡ f x
  unfolding upd
  upd_other x n = if_neg (d x a) n b (f x)

  -- a property that the new value has there and the old values have elsewhere holds at every argument
  pub upd_all : (P : A → B → Type 0) → P a b → ((x : A) → x ≢ a → P x (f x)) → (x : A) → P x (upd d f a b x)
  upd_all P here there x =
      by_cases (d x a)
      (λ e. subst (λ (y : A). P y (upd d f a b y)) (sym e) (subst (λ (c : B). P a c) (sym upd_same) here))
      (λ n. subst (λ (c : B). P x c) (sym (upd_other x n)) (there x n))
