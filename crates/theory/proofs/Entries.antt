-- A push adds its entry and a removal takes its entry away; every other entry stays, as often as it was there. No order is needed.
-- Assumes nothing.
use mathlib.Core.Path.{◌≡◌, refl, ap, ◌∙◌}
use mathlib.Core.List.{List, [], ◌∷◌, ◌++◌}
use Prim.Native.Nat.{ℕ, ◌+◌, ◌-◌, ◌≤◌, ◌<◌}
use native.Mathlib.Omega.{arith}
use lib.ListN.{length, get_or, length-append}
use Rattle.theory.specs.Order.{parent}
use Rattle.theory.specs.Heap.{Moved, at, push, fill, removeAt}
use Rattle.theory.specs.Walks.{Up, Down}
use Rattle.theory.specs.Weights.{total}
use Rattle.theory.proofs.Tests.{ref_lt, ref_eq, cond-ref}
use Rattle.theory.proofs.Weights.{total_append}
use Rattle.theory.proofs.Exchange.{length_swap, total_swap, fill_length, last_total, fill_total}
use Rattle.theory.proofs.Walks.{up_run, down_run}

module _ {A : Type 0} (key : A → ℕ) (d : A) (w : A → ℕ) where
  -- a walk up keeps the weight
  up_total : {xs ys : List A} {i j s : ℕ} → Up key d xs i ys j s → i < length xs → total w ys ≡ total w xs
  up_total (Up.stop t) h = refl
  up_total (Up.move {xs = xs} {i = i} p l r) h =
      up_total r (omega (arith, length_swap d xs i (parent i))) ∙ total_swap d xs i (parent i) h (omega arith) (omega arith) w

  -- a walk down keeps the weight
  down_total : {n : ℕ} {xs ys : List A} {i j s : ℕ} → Down key d n xs i ys j s → n ≤ length xs → i < n → total w ys ≡ total w xs
  down_total (Down.stop t) e h = refl
  down_total (Down.move {xs = xs} {i = i} c z p b q l m r) e h =
      down_total r (omega (arith, length_swap d xs i c)) b ∙ total_swap d xs i c (omega arith) (omega arith) (omega arith) w

  -- a push adds the weight of its entry
  pub push_total : (xs : List A) (x : A) → total w (push key d xs x).list ≡ total w xs + w x
  unfolding push
  push_total xs x =
      omega (
        arith,
        up_total (up_run key d (length xs) (xs ++ (x ∷ [])) (length xs) (omega arith)) (omega (arith, length-append xs (x ∷ []))),
        total_append w xs (x ∷ []),
      )

  module _ (xs : List A) (i : ℕ) (h : i < length xs) where
    -- a removal takes the weight of the entry at i away
    pub remove_total : total w (removeAt key d xs i).list + w (get_or xs i d) ≡ total w xs
    unfolding removeAt
    remove_total =
        cond-ref (λ (r : Moved A). total w r.list + w (get_or xs i d) ≡ total w xs) (ref_eq i (length xs - 1))
        (λ e. omega (arith, last_total d xs i h w, ap (λ (k : ℕ). w (get_or xs k d)) e))
        (λ m. cond-ref (λ (r : Moved A). total w r.list + w (get_or xs i d) ≡ total w xs) (ref_lt (at key d xs (length xs - 1)) (at key d xs i))
        (λ l. omega (arith, fill_total d xs i h w (omega arith), up_total (up_run key d (length xs - 1) (fill d xs i) i (omega arith)) (omega (arith, fill_length d xs i h))))
        (λ l. omega (
          arith,
          fill_total d xs i h w (omega arith),
          down_total (down_run key d (length xs - 1) (fill d xs i) (length xs - 1) i (omega arith)) (omega (arith, fill_length d xs i h)) (omega arith),
        )))
