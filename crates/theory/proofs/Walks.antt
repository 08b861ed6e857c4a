-- The functions `up_from` and `down_from` make the walks `Up` and `Down`; a walk up has one end, and both keep the length.
-- Assumes nothing.
use mathlib.Core.Path.{◌≡◌, refl, ap, ◌∙◌}
use mathlib.Core.List.{List}
use Prim.Native.Nat.{ℕ, zero, suc, ◌+◌, ◌≤◌}
use native.Mathlib.Omega.{arith}
use lib.ListN.{length}
use Rattle.theory.specs.Order.{parent}
use Rattle.theory.specs.Heap.{Moved, at, swap_at, up_from, child, down_from}
use Rattle.theory.specs.Walks.{Up, Down}
use Rattle.theory.proofs.Tests.{ref_lt, cond-and}
use Rattle.theory.proofs.Exchange.{length_swap}
use Rattle.theory.proofs.Child.{child_parent, child_least}

module _ {A : Type 0} (key : A → ℕ) (d : A) where
  -- `up_from` makes a walk up, where its bound is at least the place that it starts from
  pub up_run : (f : ℕ) (xs : List A) (i : ℕ) → i ≤ f
      → Up key d xs i (up_from key d f xs i).list (up_from key d f xs i).place (up_from key d f xs i).swaps
  unfolding up_from
  up_run zero xs i b = Up.stop {xs = xs} {i = i} (λ p. omega arith)
  up_run (suc f) xs i b =
      cond-and (λ (r : Moved A). Up key d xs i r.list r.place r.swaps) (ref_lt 0 i) (ref_lt (at key d xs i) (at key d xs (parent i)))
      (λ p l. Up.move p l (up_run f (swap_at d xs i (parent i)) (parent i) (omega arith)))
      (λ n. Up.stop (λ p. absurd (n p)))
      (λ p l. Up.stop {xs = xs} {i = i} (λ _. omega arith))

  -- `down_from` makes a walk down, where its bound is at least the number of places from its start to n
  pub down_run : (f : ℕ) (xs : List A) (n i : ℕ) → n ≤ f + i
      → Down key d n xs i (down_from key d f xs n i).list (down_from key d f xs n i).place (down_from key d f xs n i).swaps
  unfolding down_from
  down_run zero xs n i b = Down.stop {xs = xs} {i = i} (λ k p h e. omega arith)
  down_run (suc f) xs n i b =
      let c = child key d xs n i in
      let e = child_parent key d xs n i in
      cond-and (λ (r : Moved A). Down key d n xs i r.list r.place r.swaps) (ref_lt c n) (ref_lt (at key d xs c) (at key d xs i))
      (λ h l. Down.move c refl e.0 h e.1 l (λ k p h e. (child_least key d xs n i k p h e).1) (down_run f (swap_at d xs i c) n c (omega arith)))
      (λ h. Down.stop {xs = xs} {i = i} (λ k p b e. absurd (h (child_least key d xs n i k p b e).0)))
      (λ h l. Down.stop {xs = xs} {i = i} (λ k p b e. omega (arith, child_least key d xs n i k p b e)))

  -- two walks up from the same place of the same list end alike
  up_unique : {xs ys zs : List A} {i j k s t : ℕ} → Up key d xs i ys j s → Up key d xs i zs k t → (ys ≡ zs) × (j ≡ k) × (s ≡ t)
  up_unique (Up.stop a) (Up.stop b) = (refl, refl, refl)
  up_unique (Up.stop a) (Up.move p l r) = absurd (omega (arith, a p))
  up_unique (Up.move p l r) (Up.stop b) = absurd (omega (arith, b p))
  up_unique (Up.move p l r) (Up.move q m o) = let u = up_unique r o in (u.0, u.1, ap suc u.2)

  -- a walk up keeps the length
  pub up_length : {xs ys : List A} {i j s : ℕ} → Up key d xs i ys j s → length ys ≡ length xs
  up_length (Up.stop t) = refl
  up_length (Up.move {xs = xs} {i = i} p l r) = up_length r ∙ length_swap d xs i (parent i)

  -- a walk down keeps the length
  pub down_length : {n : ℕ} {xs ys : List A} {i j s : ℕ} → Down key d n xs i ys j s → length ys ≡ length xs
  down_length (Down.stop t) = refl
  down_length (Down.move {xs = xs} {i = i} c z p b q l m r) = down_length r ∙ length_swap d xs i c

  -- two bounds that are both enough give the same walk up
  pub up_fuel : (f g : ℕ) (xs : List A) (i : ℕ) → i ≤ f → i ≤ g → up_from key d f xs i ≡ up_from key d g xs i
  up_fuel f g xs i a b =
      let u = up_unique (up_run f xs i a) (up_run g xs i b) in
      λ t. record { list = u.0 t; place = u.1 t; swaps = u.2 t }
