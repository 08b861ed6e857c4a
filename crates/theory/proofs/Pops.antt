-- Popping while the head's key is at most m, with a limit: what comes out rises and is at most m, nothing is lost, the order is kept,
-- and where the limit is not less than the count, all of those and no others come out.
-- Assumes nothing.
use mathlib.Core.Path.{◌≡◌, refl}
use mathlib.Core.List.{List, [], ◌∷◌}
use Prim.Native.Nat.{ℕ, zero, suc, ◌+◌, ◌≤◌, ◌<◌, zero-le}
use native.Mathlib.Nat.{zero-lt-suc}
use native.Mathlib.Decide.{dec_le}
use native.Mathlib.Omega.{arith}
use lib.ListN.{length}
use Rattle.theory.specs.Heap.{Ordered, removeAt, Popped, pop_while}
use Rattle.theory.specs.Weights.{total, All, Rising, up_to}
use Rattle.theory.proofs.Tests.{ref_le, cond-ref}
use Rattle.theory.proofs.Order.{head_least}
use Rattle.theory.proofs.Weights.{all_places, zero_all, total_all, sub_all}
use Rattle.theory.proofs.Kept.{remove_good, remove_ordered}
use Rattle.theory.proofs.Entries.{remove_total}

module _ {A : Type 0} (key : A → ℕ) (d : A) where
  -- a removal leaves no entry without what every entry had
  remove_all : (P : A → Type 0) → ((x : A) → Dec (P x)) → (xs : List A) (i : ℕ) → i < length xs → All P xs → All P (removeAt key d xs i).list
  remove_all P dec xs i h a = sub_all P dec xs (removeAt key d xs i).list (λ w. omega (arith, remove_total key d w xs i h)) a

  -- no entry of a heap has a key less than the first one's
  all_head : (x : A) (xs : List A) → Ordered key d (x ∷ xs) → All (λ y. key x ≤ key y) (x ∷ xs)
  all_head x xs o = all_places (λ y. key x ≤ key y) d (x ∷ xs) (head_least o)

  -- from a heap whose keys are all b or more, what comes out rises from b on
  pop_rising : (f : ℕ) (xs : List A) (m b : ℕ) → Ordered key d xs → All (λ x. b ≤ key x) xs → Rising key b (pop_while key d f xs m).out
  unfolding pop_while
  pop_rising zero xs m b o a = tt
  pop_rising (suc f) [] m b o a = tt
  pop_rising (suc f) (x ∷ xs) m b o a =
      cond-ref (λ (r : Popped A). Rising key b r.out) (ref_le (key x) m)
      (λ q. (
        a.0,
        pop_rising f (removeAt key d (x ∷ xs) 0).list m (key x) (remove_ordered key d (x ∷ xs) 0 (zero-lt-suc (length xs)) o)
            (remove_all (λ y. key x ≤ key y) (λ y. dec_le (key x) (key y)) (x ∷ xs) 0 (zero-lt-suc (length xs)) (all_head x xs o)),
      ))
      (λ q. tt)

  -- from any heap, what comes out rises
  pub pop_sorted : (f : ℕ) (xs : List A) (m : ℕ) → Ordered key d xs → Rising key 0 (pop_while key d f xs m).out
  pop_sorted f xs m o = pop_rising f xs m 0 o (all_places (λ x. 0 ≤ key x) d xs (λ i h. zero-le))

  -- what comes out and what is left weigh what there was
  pub pop_total : (w : A → ℕ) (f : ℕ) (xs : List A) (m : ℕ) → total w (pop_while key d f xs m).out + total w (pop_while key d f xs m).left ≡ total w xs
  unfolding pop_while
  pop_total w zero xs m = omega arith
  pop_total w (suc f) [] m = refl
  pop_total w (suc f) (x ∷ xs) m =
      cond-ref (λ (r : Popped A). total w r.out + total w r.left ≡ w x + total w xs) (ref_le (key x) m)
      (λ q. omega (arith, pop_total w f (removeAt key d (x ∷ xs) 0).list m, remove_total key d w (x ∷ xs) 0 (zero-lt-suc (length xs))))
      (λ q. omega arith)

  -- every key that comes out is at most m
  pub pop_out : (f : ℕ) (xs : List A) (m : ℕ) → All (λ x. key x ≤ m) (pop_while key d f xs m).out
  unfolding pop_while
  pop_out zero xs m = tt
  pop_out (suc f) [] m = tt
  pop_out (suc f) (x ∷ xs) m =
      cond-ref (λ (r : Popped A). All (λ y. key y ≤ m) r.out) (ref_le (key x) m) (λ q. (q, pop_out f (removeAt key d (x ∷ xs) 0).list m)) (λ q. tt)

  -- no more come out than the limit says
  pub pop_limit : (f : ℕ) (xs : List A) (m : ℕ) → length (pop_while key d f xs m).out ≤ f
  unfolding pop_while
  pop_limit zero xs m = omega arith
  pop_limit (suc f) [] m = omega arith
  pop_limit (suc f) (x ∷ xs) m =
      cond-ref (λ (r : Popped A). length r.out ≤ suc f) (ref_le (key x) m) (λ q. omega (arith, pop_limit f (removeAt key d (x ∷ xs) 0).list m)) (λ q. omega arith)

  -- where the limit is not less than the count, every key that is left is more than m
  pub pop_left : (f : ℕ) (xs : List A) (m : ℕ) → length xs ≤ f → Ordered key d xs → All (λ x. m < key x) (pop_while key d f xs m).left
  unfolding pop_while
  pop_left zero [] m b o = tt
  pop_left zero (x ∷ xs) m b o = absurd (omega arith)
  pop_left (suc f) [] m b o = tt
  pop_left (suc f) (x ∷ xs) m b o =
      let g = remove_good key d (x ∷ xs) 0 (zero-lt-suc (length xs)) o in
      cond-ref (λ (r : Popped A). All (λ y. m < key y) r.left) (ref_le (key x) m)
      (λ q. pop_left f (removeAt key d (x ∷ xs) 0).list m (omega (arith, g.size)) (remove_ordered key d (x ∷ xs) 0 (zero-lt-suc (length xs)) o))
      (λ q. all_places (λ y. m < key y) d (x ∷ xs) (λ i h. omega (arith, head_least o i h)))

  -- where the limit is not less than the count, what comes out is what there was with a key at most m: by every weight it weighs the same
  pub pop_exact : (w : A → ℕ) (f : ℕ) (xs : List A) (m : ℕ) → length xs ≤ f → Ordered key d xs → total w (pop_while key d f xs m).out ≡ total (up_to key m w) xs
  pop_exact w f xs m b o =
      omega (
        arith,
        pop_total (up_to key m w) f xs m,
        total_all (λ x. key x ≤ m) (up_to key m w) w (λ x h. cond-ref (λ (r : ℕ). r ≡ w x) (ref_le (key x) m) (λ q. refl) (λ q. absurd (q h))) (pop_while key d f xs m).out (pop_out f xs m),
        zero_all (λ x. m < key x) (up_to key m w) (λ x h. cond-ref (λ (r : ℕ). r ≡ 0) (ref_le (key x) m) (λ q. omega arith) (λ q. refl)) (pop_while key d f xs m).left (pop_left f xs m b o),
      )
