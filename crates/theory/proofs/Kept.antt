-- A push and a removal keep the heap order: each leaves one place that may be out of order, and the walk from there ends in a heap.
-- Assumes nothing.
use mathlib.Core.Path.{◌≡◌, ap, ◌∙◌}
use mathlib.Core.List.{List, [], ◌∷◌, ◌++◌}
use Prim.Native.Nat.{ℕ, suc, ◌-◌, ◌≤◌, ◌<◌}
use native.Mathlib.Omega.{arith}
use lib.ListN.{length, length-append, get_or-append}
use lib.Seq.{get_or-take, length-take-le}
use Rattle.theory.specs.Order.{parent, Heap, UpOrd, DownOrd}
use Rattle.theory.specs.Heap.{Moved, at, Ordered, Good, push, fill, removeAt}
use Rattle.theory.specs.Walks.{Up, Down}
use Rattle.theory.proofs.Tests.{ref_lt, ref_eq, cond-ref}
use Rattle.theory.proofs.Order.{up_step, up_stop, down_step, down_stop, raise, lower, appended}
use Rattle.theory.proofs.Exchange.{length_swap, swapped, fill_length, fill_at, fill_other}
use Rattle.theory.proofs.Walks.{up_run, down_run, up_length, down_length}

module _ {A : Type 0} (key : A → ℕ) (d : A) where
  -- n entries in heap order are a list in heap order
  good_ordered : {n : ℕ} {ys : List A} → Good key d n ys → Ordered key d ys
  good_ordered g k p h = g.heap k p (omega arith)

  -- a walk up from the one place that may be too small makes the first n entries a heap; the list may go on behind them
  up_heap : {xs ys : List A} {i j s : ℕ} → Up key d xs i ys j s → (n : ℕ) → n ≤ length xs → i < n → UpOrd (at key d xs) n i → Heap (at key d ys) n
  up_heap (Up.stop t) n e h u = up_stop u t
  up_heap (Up.move {xs = xs} {i = i} p l r) n e h u =
      up_heap r n (omega (arith, length_swap d xs i (parent i))) (omega arith)
      (up_step u p h l (swapped d xs i (parent i) (omega arith) (omega arith) (omega arith) key))

  -- a walk down from the one place that may be too large makes the first n entries a heap; the list may go on behind them
  down_heap : {n : ℕ} {xs ys : List A} {i j s : ℕ} → Down key d n xs i ys j s → n ≤ length xs → i < n → DownOrd (at key d xs) n i → Heap (at key d ys) n
  down_heap (Down.stop t) e h u = down_stop u t
  down_heap (Down.move {xs = xs} {i = i} c z p b q l m r) e h u =
      down_heap r (omega (arith, length_swap d xs i c)) b
      (down_step u p b q l m (swapped d xs i c (omega arith) (omega arith) (omega arith) key))

  -- a walk up from the one place of a list that may be too small leaves as many entries, in heap order
  up_good : {xs ys : List A} {i j s : ℕ} → Up key d xs i ys j s → (n : ℕ) → length xs ≡ n → i < n → UpOrd (at key d xs) n i → Good key d n ys
  up_good r n e h u = record { size = up_length key d r ∙ e; heap = up_heap r n (omega arith) h u }

  -- a walk down from the one place of a list that may be too large leaves as many entries, in heap order
  down_good : {n : ℕ} {xs ys : List A} {i j s : ℕ} → Down key d n xs i ys j s → length xs ≡ n → i < n → DownOrd (at key d xs) n i → Good key d n ys
  down_good r e h u = record { size = down_length key d r ∙ e; heap = down_heap r (omega arith) h u }

  -- a push on a heap leaves a heap with one entry more
  push_good : (xs : List A) (x : A) → Ordered key d xs → Good key d (suc (length xs)) (push key d xs x).list
  unfolding push
  push_good xs x o =
      up_good (up_run key d (length xs) (xs ++ (x ∷ [])) (length xs) (omega arith)) (suc (length xs)) (simp length-append (omega arith)) (omega arith)
      (appended o (λ k h. ap key (get_or-append xs (x ∷ []) d k h)))

  -- a push keeps the heap order
  pub push_ordered : (xs : List A) (x : A) → Ordered key d xs → Ordered key d (push key d xs x).list
  push_ordered xs x o = good_ordered (push_good xs x o)

  -- a removal from a heap leaves a heap with one entry fewer
  pub remove_good : (xs : List A) (i : ℕ) → i < length xs → Ordered key d xs → Good key d (length xs - 1) (removeAt key d xs i).list
  unfolding removeAt
  remove_good xs i h o =
      cond-ref (λ (r : Moved A). Good key d (length xs - 1) r.list) (ref_eq i (length xs - 1))
      (λ e. record {
        size = length-take-le (length xs - 1) xs (omega arith);
        heap = λ k p b. omega (arith, ap key (get_or-take (length xs - 1) xs k d b), ap key (get_or-take (length xs - 1) xs (parent k) d (omega arith)), o k p (omega arith));
      })
      (λ m. cond-ref (λ (r : Moved A). Good key d (length xs - 1) r.list) (ref_lt (at key d xs (length xs - 1)) (at key d xs i))
      (λ l. up_good (up_run key d (length xs - 1) (fill d xs i) i (omega arith)) (length xs - 1) (fill_length d xs i h) (omega arith)
      (raise o (omega arith) (omega arith) (λ k b n. ap key (fill_other d xs i h k b n)) (omega (arith, ap key (fill_at d xs i h (omega arith))))))
      (λ l. down_good (down_run key d (length xs - 1) (fill d xs i) (length xs - 1) i (omega arith)) (fill_length d xs i h) (omega arith)
      (lower o (omega arith) (omega arith) (λ k b n. ap key (fill_other d xs i h k b n)) (omega (arith, ap key (fill_at d xs i h (omega arith)))))))

  -- a removal keeps the heap order
  pub remove_ordered : (xs : List A) (i : ℕ) → i < length xs → Ordered key d xs → Ordered key d (removeAt key d xs i).list
  remove_ordered xs i h o = good_ordered (remove_good xs i h o)
