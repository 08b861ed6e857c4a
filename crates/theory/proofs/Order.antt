-- One exchange on the way up or down moves the one place that may be out of order by a level, and where the walk stops there is none.
-- Assumes nothing.
use mathlib.Core.Path.{◌≡◌, ap, ◌∙◌}
use mathlib.Core.Logic.{◌≢◌, by_cases}
use Prim.Native.Nat.{ℕ, zero, suc, ◌≤◌, ◌<◌}
use native.Mathlib.Decide.{ℕ_discrete}
use native.Mathlib.Omega.{arith}
use Rattle.theory.specs.Order.{parent, Heap, Under, Swapped, Place, first, second, apart, UpOrd, DownOrd}

-- to show a goal it is enough to show it where the two numbers are equal, and where they are not
pub split {ℓ} : {G : Type ℓ} (a b : ℕ) → (a ≡ b → G) → (a ≢ b → G) → G
split a b f g = by_cases (ℕ_discrete a b) f g

-- every place is one of the two exchanged or apart from both
place_of : {f g : ℕ → ℕ} {i j : ℕ} → Swapped f g i j → (k : ℕ) → Place f g i j k
place_of {g = g} {i} {j} s k =
    split k i (λ e. first e (ap g e ∙ s.left))
    (λ n. split k j (λ e. second e (ap g e ∙ s.right)) (λ m. apart n m (s.other k n m)))

module _ {f g : ℕ → ℕ} {n i : ℕ} (u : UpOrd f n i) (pos : 0 < i) (inside : i < n) (less : f i < f (parent i)) (s : Swapped f g i (parent i)) where
  up_rest : (k : ℕ) → 0 < k → k < n → k ≢ parent i → g (parent k) ≤ g k
  up_rest k p h m = go (place_of s k) (place_of s (parent k))
    where
      go : Place f g i (parent i) k → Place f g i (parent i) (parent k) → g (parent k) ≤ g k
      go (first a b) (first c e) = omega arith
      go (first a b) (second c e) = omega arith
      go (first a b) (apart c e q) = omega arith
      go (second a b) w = omega arith
      go (apart a b z) (first c e) = omega (arith, u.over k p h pos c)
      go (apart a b z) (second c e) = omega (arith, u.rest k p h a, ap f c)
      go (apart a b z) (apart c e q) = omega (arith, u.rest k p h a)

  up_over : (k : ℕ) → 0 < k → k < n → 0 < parent i → parent k ≡ parent i → g (parent (parent i)) ≤ g k
  up_over k p h q e = go (place_of s k)
    where
      same : g (parent (parent i)) ≡ f (parent (parent i))
      same = s.other (parent (parent i)) (omega arith) (omega arith)

      top : f (parent (parent i)) ≤ f (parent i)
      top = u.rest (parent i) q (omega arith) (omega arith)

      go : Place f g i (parent i) k → g (parent (parent i)) ≤ g k
      go (first a b) = omega (arith, same, top)
      go (second a b) = omega (arith, same, top)
      go (apart a b z) = omega (arith, same, top, u.rest k p h a, ap f e)

  -- i was out of order with its parent and is exchanged with it: now only the parent's place may be
  pub up_step : UpOrd g n (parent i)
  up_step = record { rest = up_rest; over = up_over }

-- ordered but for i against its parent, and in order there too: a heap
pub up_stop : {f : ℕ → ℕ} {n i : ℕ} → UpOrd f n i → (0 < i → f (parent i) ≤ f i) → Heap f n
up_stop {f} {i = i} u t k p h = split k i (λ e. omega (arith, t (omega arith), ap f e, ap (λ (x : ℕ). f (parent x)) e)) (u.rest k p h)

-- ordered but for i against its children, and in order there too: a heap
pub down_stop : {f : ℕ → ℕ} {n i : ℕ} → DownOrd f n i → Under f n i (f i) → Heap f n
down_stop {f} {i = i} u t k p h = split (parent k) i (λ e. omega (arith, t k p h e, ap f e)) (u.rest k p h)

module _ {f g : ℕ → ℕ} {n i c : ℕ} (u : DownOrd f n i) (pos : 0 < c) (inside : c < n) (child : parent c ≡ i) (less : f c < f i)
    (least : Under f n i (f c)) (s : Swapped f g i c) where
  down_rest : (k : ℕ) → 0 < k → k < n → parent k ≢ c → g (parent k) ≤ g k
  down_rest k p h m = go (place_of s k) (place_of s (parent k))
    where
      go : Place f g i c k → Place f g i c (parent k) → g (parent k) ≤ g k
      go v (second a b) = omega arith
      go (first a b) (first e z) = omega arith
      go (first a b) (apart e q z) = omega (arith, u.over c pos inside (omega arith) child, ap (λ (x : ℕ). f (parent x)) a)
      go (second a b) (first e z) = omega arith
      go (second a b) (apart e q z) = omega arith
      go (apart a b w) (first e z) = omega (arith, least k p h e)
      go (apart a b w) (apart e q z) = omega (arith, u.rest k p h e)

  down_over : (k : ℕ) → 0 < k → k < n → 0 < c → parent k ≡ c → g (parent c) ≤ g k
  down_over k p h _ e = omega (arith, ap g child, s.left, s.other k (omega arith) (omega arith), u.rest k p h (omega arith), ap f e)

  -- i was out of order with its children and is exchanged with a least one: now only that child's place may be
  pub down_step : DownOrd g n c
  down_step = record { rest = down_rest; over = down_over }

module _ {f : ℕ → ℕ} {n : ℕ} (o : Heap f n) where
  least_by : (fuel k : ℕ) → k ≤ fuel → k < n → f 0 ≤ f k
  least_by zero k b h = let e : k ≡ 0 = omega arith in omega (arith, ap f e)
  least_by (suc fuel) k b h =
      split k 0 (λ e. omega (arith, ap f e))
      (λ m. omega (arith, o k (omega arith) h, least_by fuel (parent k) (omega arith) (omega arith)))

  -- no place of a heap holds less than the first
  pub head_least : (k : ℕ) → k < n → f 0 ≤ f k
  head_least k h = least_by k k (omega arith) h

-- g is a heap f below n, but for what it holds at i
module _ {f g : ℕ → ℕ} {m n i : ℕ} (o : Heap f m) (within : n ≤ m) (inside : i < n) (same : (k : ℕ) → k < n → k ≢ i → g k ≡ f k) where
  -- where i now holds no more than before, it may have to rise
  pub raise : g i ≤ f i → UpOrd g n i
  raise l = record {
    rest = λ k p h a.
        split (parent k) i (λ e. omega (arith, o k p (omega arith), same k h a, ap g e, ap f e))
        (λ b. omega (arith, o k p (omega arith), same k h a, same (parent k) (omega arith) b));
    over = λ k p h q e. omega (arith, o k p (omega arith), o i q (omega arith), ap f e, same k h (omega arith), same (parent i) (omega arith) (omega arith));
  }

  -- where i now holds no less than before, it may have to sink
  pub lower : f i ≤ g i → DownOrd g n i
  lower l = record {
    rest = λ k p h a.
        split k i (λ e. omega (arith, o k p (omega arith), same (parent k) (omega arith) a, ap g e, ap f e))
        (λ b. omega (arith, o k p (omega arith), same k h b, same (parent k) (omega arith) a));
    over = λ k p h q e. omega (arith, o k p (omega arith), o i q (omega arith), ap f e, same k h (omega arith), same (parent i) (omega arith) (omega arith));
  }

-- a heap with one more place behind it: the new one may have to rise
pub appended : {f g : ℕ → ℕ} {n : ℕ} → Heap f n → ((k : ℕ) → k < n → g k ≡ f k) → UpOrd g (suc n) n
appended o same = record {
  rest = λ k p h a. omega (arith, o k p (omega arith), same k (omega arith), same (parent k) (omega arith));
  over = λ k p h q e. omega arith;
}
