-- Heap order of a function ℕ → ℕ below a bound, and the two ways in which one place may be out of order on its way up or down.
-- Assumes nothing.
use Rattle.std.specs.Prelude.{◌≡◌, ◌≢◌, ℕ, ◌-◌, ◌/◌, ◌≤◌, ◌<◌}

-- the place above i
abbrev pub parent : ℕ → ℕ
parent i = (i - 1) / 2

-- below n, no place holds less than its parent
abbrev pub Heap : (ℕ → ℕ) → ℕ → Type 0
Heap f n = (k : ℕ) → 0 < k → k < n → f (parent k) ≤ f k

-- no child of i below n holds less than m
abbrev pub Under : (ℕ → ℕ) → ℕ → ℕ → ℕ → Type 0
Under f n i m = (k : ℕ) → 0 < k → k < n → parent k ≡ i → m ≤ f k

-- g holds at i what f holds at j and the other way round, and elsewhere what f holds
pub record Swapped (f g : ℕ → ℕ) (i j : ℕ) : Type 0 where
  pub left : g i ≡ f j
  pub right : g j ≡ f i
  pub other : (k : ℕ) → k ≢ i → k ≢ j → g k ≡ f k

-- which of the two exchanged places k is, if any, and what it holds now
pub data Place (f g : ℕ → ℕ) (i j k : ℕ) : Type 0 where
  first : k ≡ i → g k ≡ f j → Place f g i j k
  second : k ≡ j → g k ≡ f i → Place f g i j k
  apart : k ≢ i → k ≢ j → g k ≡ f k → Place f g i j k

-- heap order, save that i may hold less than its parent; what is below i is still over that parent
pub record UpOrd (f : ℕ → ℕ) (n i : ℕ) : Type 0 where
  pub rest : (k : ℕ) → 0 < k → k < n → k ≢ i → f (parent k) ≤ f k
  pub over : (k : ℕ) → 0 < k → k < n → 0 < i → parent k ≡ i → f (parent i) ≤ f k

-- heap order, save that i may hold more than its children; those are still over the parent of i
pub record DownOrd (f : ℕ → ℕ) (n i : ℕ) : Type 0 where
  pub rest : (k : ℕ) → 0 < k → k < n → parent k ≢ i → f (parent k) ≤ f k
  pub over : (k : ℕ) → 0 < k → k < n → 0 < i → parent k ≡ i → f (parent i) ≤ f k
