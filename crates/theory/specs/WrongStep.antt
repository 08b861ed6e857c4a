-- Where a chain goes wrong. `next` is the number that a number names, if any, `ok` the test that each number of the chain has to
-- pass, and h the head, which the chain meets at step 0. A chain is at fault at the first step at which it meets a number that
-- does not pass or one that it has met before, or has ended while a number that passes is missing.
-- Assumes nothing.
use Rattle.std.specs.Prelude.{◌≡◌, Bool, true, false, not, ◌&&◌, ◌||◌, ℕ, zero, suc, ◌+◌, ◌<◌, eqb}
use Rattle.std.proofs.Math.Option.{Option, none, some}
use Rattle.theory.specs.Counting.{count}
use Rattle.theory.specs.First.{first_bad}

-- whom the chain from h meets at step k; none once it has ended
unfoldable pub met_at : (ℕ → Option ℕ) → Option ℕ → ℕ → Option ℕ
met_at next h zero = h
met_at next none (suc k) = none
met_at next (some x) (suc k) = met_at next (next x) k

-- whether the chain from h meets x at one of its first k steps
unfoldable pub met_before : (ℕ → Option ℕ) → Option ℕ → ℕ → ℕ → Bool
met_before next h zero x = false
met_before next none (suc k) x = false
met_before next (some y) (suc k) x = eqb x y || met_before next (next y) k x

-- whether the chain is in order at step k, where n numbers pass: it has ended after n of them, so that none is missing; or whom it
-- meets there passes and was not met before
abbrev pub stands_ok : (ℕ → Bool) → (ℕ → Option ℕ) → ℕ → Option ℕ → ℕ → Option ℕ → Bool
stands_ok ok next n h k none = eqb k n
stands_ok ok next n h k (some x) = ok x && not (met_before next h k x)

unfoldable pub step_ok : (ℕ → Bool) → (ℕ → Option ℕ) → ℕ → Option ℕ → ℕ → Bool
step_ok ok next n h k = stands_ok ok next n h k (met_at next h k)

-- the first step at which the chain from h is at fault, or none. Where n numbers below cap pass, the steps from 0 to n are all that
-- need a look: by then the chain has ended, or has met someone who does not pass or someone twice
unfoldable pub wrong_step : (ℕ → Bool) → (ℕ → Option ℕ) → ℕ → Option ℕ → Option ℕ
wrong_step ok next cap h = first_bad (step_ok ok next (count ok cap) h) (count ok cap + 1) 0

-- the first k steps are in order: each meets a number that passes, and no two the same
pub record FineTo (ok : ℕ → Bool) (next : ℕ → Option ℕ) (h : Option ℕ) (k : ℕ) : Type 0 where
  pub passes : (j : ℕ) → j < k → (x : ℕ) × (met_at next h j ≡ some x) × (ok x ≡ true)
  pub apart : (i j x : ℕ) → i < j → j < k → met_at next h i ≡ some x → met_at next h j ≡ some x → ⊥

-- what can be wrong at step k
pub data Wrong (ok : ℕ → Bool) (next : ℕ → Option ℕ) (cap : ℕ) (h : Option ℕ) (k : ℕ) : Type 0 where
  -- the chain has ended, and x, which passes, was met at no step before
  missing : (x : ℕ) → met_at next h k ≡ none → x < cap → ok x ≡ true → ((j : ℕ) → j < k → met_at next h j ≡ some x → ⊥) → Wrong ok next cap h k
  -- it meets x, which does not pass
  stranger : (x : ℕ) → met_at next h k ≡ some x → ok x ≡ false → Wrong ok next cap h k
  -- it meets x, which it met at step j
  again : (x j : ℕ) → met_at next h k ≡ some x → j < k → met_at next h j ≡ some x → Wrong ok next cap h k

-- the chain goes wrong at step k, and not before
pub record WrongAt (ok : ℕ → Bool) (next : ℕ → Option ℕ) (cap : ℕ) (h : Option ℕ) (k : ℕ) : Type 0 where
  pub fine : FineTo ok next h k
  pub wrong : Wrong ok next cap h k
