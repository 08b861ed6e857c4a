-- One turn of the loop over places is one turn of its rule, and the rule ends where the loop does.
-- Assumes nothing.
use mathlib.Core.Path.{◌≡◌, ap}
use Prim.Native.Nat.{ℕ, suc, ◌+◌}
use Rattle.state.specs.declared.Set.{Set}
use Rattle.depths.specs.Rules.{made_of, each_from}

-- where places are left the first of them is next
pub each_goes : (m k n p : ℕ) (s : Set) → m ≡ suc k → each_from m n p s ≡ each_from k n (p + 1) (made_of s n p)
unfolding each_from
each_goes m k n p s e = ap (λ (j : ℕ). each_from j n p s) e

-- where none is left the set stays
pub each_done : (m n p : ℕ) (s : Set) → m ≡ 0 → each_from m n p s ≡ s
unfolding each_from
each_done m n p s z = ap (λ (j : ℕ). each_from j n p s) z
