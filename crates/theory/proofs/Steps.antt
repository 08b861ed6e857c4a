-- The steps of a chain: whom it meets next, whom it has met, and the list of those.
-- Assumes nothing.
use mathlib.Core.Path.{◌≡◌, refl, sym, ◌∙◌, ap, subst}
use mathlib.Core.Logic.{inl, inr, ◌≢◌}
use mathlib.Core.Bool.{Bool, true, false, ◌||◌}
use mathlib.Core.Option.{Option, none, some}
use Prim.Native.Nat.{ℕ, zero, suc, ◌+◌, ◌<◌}
use native.Mathlib.Numerals.{add-one}
use native.Mathlib.Omega.{arith}
use lib.Dec.{eqb}
use borrow.Author.Tests.{eq-eqb, ne_eqb}
use Rattle.theory.specs.Tests.{Ref, holds, fails}
use Rattle.theory.specs.Counting.{Mem, Distinct}
use Rattle.theory.specs.Chain.{nodes}
use Rattle.theory.specs.WrongStep.{met_at, met_before}
use Rattle.theory.proofs.Tests.{none_some, ref_eq}

module _ (next : ℕ → Option ℕ) where
  -- no head, nobody met
  pub met_none : (k x : ℕ) → met_at next none k ≡ some x → ⊥
  unfolding met_at
  met_none zero x e = none_some refl e
  met_none (suc k) x e = none_some refl e

  -- after someone the chain meets whom he names
  next_met : (k : ℕ) (h : Option ℕ) (x : ℕ) → met_at next h k ≡ some x → met_at next h (suc k) ≡ next x
  unfolding met_at
  next_met zero none x e = absurd (none_some refl e)
  next_met zero (some y) x e = ap next cc
  next_met (suc k) none x e = absurd (none_some refl e)
  next_met (suc k) (some y) x e = next_met k (next y) x e

  pub met_next : (k : ℕ) (h : Option ℕ) {x : ℕ} → met_at next h k ≡ some x → met_at next h (k + 1) ≡ next x
  met_next k h {x} e = rw (add-one k) (next_met k h x e)

  -- one step on, the chain has met those whom it had met and the one whom it met there
  before_next : (k : ℕ) (h : Option ℕ) (x y : ℕ) → met_at next h k ≡ some y → met_before next h (suc k) x ≡ (met_before next h k x || eqb x y)
  unfolding met_at met_before
  before_next zero none x y e = absurd (none_some refl e)
  before_next zero (some z) x y e = or_no (eqb x z) ∙ ap (eqb x) cc
    where
      or_no : (b : Bool) → (b || false) ≡ b
      or_no true = refl
      or_no false = refl
  before_next (suc k) none x y e = absurd (none_some refl e)
  before_next (suc k) (some z) x y e = go (eqb x z) (before_next k (next z) x y e)
    where
      go : (b : Bool) → met_before next (next z) (suc k) x ≡ (met_before next (next z) k x || eqb x y)
          → (b || met_before next (next z) (suc k) x) ≡ ((b || met_before next (next z) k x) || eqb x y)
      go true r = refl
      go false r = r

  -- whom it meets at a step it has met one step on
  pub before_here : (k : ℕ) (h : Option ℕ) {y : ℕ} → met_at next h k ≡ some y → met_before next h (k + 1) y ≡ true
  before_here k h {y} e = rw (add-one k) (before_next k h y y e ∙ go (met_before next h k y) (eq-eqb y y refl))
    where
      go : (b : Bool) {c : Bool} → c ≡ true → (b || c) ≡ true
      go true q = refl
      go false q = q

  -- and of all others it has met the same
  pub before_there : (k : ℕ) (h : Option ℕ) {x y : ℕ} → met_at next h k ≡ some y → x ≢ y → met_before next h (k + 1) x ≡ met_before next h k x
  before_there k h {x} {y} e n = rw (add-one k) (before_next k h x y e ∙ go (met_before next h k x) (ne_eqb x y n))
    where
      go : (b : Bool) {c : Bool} → c ≡ false → (b || c) ≡ b
      go true q = refl
      go false q = q

  -- whom it has met before step k it met at a step below k
  pub ref_before : (k : ℕ) (h : Option ℕ) (x : ℕ) → Ref ((j : ℕ) × (j < k) × (met_at next h j ≡ some x)) (met_before next h k x)
  unfolding met_at met_before
  ref_before zero h x = fails (λ q. let l = q.1 in omega arith)
  ref_before (suc k) none x = fails (λ q. met_none q.0 x q.2)
  ref_before (suc k) (some y) x = go (ref_eq x y) (ref_before k (next y) x)
    where
      off : x ≢ y → ¬ ((j : ℕ) × (j < k) × (met_at next (next y) j ≡ some x)) → (j : ℕ) → j < suc k → met_at next (some y) j ≡ some x → ⊥
      off n m zero l e = n cc
      off n m (suc j) l e = m (j, omega arith, e)

      go : {b c : Bool} → Ref (x ≡ y) b → Ref ((j : ℕ) × (j < k) × (met_at next (next y) j ≡ some x)) c
          → Ref ((j : ℕ) × (j < suc k) × (met_at next (some y) j ≡ some x)) (b || c)
      go (holds e) r = holds (0, omega arith, ap some (sym e))
      go (fails n) (holds q) = let l = q.1 in holds (suc q.0, omega arith, q.2)
      go (fails n) (fails m) = fails (λ q. off n m q.0 q.1 q.2)

  -- the first k nodes are those met at a step below k
  pub nodes_met : (k : ℕ) (h : Option ℕ) (y : ℕ) → Mem y (nodes next k h) → (j : ℕ) × (j < k) × (met_at next h j ≡ some y)
  unfolding met_at nodes
  nodes_met zero h y m = absurd m
  nodes_met (suc k) none y m = absurd m
  nodes_met (suc k) (some x) y (inl e) = (0, omega arith, ap some (sym e))
  nodes_met (suc k) (some x) y (inr m) =
      let q = nodes_met k (next x) y m in
      let l = q.1 in
      (suc q.0, omega arith, q.2)

  pub met_nodes : (k : ℕ) (h : Option ℕ) (j y : ℕ) → j < k → met_at next h j ≡ some y → Mem y (nodes next k h)
  unfolding met_at nodes
  met_nodes zero h j y l e = absurd (omega arith)
  met_nodes (suc k) none j y l e = absurd (met_none j y e)
  met_nodes (suc k) (some x) zero y l e = inl cc
  met_nodes (suc k) (some x) (suc j) y l e = inr (met_nodes k (next x) j y (omega arith) e)

  -- where they are all different no two steps meet the same
  pub nodes_apart : (k : ℕ) (h : Option ℕ) → Distinct (nodes next k h) → (i j x : ℕ) → i < j → j < k → met_at next h i ≡ some x
      → met_at next h j ≡ some x → ⊥
  unfolding met_at nodes
  nodes_apart zero h d i j x l m p q = omega arith
  nodes_apart (suc k) none d i j x l m p q = met_none i x p
  nodes_apart (suc k) (some y) d i zero x l m p q = omega arith
  nodes_apart (suc k) (some y) d zero (suc j) x l m p q =
      let e : x ≡ y = cc in
      d.0 (subst (λ (z : ℕ). Mem z (nodes next k (next y))) e (met_nodes k (next y) j x (omega arith) q))
  nodes_apart (suc k) (some y) d (suc i) (suc j) x l m p q = nodes_apart k (next y) d.1 i j x (omega arith) (omega arith) p q
