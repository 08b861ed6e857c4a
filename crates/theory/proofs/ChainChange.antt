-- What a change of the test or of the links does to a chain: nothing where the chain does not go, and one node more or less in front.
-- Assumes nothing.
use mathlib.Core.Path.{◌≡◌, refl, sym, ◌∙◌, ap, subst}
use mathlib.Core.Logic.{inl, inr}
use mathlib.Core.Bool.{Bool, true, false, ◌&&◌}
use mathlib.Core.Option.{Option, none, some}
use mathlib.Core.List.{List, [], ◌∷◌}
use Prim.Native.Nat.{ℕ, zero, suc, ◌<◌}
use native.Mathlib.Omega.{arith}
use lib.ListN.{length}
use Rattle.theory.specs.Counting.{count, Mem}
use Rattle.theory.specs.Chain.{walkb, Chain, chain_okb, chain_of}
use Rattle.theory.proofs.Tests.{true_false}
use Rattle.theory.proofs.Counting.{count_same, count_off}
use Rattle.theory.proofs.Chain.{chain_ok, chain_distinct, chain_head}
use Rattle.theory.proofs.ChainTest.{ok_chain, chain_whole}

-- the same numbers pass and those have the same links: what a number that does not pass names is never read
module _ (ok ok' : ℕ → Bool) (next next' : ℕ → Option ℕ) (a : (y : ℕ) → ok y ≡ ok' y) (b : (y : ℕ) → ok y ≡ true → next y ≡ next' y) where
  -- a walk says the same
  walk_same : (n : ℕ) (h : Option ℕ) → walkb ok next n h ≡ walkb ok' next' n h
  unfolding walkb
  walk_same zero none = refl
  walk_same zero (some x) = refl
  walk_same (suc n) none = refl
  walk_same (suc n) (some x) = go (ok x) refl (walk_same n (next x))
    where
      go : (f : Bool) → ok x ≡ f → walkb ok next n (next x) ≡ walkb ok' next' n (next x)
          → (ok x && walkb ok next n (next x)) ≡ (ok' x && walkb ok' next' n (next' x))
      go true e r = rw (← a x, e) (r ∙ ap (walkb ok' next' n) (b x e))
      go false e r = rw (← a x, e)

  -- the test of the chain says the same
  pub chain_same : (cap : ℕ) (h : Option ℕ) → chain_okb ok next cap h ≡ chain_okb ok' next' cap h
  unfolding chain_okb
  chain_same cap h = walk_same (count ok cap) h ∙ ap (λ (n : ℕ). walkb ok' next' n h) (count_same ok ok' cap (λ i _. a i))

-- the test and the links may change at x, and nowhere else
module _ (ok ok' : ℕ → Bool) (next next' : ℕ → Option ℕ) (x : ℕ)
    (same_ok : (y : ℕ) → (y ≡ x → ⊥) → ok y ≡ ok' y) (same_next : (y : ℕ) → (y ≡ x → ⊥) → next y ≡ next' y)
  where
    -- a chain that x is not on is still one
    chain_off : (l : List ℕ) (h : Option ℕ) → (Mem x l → ⊥) → Chain ok next h l → Chain ok' next' h l
    chain_off [] h n c = c
    chain_off (y ∷ l) h n c =
        let other : y ≡ x → ⊥ = λ e. n (inl (sym e)) in (
          c.0,
          sym (same_ok y other) ∙ c.1,
          subst (λ (k : Option ℕ). Chain ok' next' k l) (same_next y other) (chain_off l (next y) (λ m. n (inr m)) c.2),
        )

    -- x did not pass, and now passes and names the head: it stands in front of the chain
    push_chain : (h : Option ℕ) (l : List ℕ) → ok x ≡ false → ok' x ≡ true → next' x ≡ h
        → Chain ok next h l → Chain ok' next' (some x) (x ∷ l)
    push_chain h l off on e c = (
      refl,
      on,
      subst (λ (k : Option ℕ). Chain ok' next' k l) (sym e)
          (chain_off l h (λ m. true_false (chain_ok ok next l h c x m) off) c),
    )

    -- x stood in front: what it named is the head of the rest
    pop_chain : (l : List ℕ) → Chain ok next (some x) (x ∷ l) → Chain ok' next' (next x) l
    pop_chain l c = chain_off l (next x) (chain_distinct ok next (x ∷ l) (some x) c).0 c.2

-- the same of all numbers below cap that pass
module _ (ok ok' : ℕ → Bool) (next next' : ℕ → Option ℕ) (cap x : ℕ)
    (same_ok : (y : ℕ) → (y ≡ x → ⊥) → ok y ≡ ok' y) (same_next : (y : ℕ) → (y ≡ x → ⊥) → next y ≡ next' y)
  where
    -- x is put in front of a chain of all numbers that pass: the test still says yes, and x is one more node, the first
    pub push_ok : (h : Option ℕ) → x < cap → ok x ≡ false → ok' x ≡ true → next' x ≡ h → chain_okb ok next cap h ≡ true
        → (chain_okb ok' next' cap (some x) ≡ true) × (chain_of ok' next' cap (some x) ≡ x ∷ chain_of ok next cap h)
    push_ok h b off on e w =
        let r = ok_chain ok next cap h w in
        chain_whole ok' next' cap (x ∷ chain_of ok next cap h) (some x)
        (ap suc r.0 ∙ sym (count_off ok ok' cap x same_ok off on b)) (push_chain ok ok' next next' x same_ok same_next h (chain_of ok next cap h) off on e r.1)

    -- x is taken off the front of such a chain and passes no more: the test still says yes, and the other nodes are left
    pub pop_ok : x < cap → ok' x ≡ false → chain_okb ok next cap (some x) ≡ true
        → (chain_okb ok' next' cap (next x) ≡ true) × (chain_of ok next cap (some x) ≡ x ∷ chain_of ok' next' cap (next x))
    pop_ok b off w =
        let r = ok_chain ok next cap (some x) w in
        let q = chain_head ok next x (chain_of ok next cap (some x)) r.1 in
        let c = subst (Chain ok next (some x)) q.1 r.1 in
        let p = chain_whole ok' next' cap q.0 (next x)
        (omega (arith, ap length q.1, r.0, count_off ok' ok cap x (λ y n. sym (same_ok y n)) off c.1 b))
        (pop_chain ok ok' next next' x same_ok same_next q.0 c) in
        (p.0, q.1 ∙ ap (◌∷◌ x) (sym p.1))
