-- Why a walk that counts its nodes is enough: it ends exactly where there is a chain of that length, a head has one chain only, and
-- so no chain meets a node twice. A chain as long as the count of the numbers that pass therefore holds them all.
-- Assumes nothing.
use mathlib.Core.Path.{◌≡◌, refl, sym, ◌∙◌, ap, ap₂, subst}
use mathlib.Core.Logic.{inl, inr}
use mathlib.Core.Bool.{Bool, true, ◌&&◌}
use mathlib.Core.Option.{Option, none, some}
use mathlib.Core.List.{List, [], ◌∷◌}
use Prim.Native.Nat.{ℕ, zero, suc, ◌<◌, ◌≤◌}
use native.Mathlib.Omega.{arith}
use lib.ListN.{length}
use Rattle.theory.specs.Counting.{count, Mem, Distinct, Lists}
use Rattle.theory.specs.Chain.{walkb, nodes, Chain}
use Rattle.theory.proofs.Tests.{true_false, and_left, and_right}
use Rattle.theory.proofs.Pigeonhole.{pigeonhole}

module _ (ok : ℕ → Bool) (next : ℕ → Option ℕ) where
  -- a walk of n nodes that says yes has gone along a chain of n nodes
  pub walk_chain : (n : ℕ) (h : Option ℕ) → walkb ok next n h ≡ true → (l : List ℕ) × (length l ≡ n) × Chain ok next h l
  unfolding walkb
  walk_chain zero none w = ([], refl, refl)
  walk_chain zero (some x) w = true_false w refl
  walk_chain (suc n) none w = true_false w refl
  walk_chain (suc n) (some x) w =
      let r = walk_chain n (next x) (and_right (ok x) _ w) in
      (x ∷ r.0, ap suc r.1, (refl, and_left (ok x) _ w, r.2))

  -- a walk as long as the chain says yes
  pub chain_walk : (l : List ℕ) (h : Option ℕ) → Chain ok next h l → walkb ok next (length l) h ≡ true
  unfolding walkb
  chain_walk [] h c = rw c
  chain_walk (x ∷ l) h c = rw c.0 (ap₂ ◌&&◌ c.1 (chain_walk l (next x) c.2))

  -- the nodes that are met are the chain's
  pub chain_nodes : (l : List ℕ) (h : Option ℕ) → Chain ok next h l → nodes next (length l) h ≡ l
  unfolding nodes
  chain_nodes [] h c = refl
  chain_nodes (x ∷ l) h c = rw c.0 (ap (◌∷◌ x) (chain_nodes l (next x) c.2))

  -- two chains from the same head are one
  chain_one : (l m : List ℕ) (h : Option ℕ) → Chain ok next h l → Chain ok next h m → l ≡ m
  chain_one [] [] h c d = refl
  chain_one [] (y ∷ m) h c d = cc
  chain_one (x ∷ l) [] h c d = cc
  chain_one (x ∷ l) (y ∷ m) h c d =
      let e : x ≡ y = cc in
      ap₂ ◌∷◌ e (chain_one l m (next x) c.2 (subst (λ (k : ℕ). Chain ok next (next k) m) (sym e) d.2))

  -- each node of a chain is the head of a chain that is no longer
  chain_from : (x : ℕ) (l : List ℕ) (h : Option ℕ) → Chain ok next h l → Mem x l
      → (m : List ℕ) × (length m ≤ length l) × Chain ok next (some x) m
  chain_from x [] h c m = absurd m
  chain_from x (y ∷ l) h c (inl e) = (y ∷ l, omega arith, (ap some e, c.1, c.2))
  chain_from x (y ∷ l) h c (inr r) =
      let q = chain_from x l (next y) c.2 r in
      (q.0, omega arith, q.2)

  -- a chain meets no node twice
  pub chain_distinct : (l : List ℕ) (h : Option ℕ) → Chain ok next h l → Distinct l
  chain_distinct [] h c = tt
  chain_distinct (x ∷ l) h c = (
    λ m.
        let q = chain_from x l (next x) c.2 m in
        omega (arith, ap length (chain_one q.0 (x ∷ l) (some x) q.2 (refl, c.1, c.2))),
    chain_distinct l (next x) c.2,
  )

  -- each node of a chain passes
  pub chain_ok : (l : List ℕ) (h : Option ℕ) → Chain ok next h l → (x : ℕ) → Mem x l → ok x ≡ true
  chain_ok [] h c x m = absurd m
  chain_ok (y ∷ l) h c x (inl e) = ap ok e ∙ c.1
  chain_ok (y ∷ l) h c x (inr m) = chain_ok l (next y) c.2 x m

  -- the first node of a chain is its head
  pub chain_head : (x : ℕ) (l : List ℕ) → Chain ok next (some x) l → (m : List ℕ) × (l ≡ x ∷ m)
  chain_head x [] c = ([], cc)
  chain_head x (y ∷ l) c = (l, cc)

  module _ (cap : ℕ) (below : (x : ℕ) → ok x ≡ true → x < cap) where
    -- a chain as long as the count of the numbers that pass holds each of them once, and no other
    pub chain_lists : (l : List ℕ) (h : Option ℕ) → Chain ok next h l → length l ≡ count ok cap → Lists ok cap l
    chain_lists l h c e =
        let s : (x : ℕ) → Mem x l → (x < cap) × (ok x ≡ true) = λ x m. (below x (chain_ok l h c x m), chain_ok l h c x m) in
        record {
          once = chain_distinct l h c;
          sound = s;
          whole = pigeonhole l ok cap (chain_distinct l h c) s e;
        }
