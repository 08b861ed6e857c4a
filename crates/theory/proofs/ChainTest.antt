-- What the test of a chain, `chain_okb`, tells of its nodes, `chain_of`.
-- Assumes nothing.
use mathlib.Core.Path.{◌≡◌, refl, sym, ◌∙◌, ap, subst}
use mathlib.Core.Bool.{Bool, true}
use mathlib.Core.Option.{Option, none, some}
use mathlib.Core.List.{List, []}
use Prim.Native.Nat.{ℕ, zero, suc, ◌<◌}
use lib.ListN.{length}
use Rattle.theory.specs.Counting.{count, Lists}
use Rattle.theory.specs.Chain.{walkb, nodes, Chain, chain_okb, chain_of}
use Rattle.theory.proofs.Tests.{true_false}
use Rattle.theory.proofs.Pigeonhole.{lists_length}
use Rattle.theory.proofs.Chain.{walk_chain, chain_walk, chain_nodes, chain_head, chain_lists}

module _ (ok : ℕ → Bool) (next : ℕ → Option ℕ) (cap : ℕ) where
  -- where the test says yes, the nodes are a chain, as long as the count of the numbers that pass
  pub ok_chain : (h : Option ℕ) → chain_okb ok next cap h ≡ true
      → (length (chain_of ok next cap h) ≡ count ok cap) × Chain ok next h (chain_of ok next cap h)
  unfolding chain_okb chain_of
  ok_chain h w =
      let r = walk_chain ok next (count ok cap) h w in
      let e : r.0 ≡ nodes next (count ok cap) h = sym (chain_nodes ok next r.0 h r.2) ∙ ap (λ (n : ℕ). nodes next n h) r.1 in
      subst (λ (l : List ℕ). (length l ≡ count ok cap) × Chain ok next h l) e (r.1, r.2)

  -- a chain as long as the count of the numbers that pass has the test say yes, and is the list of the nodes
  pub chain_whole : (l : List ℕ) (h : Option ℕ) → length l ≡ count ok cap → Chain ok next h l
      → (chain_okb ok next cap h ≡ true) × (chain_of ok next cap h ≡ l)
  unfolding chain_okb chain_of
  chain_whole l h e c = (
    ap (λ (n : ℕ). walkb ok next n h) (sym e) ∙ chain_walk ok next l h c,
    ap (λ (n : ℕ). nodes next n h) (sym e) ∙ chain_nodes ok next l h c,
  )

  -- where the test says yes, the head passes
  pub ok_head : (x : ℕ) → chain_okb ok next cap (some x) ≡ true → ok x ≡ true
  ok_head x w =
      let r = ok_chain (some x) w in
      let q = chain_head ok next x (chain_of ok next cap (some x)) r.1 in
      (subst (Chain ok next (some x)) q.1 r.1).1

  -- where the test says yes of no chain at all, no number passes
  pub ok_none : chain_okb ok next cap none ≡ true → count ok cap ≡ 0
  unfolding chain_okb walkb
  ok_none w = go (count ok cap) w
    where
      go : (n : ℕ) → walkb ok next n none ≡ true → n ≡ 0
      go zero w = refl
      go (suc n) w = true_false w refl

  -- where no number passes, the test says yes of no chain at all, and there are no nodes
  pub none_ok : count ok cap ≡ 0 → (chain_okb ok next cap none ≡ true) × (chain_of ok next cap none ≡ [])
  none_ok e = chain_whole [] none (sym e) refl

module _ (ok : ℕ → Bool) (next : ℕ → Option ℕ) (cap : ℕ) (below : (x : ℕ) → ok x ≡ true → x < cap) where
  -- where the test says yes there is a chain that holds each number that passes once, and no other
  pub ok_lists : (h : Option ℕ) → chain_okb ok next cap h ≡ true → (l : List ℕ) × Chain ok next h l × Lists ok cap l
  unfolding chain_okb
  ok_lists h w =
      let r = walk_chain ok next (count ok cap) h w in
      (r.0, r.2, chain_lists ok next cap below r.0 h r.2 r.1)

-- of a chain that holds each number that passes once, and no other, the test says yes
pub lists_ok : (ok : ℕ → Bool) (next : ℕ → Option ℕ) (cap : ℕ) (h : Option ℕ) (l : List ℕ) → Chain ok next h l → Lists ok cap l
    → chain_okb ok next cap h ≡ true
lists_ok ok next cap h l c s = (chain_whole ok next cap l h (lists_length l ok cap s) c).0
