-- A chain whose first k steps are in order has met k different numbers that pass: so k is at most their count, where it is the
-- count all of them were met, and where it is less one is missing.
-- Assumes nothing.
use mathlib.Core.Path.{◌≡◌, refl, sym, ◌∙◌, ap, subst}
use mathlib.Core.Bool.{Bool, true, false, not, ◌||◌}
use mathlib.Core.Option.{Option, none, some}
use mathlib.Core.List.{List, [], ◌∷◌}
use Prim.Native.Nat.{ℕ, zero, suc, ◌<◌, ◌≤◌}
use native.Mathlib.Omega.{arith}
use lib.ListN.{length}
use Rattle.theory.specs.Counting.{count, Mem, Distinct, Lists}
use Rattle.theory.specs.Chain.{walkb, nodes, Chain}
use Rattle.theory.specs.First.{first_bad}
use Rattle.theory.specs.WrongStep.{met_at, met_before, FineTo}
use Rattle.theory.proofs.Tests.{true_false, none_some, ref_true, true_ref}
use Rattle.theory.proofs.First.{none_all, some_first}
use Rattle.theory.proofs.Pigeonhole.{pigeonhole, few, lists_length}
use Rattle.theory.proofs.Chain.{chain_nodes, chain_distinct}
use Rattle.theory.proofs.Steps.{met_none, ref_before, nodes_met, met_nodes, nodes_apart}

module _ (ok : ℕ → Bool) (next : ℕ → Option ℕ) where
  -- the head passes, and from the next on one step fewer is in order
  pub fine_head : (k x : ℕ) → FineTo ok next (some x) (suc k) → ok x ≡ true
  unfolding met_at
  fine_head k x f =
      let q = f.passes 0 (omega arith) in
      let e : q.0 ≡ x = cc in
      ap ok (sym e) ∙ q.2

  pub fine_tail : (k x : ℕ) → FineTo ok next (some x) (suc k) → FineTo ok next (next x) k
  unfolding met_at
  fine_tail k x f = record {
    passes = λ j l. f.passes (suc j) (omega arith);
    apart = λ i j y l m p q. f.apart (suc i) (suc j) y (omega arith) (omega arith) p q;
  }

  -- no step of no chain is in order
  pub fine_none : (k : ℕ) → FineTo ok next none (suc k) → ⊥
  fine_none k f = let q = f.passes 0 (omega arith) in met_none next 0 q.0 q.1

  -- each of the numbers met passes
  pub fine_ok : (k : ℕ) (h : Option ℕ) → FineTo ok next h k → (j x : ℕ) → j < k → met_at next h j ≡ some x → ok x ≡ true
  fine_ok k h f j x l e =
      let q = f.passes j l in
      let d : q.0 ≡ x = cc in
      ap ok (sym d) ∙ q.2

  -- k nodes, and no two the same
  fine_long : (k : ℕ) (h : Option ℕ) → FineTo ok next h k → length (nodes next k h) ≡ k
  unfolding nodes
  fine_long zero h f = refl
  fine_long (suc k) none f = absurd (fine_none k f)
  fine_long (suc k) (some x) f = ap suc (fine_long k (next x) (fine_tail k x f))

  fine_distinct : (k : ℕ) (h : Option ℕ) → FineTo ok next h k → Distinct (nodes next k h)
  unfolding nodes met_at
  fine_distinct zero h f = tt
  fine_distinct (suc k) none f = tt
  fine_distinct (suc k) (some x) f = (
    λ m.
        let q = nodes_met next k (next x) x m in
        let l = q.1 in
        f.apart 0 (suc q.0) x (omega arith) (omega arith) refl q.2,
    fine_distinct k (next x) (fine_tail k x f),
  )

  -- where the chain has ended then, the walk of k nodes says yes
  pub fine_walk : (k : ℕ) (h : Option ℕ) → FineTo ok next h k → met_at next h k ≡ none → walkb ok next k h ≡ true
  unfolding walkb met_at
  fine_walk zero none f e = refl
  fine_walk zero (some x) f e = absurd (none_some e refl)
  fine_walk (suc k) none f e = absurd (fine_none k f)
  fine_walk (suc k) (some x) f e = rw (fine_head k x f) (fine_walk k (next x) (fine_tail k x f) e)

  -- as many steps of a chain are in order as it has nodes, and then it has ended
  pub chain_fine : (l : List ℕ) (h : Option ℕ) → Chain ok next h l → FineTo ok next h (length l)
  unfolding met_at
  chain_fine l h c = record {
    passes = met l h c;
    apart = nodes_apart next (length l) h (subst Distinct (sym (chain_nodes ok next l h c)) (chain_distinct ok next l h c));
  }
    where
      met : (l : List ℕ) (h : Option ℕ) → Chain ok next h l → (j : ℕ) → j < length l → (x : ℕ) × (met_at next h j ≡ some x) × (ok x ≡ true)
      met [] h c j l = absurd (omega arith)
      met (x ∷ m) h c zero l = (x, c.0, c.1)
      met (x ∷ m) none c (suc j) l = absurd (none_some refl c.0)
      met (x ∷ m) (some y) c (suc j) l =
          let e : x ≡ y = cc in
          met m (next y) (subst (λ (z : ℕ). Chain ok next (next z) m) e c.2) j (omega arith)

  pub chain_ended : (l : List ℕ) (h : Option ℕ) → Chain ok next h l → met_at next h (length l) ≡ none
  unfolding met_at
  chain_ended [] h c = c
  chain_ended (x ∷ l) none c = refl
  chain_ended (x ∷ l) (some y) c =
      let e : x ≡ y = cc in
      chain_ended l (next y) (subst (λ (z : ℕ). Chain ok next (next z) l) e c.2)

  module _ (cap : ℕ) (below : (x : ℕ) → ok x ≡ true → x < cap) (h : Option ℕ) where
    inside : (k : ℕ) → FineTo ok next h k → (y : ℕ) → Mem y (nodes next k h) → (y < cap) × (ok y ≡ true)
    inside k f y m =
        let q = nodes_met next k h y m in
        let o = fine_ok k h f q.0 y q.1 q.2 in
        (below y o, o)

    -- no more steps are in order than numbers pass
    pub fine_few : (k : ℕ) → FineTo ok next h k → k ≤ count ok cap
    fine_few k f = omega (arith, fine_long k h f, few (nodes next k h) ok cap (fine_distinct k h f) (inside k f))

    -- where as many are, each number that passes was met
    pub fine_all : (k : ℕ) → FineTo ok next h k → k ≡ count ok cap → (x : ℕ) → ok x ≡ true → (j : ℕ) × (j < k) × (met_at next h j ≡ some x)
    fine_all k f e x o =
        nodes_met next k h x
        (pigeonhole (nodes next k h) ok cap (fine_distinct k h f) (inside k f) (fine_long k h f ∙ e) x (below x o) o)

    -- where fewer are, one is missing
    pub fine_missing : (k : ℕ) → FineTo ok next h k → k < count ok cap
        → (x : ℕ) × (x < cap) × (ok x ≡ true) × ((j : ℕ) → j < k → met_at next h j ≡ some x → ⊥)
    fine_missing k f l = go (first_bad seen cap 0) refl
      where
        seen : ℕ → Bool
        seen x = not (ok x) || met_before next h k x

        met : (x : ℕ) (b : Bool) → ok x ≡ b → (not b || met_before next h k x) ≡ true → ok x ≡ true → Mem x (nodes next k h)
        met x true p e o =
            let q = ref_true (ref_before next k h x) e in
            met_nodes next k h q.0 x q.1 q.2
        met x false p e o = true_false o p

        lost : (x : ℕ) (b : Bool) → ok x ≡ b → (not b || met_before next h k x) ≡ false
            → (ok x ≡ true) × ((j : ℕ) → j < k → met_at next h j ≡ some x → ⊥)
        lost x true p e = (p, λ j l q. true_false (true_ref (ref_before next k h x) (j, l, q)) e)
        lost x false p e = true_false refl e

        go : (o : Option ℕ) → first_bad seen cap 0 ≡ o → (x : ℕ) × (x < cap) × (ok x ≡ true) × ((j : ℕ) → j < k → met_at next h j ≡ some x → ⊥)
        go none e =
            let s : Lists ok cap (nodes next k h) = record {
              once = fine_distinct k h f;
              sound = inside k f;
              whole = λ x b o. met x (ok x) refl (none_all seen cap 0 e x (omega arith) (omega arith)) o;
            } in
            absurd (omega (arith, lists_length (nodes next k h) ok cap s, fine_long k h f))
        go (some x) e =
            let q = some_first seen cap 0 x e in
            let b = q.1 in
            let r = lost x (ok x) refl q.2 in
            (x, omega arith, r.0, r.1)
