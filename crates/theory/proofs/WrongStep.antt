-- Where a chain goes wrong, `wrong_step`, means what it says: it is none exactly where the chain is right, by the test `chain_okb`, and
-- it is k exactly where the chain goes wrong at step k and not before, `WrongAt`.
-- Assumes nothing.
use mathlib.Core.Path.{◌≡◌, refl, sym, ◌∙◌, ap}
use mathlib.Core.Bool.{Bool, true, false, not, ◌&&◌}
use mathlib.Core.Option.{Option, none, some}
use Prim.Native.Nat.{ℕ, zero, suc, ◌+◌, ◌<◌, ◌≤◌}
use native.Mathlib.Omega.{arith}
use lib.Dec.{eqb}
use lib.ListN.{length}
use borrow.Author.Tests.{eqb-true, eqb-false, eq-eqb, ne_eqb, not-true, not-false}
use Rattle.theory.specs.Counting.{count}
use Rattle.theory.specs.Chain.{walkb, chain_okb, clear}
use Rattle.theory.specs.WrongStep.{met_at, met_before, step_ok, wrong_step, FineTo, Wrong, missing, stranger, again, WrongAt}
use Rattle.theory.proofs.Tests.{true_false, none_some, is_false, and_left, and_right, ref_true, true_ref, false_ref}
use Rattle.theory.proofs.Order.{split}
use Rattle.theory.proofs.First.{none_all, all_none, some_first, first_some}
use Rattle.theory.proofs.ChainChange.{chain_same}
use Rattle.theory.proofs.Chain.{walk_chain}
use Rattle.theory.proofs.Steps.{ref_before}
use Rattle.theory.proofs.FineTo.{fine_walk, fine_few, fine_all, fine_missing, chain_fine, chain_ended}

module _ (ok : ℕ → Bool) (next : ℕ → Option ℕ) (h : Option ℕ) where
  -- a step is in order where the chain has ended and nothing is missing
  pub step_none : (n k : ℕ) → met_at next h k ≡ none → step_ok ok next n h k ≡ eqb k n
  unfolding step_ok
  step_none n k e = rw e

  -- or where it meets one who passes, for the first time
  pub step_some : (n k x : ℕ) → met_at next h k ≡ some x → step_ok ok next n h k ≡ (ok x && not (met_before next h k x))
  unfolding step_ok
  step_some n k x e = rw e

  -- steps below k that are in order by the test
  pub steps_fine : (n k : ℕ) → k ≤ n → ((j : ℕ) → j < k → step_ok ok next n h j ≡ true) → FineTo ok next h k
  steps_fine n k l a = record {
    passes = λ j b. met j b (met_at next h j) refl;
    apart = λ i j x b c p q.
        let t = and_right (ok x) (not (met_before next h j x)) (sym (step_some n j x q) ∙ a j c) in
        true_false (true_ref (ref_before next j h x) (i, b, p)) (not-true _ t);
  }
    where
      met : (j : ℕ) → j < k → (o : Option ℕ) → met_at next h j ≡ o → (x : ℕ) × (met_at next h j ≡ some x) × (ok x ≡ true)
      met j b none e = absurd (omega (arith, eqb-true j n (sym (step_none n j e) ∙ a j b)))
      met j b (some x) e = (x, e, and_left (ok x) (not (met_before next h j x)) (sym (step_some n j x e) ∙ a j b))

  pub fine_steps : (n k : ℕ) → FineTo ok next h k → (j : ℕ) → j < k → step_ok ok next n h j ≡ true
  fine_steps n k f j l =
      let q = f.passes j l in
      let b = false_ref (ref_before next j h q.0) (λ r. f.apart r.0 j q.0 r.1 l r.2 q.1) in
      step_some n j q.0 q.1 ∙ rw (q.2, b)

  module _ (cap : ℕ) where
    -- where the test of the chain says yes, no step is wrong
    ok_no_step : chain_okb ok next cap h ≡ true → wrong_step ok next cap h ≡ none
    unfolding chain_okb wrong_step
    ok_no_step w =
        let n = count ok cap in
        let r = walk_chain ok next n h w in
        let f = chain_fine ok next r.0 h r.2 in
        let e = chain_ended ok next r.0 h r.2 in
        all_none (step_ok ok next n h) (n + 1) 0
        (λ i _ l. split i n (λ d. step_none n i (ap (met_at next h) (d ∙ sym r.1) ∙ e) ∙ eq-eqb i n d)
        (λ d. fine_steps n (length r.0) f i (omega (arith, r.1))))

    module _ (below : (x : ℕ) → ok x ≡ true → x < cap) where
      -- where no step is wrong, as many are in order as numbers pass, and then the chain has ended
      pub none_fine : wrong_step ok next cap h ≡ none → FineTo ok next h (count ok cap) × (met_at next h (count ok cap) ≡ none)
      unfolding wrong_step
      none_fine e =
          let n = count ok cap in
          let a : (j : ℕ) → j < n + 1 → step_ok ok next n h j ≡ true = λ j l. none_all (step_ok ok next n h) (n + 1) 0 e j (omega arith) (omega arith) in
          let f = steps_fine n n (omega arith) (λ j l. a j (omega arith)) in
          (f, go n refl a f (met_at next h n) refl)
        where
          go : (n : ℕ) → n ≡ count ok cap → ((j : ℕ) → j < n + 1 → step_ok ok next n h j ≡ true) → FineTo ok next h n
              → (o : Option ℕ) → met_at next h n ≡ o → o ≡ none
          go n d a f none q = refl
          go n d a f (some x) q =
              let t = sym (step_some n n x q) ∙ a n (omega arith) in
              let s : (j : ℕ) → j < n + 1 → step_ok ok next (n + 1) h j ≡ true = λ j l. split j n
              (λ i. step_some (n + 1) j x (ap (met_at next h) i ∙ q) ∙ ap (λ (m : ℕ). ok x && not (met_before next h m x)) i ∙ t)
              (λ i. fine_steps (n + 1) n f j (omega arith)) in
              absurd (omega (arith, fine_few ok next cap below h (n + 1) (steps_fine (n + 1) (n + 1) (omega arith) s)))

      -- a chain goes wrong at no step exactly where the test says yes
      pub wrong_none : clear (wrong_step ok next cap h) ≡ chain_okb ok next cap h
      unfolding chain_okb
      wrong_none = go (wrong_step ok next cap h) refl
        where
          go : (o : Option ℕ) → wrong_step ok next cap h ≡ o → clear o ≡ walkb ok next (count ok cap) h
          go none e =
              let q = none_fine e in
              sym (fine_walk ok next (count ok cap) h q.0 q.1)
          go (some k) e = sym (is_false _ (λ w. none_some (ok_no_step w) e))

      -- where it goes wrong at step k, it does so in one of the three ways, and all was in order before
      pub wrong_at : (k : ℕ) → wrong_step ok next cap h ≡ some k → WrongAt ok next cap h k
      unfolding wrong_step
      wrong_at k e =
          let n = count ok cap in
          let q = some_first (step_ok ok next n h) (n + 1) 0 k e in
          let l = q.1 in
          let f = steps_fine n k (omega arith) (λ j b. q.3 j (omega arith) b) in
          record { fine = f; wrong = go n refl (omega arith) q.2 f (met_at next h k) refl }
        where
          met : (x : ℕ) → met_at next h k ≡ some x → (b : Bool) → ok x ≡ b → (b && not (met_before next h k x)) ≡ false → Wrong ok next cap h k
          met x m false o t = stranger x m o
          met x m true o t =
              let r = ref_true (ref_before next k h x) (not-false _ t) in
              again x r.0 m r.1 r.2

          go : (n : ℕ) → n ≡ count ok cap → k ≤ n → step_ok ok next n h k ≡ false → FineTo ok next h k → (o : Option ℕ) → met_at next h k ≡ o
              → Wrong ok next cap h k
          go n d l t f none m =
              let z = eqb-false k n (sym (step_none n k m) ∙ t) in
              let r = fine_missing ok next cap below h k f (omega arith) in
              missing r.0 m r.1 r.2 r.3
          go n d l t f (some x) m = met x m (ok x) refl (sym (step_some n k x m) ∙ t)

      -- and it does so at no other step
      pub wrong_only : (k : ℕ) → WrongAt ok next cap h k → wrong_step ok next cap h ≡ some k
      unfolding wrong_step
      wrong_only k w =
          let n = count ok cap in
          let l = fine_few ok next cap below h k w.fine in
          first_some (step_ok ok next n h) (n + 1) 0 k (omega arith) (omega arith) (go n refl w.wrong) (λ i _ b. fine_steps n k w.fine i b)
        where
          go : (n : ℕ) → n ≡ count ok cap → Wrong ok next cap h k → step_ok ok next n h k ≡ false
          go n d (missing x m l o a) =
              step_none n k m
              ∙ ne_eqb k n
              (λ e.
              let r = fine_all ok next cap below h k w.fine (e ∙ d) x o in
              a r.0 r.1 r.2)
          go n d (stranger x m o) = step_some n k x m ∙ rw o
          go n d (again x j m l q) = step_some n k x m ∙ rw (true_ref (ref_before next k h x) (j, l, q)) (no (ok x))
            where
              no : (b : Bool) → (b && false) ≡ false
              no true = refl
              no false = refl

-- where the same numbers pass, and those have the same links, a chain goes wrong at the same step
module _ (ok ok' : ℕ → Bool) (next next' : ℕ → Option ℕ) (a : (y : ℕ) → ok y ≡ ok' y) (b : (y : ℕ) → ok y ≡ true → next y ≡ next' y) where
  met_same : (k : ℕ) (h : Option ℕ) → ((j : ℕ) → j < k → (x : ℕ) × (met_at next h j ≡ some x) × (ok x ≡ true)) → met_at next h k ≡ met_at next' h k
  unfolding met_at
  met_same zero h f = refl
  met_same (suc k) none f = refl
  met_same (suc k) (some x) f =
      let q = f 0 (omega arith) in
      let e : q.0 ≡ x = cc in
      met_same k (next x) (λ j l. f (suc j) (omega arith)) ∙ ap (λ (m : Option ℕ). met_at next' m k) (b x (ap ok (sym e) ∙ q.2))

  module _ (cap : ℕ) (below : (x : ℕ) → ok x ≡ true → x < cap) (h : Option ℕ) where
    below' : (x : ℕ) → ok' x ≡ true → x < cap
    below' x e = below x (a x ∙ e)

    at_same : (k : ℕ) → WrongAt ok next cap h k → WrongAt ok' next' cap h k
    at_same k w = record {
      fine = record {
        passes = λ j l.
            let q = w.fine.passes j l in
            (q.0, sym (same j (omega arith)) ∙ q.1, sym (a q.0) ∙ q.2);
        apart = λ i j x l m p q. w.fine.apart i j x l m (same i (omega arith) ∙ p) (same j (omega arith) ∙ q);
      };
      wrong = go w.wrong;
    }
      where
        same : (j : ℕ) → j ≤ k → met_at next h j ≡ met_at next' h j
        same j l = met_same j h (λ i m. w.fine.passes i (omega arith))

        go : Wrong ok next cap h k → Wrong ok' next' cap h k
        go (missing x m l o n) = missing x (sym (same k (omega arith)) ∙ m) l (sym (a x) ∙ o) (λ j l q. n j l (same j (omega arith) ∙ q))
        go (stranger x m o) = stranger x (sym (same k (omega arith)) ∙ m) (sym (a x) ∙ o)
        go (again x j m l q) = again x j (sym (same k (omega arith)) ∙ m) l (sym (same j (omega arith)) ∙ q)

    pub wrong_same : wrong_step ok next cap h ≡ wrong_step ok' next' cap h
    wrong_same = go (wrong_step ok next cap h) refl (wrong_step ok' next' cap h) refl
      where
        both : clear (wrong_step ok next cap h) ≡ clear (wrong_step ok' next' cap h)
        both = wrong_none ok next h cap below ∙ chain_same ok ok' next next' a b cap h ∙ sym (wrong_none ok' next' h cap below')

        go : (o : Option ℕ) → wrong_step ok next cap h ≡ o → (o' : Option ℕ) → wrong_step ok' next' cap h ≡ o' → o ≡ o'
        go none e none e' = refl
        go none e (some k) e' = true_false (sym both ∙ ap clear e) (ap clear e')
        go (some k) e o' e' = sym (wrong_only ok' next' h cap below' k (at_same k (wrong_at ok next h cap below k e))) ∙ e'
