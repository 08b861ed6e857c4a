-- Worked rows: chains among the numbers below 8, and the step at which each goes wrong.
-- Assumes nothing.
use Rattle.std.specs.Prelude.{◌≡◌, List, [], ◌∷◌, ℕ, ltb, get_or}
use Rattle.std.proofs.Math.Option.{Option, none, some}
use Rattle.theory.specs.WrongStep.{wrong_step}

-- where the numbers below n belong to the chain, its head is h, and number i names the i-th of the list
unfoldable pub step : ℕ → List (Option ℕ) → Option ℕ → Option ℕ
step n links h = wrong_step (λ x. ltb x n) (λ x. get_or links x none) 8 h

-- each row as an equation
pub record Rows : Type 0 where
  -- three belong, 0 names 1 and 1 names 0: at step 2 it meets 0 again
  pub early_loop : step 3 (some 1 ∷ some 0 ∷ none ∷ []) (some 0) ≡ some 2
  -- 0, 1, 2 and 0 again
  pub late_loop : step 3 (some 1 ∷ some 2 ∷ some 0 ∷ []) (some 0) ≡ some 3
  -- the head names itself
  pub own_loop : step 2 (some 0 ∷ none ∷ []) (some 0) ≡ some 1
  -- a loop that the head is not part of: 0, 1, 2 and 1 again
  pub loop_after_head : step 4 (some 1 ∷ some 2 ∷ some 1 ∷ none ∷ []) (some 0) ≡ some 3
  -- it ends after 0 and 1, and 2 is missing
  pub too_short : step 3 (some 1 ∷ none ∷ none ∷ []) (some 0) ≡ some 2
  -- it has no head, and all are missing
  pub no_head : step 3 (none ∷ none ∷ none ∷ []) none ≡ some 0
  -- its head is out of range
  pub out_of_range : step 3 (none ∷ none ∷ none ∷ []) (some 9) ≡ some 0
  -- 0 names 5, who does not belong
  pub not_one_of_them : step 3 (some 5 ∷ some 2 ∷ none ∷ []) (some 0) ≡ some 1
  -- all were met, and it goes on to one who does not belong
  pub too_long : step 2 (some 1 ∷ some 2 ∷ none ∷ []) (some 0) ≡ some 2
  -- 2, 0, 1 and its end
  pub right : step 3 (some 1 ∷ none ∷ some 0 ∷ []) (some 2) ≡ none
  -- nobody belongs, and nobody is met
  pub empty : step 0 [] none ≡ none
