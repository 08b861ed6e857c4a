-- A walk along a chain that marks whom it meets, turn by turn: at each one it knows where the chain goes wrong, or goes on.
-- Assumes nothing.
use mathlib.Core.Path.{◌≡◌, refl, sym, ◌∙◌, ap}
use mathlib.Core.Logic.{◌≢◌}
use mathlib.Core.Bool.{Bool, true, false, ◌&&◌}
use mathlib.Core.Option.{Option, none, some}
use Prim.Native.Nat.{ℕ, ◌+◌, ◌-◌, ◌<◌, ◌≤◌}
use native.Mathlib.Omega.{arith}
use borrow.Author.Tests.{eq-eqb, ne_eqb}
use Rattle.theory.specs.Counting.{count}
use Rattle.theory.specs.First.{first_bad}
use Rattle.theory.specs.WrongStep.{met_at, met_before, step_ok, wrong_step}
use Rattle.theory.proofs.Tests.{none_some}
use Rattle.theory.proofs.Order.{split}
use Rattle.theory.proofs.First.{first_goes, first_here, first_done}
use Rattle.theory.proofs.Steps.{met_next, before_here, before_there}
use Rattle.theory.proofs.WrongStep.{step_none, step_some, none_fine}

module _ (ok : ℕ → Bool) (next : ℕ → Option ℕ) (cap : ℕ) (h : Option ℕ) where
  -- after k steps the walk stands at someone or at the end, has marked whom it met, and has found nothing wrong
  pub record Walking (k : ℕ) (at : Option ℕ) (met : ℕ → Bool) : Type 0 where
    pub within : k ≤ count ok cap
    pub stands : met_at next h k ≡ at
    pub marked : (x : ℕ) → x < cap → met x ≡ met_before next h k x
    pub rest : first_bad (step_ok ok next (count ok cap) h) (count ok cap + 1 - k) k ≡ wrong_step ok next cap h

  -- it begins at the head, with nobody marked
  pub walk_starts : {met : ℕ → Bool} → ((x : ℕ) → x < cap → met x ≡ false) → Walking 0 h met
  unfolding wrong_step met_at met_before
  walk_starts f =
      let e : count ok cap + 1 - 0 ≡ count ok cap + 1 = omega arith in
      record {
        within = omega arith;
        stands = refl;
        marked = f;
        rest = ap (λ (m : ℕ). first_bad (step_ok ok next (count ok cap) h) m 0) e;
      }

  module _ {k : ℕ} {met : ℕ → Bool} where
    -- a step that is not in order is where the chain goes wrong
    here : {at : Option ℕ} → Walking k at met → step_ok ok next (count ok cap) h k ≡ false → wrong_step ok next cap h ≡ some k
    here w e =
        let l = w.within in
        sym w.rest ∙ first_here (step_ok ok next (count ok cap) h) (count ok cap + 1 - k) k (omega arith) e

    -- it has ended too soon
    pub walk_short : Walking k none met → k < count ok cap → wrong_step ok next cap h ≡ some k
    walk_short w l = here w (step_none ok next h (count ok cap) k w.stands ∙ ne_eqb k (count ok cap) (λ e. omega arith))

    module _ {x : ℕ} (w : Walking k (some x) met) where
      -- it meets one who does not pass
      pub walk_stranger : ok x ≡ false → wrong_step ok next cap h ≡ some k
      walk_stranger o = here w (step_some ok next h (count ok cap) k x w.stands ∙ rw o)

      -- it meets one who is marked
      pub walk_again : x < cap → met x ≡ true → wrong_step ok next cap h ≡ some k
      walk_again l m = here w (step_some ok next h (count ok cap) k x w.stands ∙ rw (sym (w.marked x l) ∙ m) (no (ok x)))
        where
          no : (b : Bool) → (b && false) ≡ false
          no true = refl
          no false = refl

      -- it meets one who passes and is not marked, marks him and goes on
      pub walk_goes : {met' : ℕ → Bool} → k < count ok cap → x < cap → ok x ≡ true → met x ≡ false → met' x ≡ true
          → ((y : ℕ) → y ≢ x → met' y ≡ met y) → Walking (k + 1) (next x) met'
      walk_goes {met'} l b o m t f =
          let s : step_ok ok next (count ok cap) h k ≡ true =
          step_some ok next h (count ok cap) k x w.stands ∙ rw (o, sym (w.marked x b) ∙ m) in
          let e : count ok cap + 1 - (k + 1) ≡ count ok cap + 1 - k - 1 = omega arith in
          record {
            within = omega arith;
            stands = met_next next k h w.stands;
            marked = λ y c. split y x
                (λ q. ap met' q ∙ t ∙ sym (ap (met_before next h (k + 1)) q ∙ before_here next k h w.stands))
                (λ q. f y q ∙ w.marked y c ∙ sym (before_there next k h w.stands q));
            rest = ap (λ (i : ℕ). first_bad (step_ok ok next (count ok cap) h) i (k + 1)) e
                ∙ sym (first_goes (step_ok ok next (count ok cap) h) (count ok cap + 1 - k) k (omega arith) s)
                ∙ w.rest;
          }

    module _ (z : k ≡ count ok cap) where
      -- it has met as many as pass, and has ended
      pub walk_ends : Walking k none met → wrong_step ok next cap h ≡ none
      walk_ends w =
          let s : step_ok ok next (count ok cap) h k ≡ true = step_none ok next h (count ok cap) k w.stands ∙ eq-eqb k (count ok cap) z in
          sym w.rest
          ∙ first_goes (step_ok ok next (count ok cap) h) (count ok cap + 1 - k) k (omega arith) s
          ∙ first_done (step_ok ok next (count ok cap) h) (count ok cap + 1 - k - 1) (k + 1) (omega arith)

      -- it has met as many as pass, and goes on
      pub walk_long : ((x : ℕ) → ok x ≡ true → x < cap) → {x : ℕ} → Walking k (some x) met → wrong_step ok next cap h ≡ some k
      walk_long below {x} w = go (step_ok ok next (count ok cap) h k) refl
        where
          go : (b : Bool) → step_ok ok next (count ok cap) h k ≡ b → wrong_step ok next cap h ≡ some k
          go false e = here w e
          go true e =
              let q : wrong_step ok next cap h ≡ none =
              sym w.rest
              ∙ first_goes (step_ok ok next (count ok cap) h) (count ok cap + 1 - k) k (omega arith) e
              ∙ first_done (step_ok ok next (count ok cap) h) (count ok cap + 1 - k - 1) (k + 1) (omega arith) in
              absurd (none_some (none_fine ok next h cap below q).1 (ap (met_at next h) (sym z) ∙ w.stands))
