-- What is answered of bytes by the two tests that they pass or do not.
-- Assumes nothing.
use mathlib.Core.Path.{◌≡◌, sym, ◌∙◌}
use mathlib.Core.Bool.{Bool, true, false, cond, ◌&&◌}
use mathlib.Core.Logic.{◌⊎◌, ⊎_elim}
use Rattle.std.specs.Prelude.{Result, Ok, Err}

module _ {A : Type 0} (a b : Bool) (y : A) {s t : Bool} {x : A} where
  pub both_pass : s ≡ true → t ≡ true → s ≡ a → t ≡ b → x ≡ y → ◌≡◌ {A = Result A A} (Ok x) (cond (a && b) (Ok y) (Err y))
  both_pass p q u v e = (λ k. Ok (e k)) ∙ (λ k. cond (sym (sym u ∙ p) k && sym (sym v ∙ q) k) (Ok y) (Err y))

  pub one_fails : ((s ≡ true) × (t ≡ false)) ⊎ (s ≡ false) → s ≡ a → t ≡ b → x ≡ y → ◌≡◌ {A = Result A A} (Err x) (cond (a && b) (Ok y) (Err y))
  one_fails w u v e =
      let n : (a && b) ≡ false = ⊎_elim (λ z. λ k. (sym u ∙ z.0) k && (sym v ∙ z.1) k) (λ z. λ k. (sym u ∙ z) k && b) w in
      (λ k. Err (e k)) ∙ (λ k. cond (sym n k) (Ok y) (Err y))
