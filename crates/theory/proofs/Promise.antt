-- When a promise leaves no second answer, and when a reading of answers tells them apart.
-- Assumes nothing.
use mathlib.Core.Path.{◌≡◌, sym, ap, ◌∙◌}
use Rattle.theory.specs.Promise.{NoSecond, TellsApart}

-- a promise that the answer, as it is read, is what a rule gives leaves no second answer where the reading tells answers apart
pub by_rule : {Q A B : Type 0} (said : A → B) (rule : Q → B) → TellsApart said → NoSecond (λ (q : Q) (r : A). said r ≡ rule q)
by_rule said rule apart q r s p p' = apart r s (p ∙ sym p')

-- an answer that is its own reading
pub plain_apart : {A : Type 0} → TellsApart (λ (r : A). r)
plain_apart r s e = e

-- a reading that can be undone tells answers apart
pub undone_apart : {A B : Type 0} (said : A → B) (back : B → A) → ((r : A) → back (said r) ≡ r) → TellsApart said
undone_apart said back e r s p = sym (e r) ∙ ap back p ∙ e s
