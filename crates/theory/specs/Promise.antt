-- What it means that a promise leaves no second answer. A promise is a predicate of what was asked and what was answered; the
-- `ensures` of a public function cites one. Where a call has several arguments, what was asked is the tuple of them.
-- Assumes nothing.
use Rattle.std.specs.Prelude.{◌≡◌}

-- two answers that meet the promise for the same question are one answer
abbrev pub NoSecond : {Q A : Type 0} → (Q → A → Type 0) → Type 0
NoSecond {Q} {A} P = (q : Q) (r s : A) → P q r → P q s → r ≡ s

-- a reading of answers gives no two of them the same value
abbrev pub TellsApart : {A B : Type 0} → (A → B) → Type 0
TellsApart {A} said = (r s : A) → said r ≡ said s → r ≡ s
