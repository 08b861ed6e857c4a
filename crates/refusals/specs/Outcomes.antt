-- What the code hands back of a call on a state, read in the terms of the rules.
-- Assumes nothing.
use Rattle.std.specs.Prelude.{◌≡◌, Result, Ok, Err}
use Rattle.refusals.specs.declared.Refusal.{Refusal}
use Rattle.refusals.specs.declared.outcome.Outcome as Code
use Rattle.refusals.specs.Answer.{Answer, accepted, refuse, Outcome}

-- what a result says, whose values are read by f
abbrev pub said_by : {A B : Type 0} → (A → B) → Result A Refusal → Answer B
said_by f (Ok v) = accepted (f v)
said_by f (Err r) = refuse r

-- the state that is handed back, and what is answered
abbrev pub told_by : {S A B : Type 0} → (A → B) → Code.Outcome S A → Outcome S B
told_by f r = record { state = r.state; answer = said_by f r.answer }

-- `given` and `kept` answer r
abbrev pub Gives : {S A : Type 0} → S → A → Code.Outcome S A → Type 0
Gives s v r = r ≡ record { state = s; answer = Ok v }

abbrev pub Keeps : {S A : Type 0} → S → Refusal → Code.Outcome S A → Type 0
Keeps s why r = r ≡ record { state = s; answer = Err why }
