-- A reading that was refused leaves the clock as it was, and is the answer.
-- Assumes nothing.
use mathlib.Core.Path.{◌≡◌, refl}
use Rattle.refusals.specs.declared.Refusal.{Refusal}
use Rattle.refusals.specs.Answer.{Answer, refuse, kept, Nothing}
use Rattle.refusals.proofs.Refusing.{any_refusal}
use Rattle.clock.specs.declared.Clock.{Clock}
use Rattle.clock.specs.Rules.{paused_at}

pub as_refused : (c : Clock) (why : Refusal) → paused_at c (refuse why) ≡ kept c (refuse why)
as_refused c why = any_refusal (paused_at c) (λ (a : Answer Nothing). kept c a) (λ n. refl) (λ x. refl) why
