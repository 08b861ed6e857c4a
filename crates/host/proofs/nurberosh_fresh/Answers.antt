-- The fresh set is sound, so that only the length can be refused.
-- Assumes nothing.
use mathlib.Core.Path.{◌≡◌, refl, ap, ◌∙◌}
use mathlib.Core.List.{List}
use Prim.Native.Nat.{ℕ}
use Rattle.std.specs.Prelude.{Result, Ok, Err, ⊤}
use Rattle.refusals.specs.declared.Refusal.{Refusal}
use Rattle.refusals.specs.Answer.{Outcome, Nothing}
use Rattle.state.specs.declared.Set.{Set}
use Rattle.image.specs.Calls.{said, write_of}
use Rattle.host.specs.Numbers.{status_of}
use Rattle.host.specs.Promises.{status_in}
use Rattle.host.proofs.Calling.{fresh_written}
use Rattle.host.proofs.nurberosh_fresh.Goals as goal

-- the status of a writing
written_status : (r : Result ⊤ Refusal) → status_in r ≡ status_of (said r)
written_status (Ok v) = refl
written_status (Err w) = refl

pub returns : goal.returns
returns c =
    let b = c.args.image.now in
    let e = c.write.ensures ∙ ap (λ (s : Set). write_of s b) c.fresh.ensures ∙ fresh_written b in
    record {
      image = ap (λ (o : Outcome (List ℕ) Nothing). o.state) e;
      status = c.status.ensures ∙ written_status c.write.result ∙ ap (λ (o : Outcome (List ℕ) Nothing). status_of o.answer) e;
    }
