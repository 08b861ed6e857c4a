-- `consistent` is right: it says yes exactly where no fault is found.
-- Assumes nothing.
use mathlib.Core.Path.{◌≡◌, refl, ap, ◌∙◌}
use Rattle.std.specs.Prelude.{Result, Ok, Err, is_ok, ⊤}
use Rattle.theory.specs.Chain.{clear}
use Rattle.refusals.specs.declared.fault.Fault.{Fault}
use Rattle.refusals.specs.Faults.{said_verdict}
use Rattle.heap.specs.Faults.{consistent_of}
use Rattle.heap.proofs.consistent.Goals as goal

clear_said : (r : Result ⊤ Fault) → is_ok r ≡ clear (said_verdict r)
clear_said (Ok u) = refl
clear_said (Err f) = refl

pub returns : goal.returns
unfolding consistent_of
returns c = c.is_ok.ensures.value ∙ clear_said c.first_fault.result ∙ ap clear c.first_fault.ensures
