-- The length and the bits first, then the fault, and else the set.
-- Assumes nothing.
use mathlib.Core.Path.{sym, ap, ◌∙◌}
use mathlib.Core.Bool.{true, false, ◌&&◌}
use mathlib.Core.Option.{none, some}
use Rattle.refusals.specs.Answer.{done}
use Rattle.refusals.specs.Faults.{said_verdict}
use Rattle.state.specs.Faults.{fault_of}
use Rattle.image.specs.Image.{spare_clear, fields_in, set_from}
use Rattle.image.specs.Calls.{told_reading}
use Rattle.image.proofs.Calling.{fine_by, long_unfine, read_unfine, read_by_lem}
use Rattle.image.proofs.Rows.{passed, not_passed}
use Rattle.image.proofs.read.Goals as goal

pub returns-then-bytes-ne-SIZE : goal.returns-then-bytes-ne-SIZE
returns-then-bytes-ne-SIZE c =
    let l = c.args.bytes.now in
    c.refused.ensures ∙ read_unfine l (long_unfine l c.if-bytes-ne-SIZE.true)

pub returns-in_default : goal.returns-in_default
returns-in_default c =
    let l = c.args.bytes.now in
    c.refused-in_default.ensures
    ∙ read_unfine l (fine_by l false c.if-bytes-ne-SIZE.false (not_passed _ _ (sym c.in_default.is ∙ c.set_at.ensures)))

pub returns-in-Err : goal.returns-in-Err
returns-in-Err c =
    let l = c.args.bytes.now in
    let p = passed (spare_clear l && fields_in l) c.in-Some.set (set_from l) c.in-Some.ensures in
    c.refused-in-Err.ensures
    ∙ read_by_lem l (some c.in-Err.fault) (fine_by l true c.if-bytes-ne-SIZE.false p.0)
    (sym (ap said_verdict c.in-Err.is) ∙ c.first_fault.ensures ∙ ap fault_of p.1)

pub returns : goal.returns
returns c =
    let l = c.args.bytes.now in
    let p = passed (spare_clear l && fields_in l) c.in-Some.set (set_from l) c.in-Some.ensures in
    ap told_reading c.given.ensures
    ∙ (λ k. done (p.1 k))
    ∙ read_by_lem l none (fine_by l true c.if-bytes-ne-SIZE.false p.0)
    (sym (ap said_verdict c.in_default-first_fault.is) ∙ c.first_fault.ensures ∙ ap fault_of p.1)
