-- `fault::list_scan` is right: it marks each place that it meets, and as long as every timer there waits and was not marked the list
-- goes wrong at no step behind it. There are as many to meet as wait, which its caller has counted; once all were met, whatever comes
-- is out of range, does not wait or was met before.
-- Assumes nothing.
use mathlib.Core.Path.{sym, ◌∙◌}
use native.Mathlib.Omega.{arith}
use borrow.Author.Rules.{rules}
use Rattle.state.proofs.ListLaws.{list_starts, list_short, list_past, list_again, list_still, list_goes, list_ended}
use Rattle.state.proofs.fault.list_scan.Goals as goal

pub loop-step-init : goal.loop-step-init
loop-step-init c = list_starts c.args.s c.requires

pub returns-in_default : goal.returns-in_default
returns-in_default c = list_short c.args.s c.loop-step.invariant (omega arith) c.in_default.is

pub returns-then-p-ge-CAP : goal.returns-then-p-ge-CAP
returns-then-p-ge-CAP c =
    let s = c.args.s in
    let w = c.loop-step.invariant in
    grind (arith, list_past s w c.in-Some.is, list_again s w c.in-Some.is, list_still s w c.in-Some.is)

pub loop-step-preserved : goal.loop-step-preserved
loop-step-preserved c =
    list_goes c.args.s c.loop-step.invariant (omega arith) c.in-Some.is c.if-p-ge-CAP.false c.if-met-p.false
    (sym c.waits.ensures ∙ c.if-not-waits.false) c.after-at.ensures

pub returns : goal.returns
returns c = list_ended c.args.s c.loop-step.invariant _ (omega arith) (search rules)
