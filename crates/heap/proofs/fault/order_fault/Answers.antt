-- `fault::order_fault` is right: at each turn the scan of the positions to go finds what the whole scan finds.
-- Assumes nothing.
use mathlib.Core.Path.{refl, sym, ◌∙◌}
use native.Mathlib.Omega.{arith}
use Rattle.refusals.specs.declared.fault.Fault.TheVariants.{Order}
use Rattle.heap.specs.Faults.{order_ok, order_fault}
use Rattle.heap.proofs.Testing.FaultLaws.{scan, scan_goes, scan_here, scan_done, order_not}
use Rattle.heap.proofs.fault.order_fault.Goals as goal

pub loop-i-init : goal.loop-i-init
unfolding scan order_fault
loop-i-init c = refl

pub returns-then-before : goal.returns-then-before
returns-then-before c =
    let h = c.args.h in
    let l = c.loop-i in
    sym (scan_here Order (order_ok h) (omega arith) (order_not h l.i (sym c.before-in-loop-i.ensures ∙ c.if-before.true))) ∙ l.invariant

pub loop-i-preserved : goal.loop-i-preserved
loop-i-preserved c =
    let h = c.args.h in
    let l = c.loop-i in
    scan_goes Order (order_ok h) (omega arith) (order_not h l.i (sym c.before-in-loop-i.ensures ∙ c.if-before.false)) ∙ l.invariant

pub returns : goal.returns
returns c = sym (scan_done Order (order_ok c.args.h) (omega arith)) ∙ c.loop-i.invariant
