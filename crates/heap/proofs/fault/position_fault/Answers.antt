-- `fault::position_fault` is right: at each turn the scan of the positions to go finds what the whole scan finds.
-- Assumes nothing.
use mathlib.Core.Path.{◌≡◌, sym, ◌∙◌}
use Prim.Native.Nat.{◌<◌}
use native.Mathlib.Nat.{sub-zero}
use native.Mathlib.Omega.{arith}
use borrow.Author.Rules.{rules}
use lib.ListN.{length}
use Rattle.std.proofs.lemmas.List.{length-take}
use Rattle.theory.proofs.Stores.{unmapped}
use Rattle.refusals.specs.declared.fault.Fault.TheVariants.{Position}
use Rattle.heap.specs.Capacity.{cap}
use Rattle.heap.specs.Faults.{position_ok, position_fault}
use Rattle.heap.proofs.AsList.Items.{items_at, items_length}
use Rattle.heap.proofs.Testing.FaultLaws.{scan, scan_goes, scan_here, scan_done, position_past, position_by}
use Rattle.heap.proofs.fault.position_fault.Goals as goal
use Rattle.heap.proofs.fault.position_fault.Goals.{then-h-s-via-then-h-s, then-h-s-via-else-h-s+then-not-names}

pub loop-i-init : goal.loop-i-init
unfolding scan position_fault
loop-i-init c = simp sub-zero

pub returns-then-h-s : goal.returns-then-h-s
returns-then-h-s c =
    let h = c.args.h in
    let l = c.loop-i in
    let b : l.i < h.len = omega (arith, length-take h.len h.entries) in
    sym (scan_here Position (position_ok h) b
    (elim c.then-h-s.branch [
      | then-h-s-via-then-h-s w ↦ position_past h l.i (rw (items_at h l.i b) at w.if-h-s.true)
      | then-h-s-via-else-h-s+then-not-names w ↦
          position_by h l.i (rw (items_at h l.i b) at w.if-h-s.false) (rw (items_at h l.i b) at (sym w.names.ensures ∙ w.if-not-names.true))
    ])) ∙ l.invariant

pub loop-i-preserved : goal.loop-i-preserved
loop-i-preserved c =
    let h = c.args.h in
    let l = c.loop-i in
    let b : l.i < h.len = omega (arith, length-take h.len h.entries) in
    scan_goes Position (position_ok h) b
    (position_by h l.i (rw (items_at h l.i b) at c.if-h-s.false) (rw (items_at h l.i b) at (sym c.names.ensures ∙ c.if-not-names.false)))
    ∙ l.invariant

pub returns : goal.returns
returns c =
    let h = c.args.h in
    let n : length h.entries ≡ cap = search (rules, unmapped) in
    sym (scan_done Position (position_ok h) (omega (arith, items_length h (omega arith)))) ∙ c.loop-i.invariant
