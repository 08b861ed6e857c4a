-- `fault::full_count` is right: after some slots the number is the count of the full ones among them.
-- Assumes nothing.
use mathlib.Core.Path.{refl, sym, ◌∙◌}
use Prim.Native.Nat.{◌<◌}
use native.Mathlib.Omega.{arith}
use Rattle.std.proofs.lemmas.List.{length-take}
use Rattle.theory.specs.Counting.{count}
use Rattle.theory.proofs.Counting.{count_yes, count_no, count_le}
use Rattle.heap.specs.Faults.{full_at}
use Rattle.heap.proofs.Testing.FaultLaws.{full_by}
use Rattle.heap.proofs.fault.full_count.Goals as goal
use Rattle.heap.proofs.fault.full_count.Goals.{then-is_full, else-is_full}

pub loop-slot-init : goal.loop-slot-init
unfolding count
loop-slot-init c = refl

pub overflow_add-n : goal.overflow_add-n
overflow_add-n c = omega (arith, count_le (full_at c.args.h) c.loop-slot.slot-index, length-take c.args.h.made c.args.h.slots)

pub loop-slot-preserved : goal.loop-slot-preserved
loop-slot-preserved c =
    let h = c.args.h in
    let l = c.loop-slot in
    let b : l.slot-index < h.made = omega (arith, length-take h.made h.slots) in
    elim c.if-is_full.branch [
      | then-is_full w ↦ omega (arith, w.n-is, count_yes (full_at h) l.slot-index (full_by h h.made l.slot-index b (sym c.is_full.ensures ∙ w.if-is_full.true)))
      | else-is_full w ↦ omega (arith, w.n-is, count_no (full_at h) l.slot-index (full_by h h.made l.slot-index b (sym c.is_full.ensures ∙ w.if-is_full.false)))
    ]
