-- `fault::count_fault` is right: the three tests of the rule are made in its order.
-- Assumes nothing.
use mathlib.Core.Path.{sym, ◌∙◌}
use borrow.Author.Tests.{le-leb, lt-leb, eq-eqb, ne_eqb}
use Rattle.heap.specs.Faults.{count_ok, count_fault}
use Rattle.heap.proofs.fault.count_fault.Goals as goal
use Rattle.heap.proofs.fault.count_fault.Goals.{else-h-le-CAP-via-then-h-le-CAP+then-h-le-CAP-2+else-full_count-h, else-h-le-CAP-via-then-h-le-CAP+else-h-le-CAP-2, else-h-le-CAP-via-else-h-le-CAP}

pub returns-then-full_count-h : goal.returns-then-full_count-h
unfolding count_fault count_ok
returns-then-full_count-h c =
    simp (le-leb _ _ c.if-h-le-CAP.true, le-leb _ _ c.if-h-le-CAP-2.true, eq-eqb _ _ (sym c.full_count.ensures ∙ c.if-full_count-h.true))

pub returns-else-h-le-CAP : goal.returns-else-h-le-CAP
unfolding count_fault count_ok
returns-else-h-le-CAP c =
    elim c.else-h-le-CAP.branch [
      | else-h-le-CAP-via-then-h-le-CAP+then-h-le-CAP-2+else-full_count-h w ↦
          simp
          (le-leb _ _ w.if-h-le-CAP.true, le-leb _ _ w.if-h-le-CAP-2.true, ne_eqb _ _ (λ e. w.if-full_count-h.false (w.full_count.ensures ∙ e)))
      | else-h-le-CAP-via-then-h-le-CAP+else-h-le-CAP-2 w ↦ simp (le-leb _ _ w.if-h-le-CAP.true, lt-leb _ _ w.if-h-le-CAP-2.false)
      | else-h-le-CAP-via-else-h-le-CAP w ↦ simp (lt-leb _ _ w.if-h-le-CAP.false)
    ]
