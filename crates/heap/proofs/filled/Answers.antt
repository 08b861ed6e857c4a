-- By whether the hole was last, and by how the last entry compares with the removed one, the answer is `filled_of`; the entry that
-- moves keeps its slot in the slab.
-- Assumes nothing.
use mathlib.Core.Bool.{true, false}
use mathlib.Core.Path.{◌≡◌, sym, ◌∙◌}
use Prim.Native.Nat.{◌-◌}
use borrow.Author.Tests.{eq-eqb, ne_eqb}
use Rattle.heap.specs.Rules.{entry_at, before, filled_of}
use Rattle.heap.proofs.Walking.Laws.{slots_in_filled}
use Rattle.heap.proofs.filled.Goals as goal

pub returns-then-p-last : goal.returns-then-p-last
unfolding filled_of
returns-then-p-last c = simp (eq-eqb _ _ c.if-p-last.true)

pub percolate_up-requires-clause-slots_in : goal.percolate_up-requires-clause-slots_in
percolate_up-requires-clause-slots_in c = slots_in_filled _ _ c.requires.pos_lt_len c.requires.slots_in

pub percolate_down-requires-clause-slots_in : goal.percolate_down-requires-clause-slots_in
percolate_down-requires-clause-slots_in c = slots_in_filled _ _ c.requires.pos_lt_len c.requires.slots_in

pub returns-then-before : goal.returns-then-before
unfolding filled_of
returns-then-before c =
    let h = c.args.h in
    let smaller : before (entry_at h (h.len - 1)) (entry_at h c.args.pos.0) ≡ true = sym c.before-else-p-last.ensures ∙ c.if-before.true in
    rw (c.percolate_up.ensures, ne_eqb _ _ c.if-p-last.false, smaller)

pub returns-else-before : goal.returns-else-before
unfolding filled_of
returns-else-before c =
    let h = c.args.h in
    let smaller : before (entry_at h (h.len - 1)) (entry_at h c.args.pos.0) ≡ false = sym c.before-else-p-last.ensures ∙ c.if-before.false in
    rw (c.percolate_down.ensures, ne_eqb _ _ c.if-p-last.false, smaller)
