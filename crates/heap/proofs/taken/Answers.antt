-- By whether the free head equals the number of slots, and by what its slot is, the answer is `taken_of`.
-- Assumes nothing.
use borrow.Author.Tests.{eq-eqb, ne_eqb}
use Rattle.heap.specs.Rules.{taken_of}
use Rattle.heap.proofs.taken.Goals as goal

pub returns-then-s-h : goal.returns-then-s-h
unfolding taken_of
returns-then-s-h c = simp (eq-eqb _ _ c.if-s-h.true)

pub returns-in-Empty : goal.returns-in-Empty
unfolding taken_of
returns-in-Empty c = simp (ne_eqb _ _ c.if-s-h.false, c.in-Empty.is)

pub returns-in_default : goal.returns-in_default
unfolding taken_of
returns-in_default c = simp (ne_eqb _ _ c.if-s-h.false, c.in_default.is)
