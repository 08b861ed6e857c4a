-- While there is room the free head is a slot of the slab, so each step of the push is in range, and together they are `push_sound`.
-- Assumes nothing.
use borrow.Author.Tests.{lt-ltb, le-ltb}
use Rattle.heap.specs.Rules.{taken_of, added_of, pushed_of}
use Rattle.heap.specs.Calls.{push_sound}
use Rattle.heap.proofs.Walking.Laws.{slots_in_taken, slots_in_added}
use Rattle.heap.proofs.Soundness.SoundFacts.{slots_in_range, free_in}
use Rattle.heap.proofs.push_sound.Goals as goal

pub returns-then-n-ge-CAP : goal.returns-then-n-ge-CAP
unfolding push_sound
returns-then-n-ge-CAP c = rw (c.kept.ensures, le-ltb _ _ c.if-n-ge-CAP.true)

pub taken-w-requires : goal.taken-w-requires
taken-w-requires c = (c.requires.made_in, free_in _ c.requires c.if-n-ge-CAP.false)

-- the heap in which the new entry is to stand last
pub percolate_up-swaps-requires-clause-slots_in : goal.percolate_up-swaps-requires-clause-slots_in
unfolding added_of taken_of
percolate_up-swaps-requires-clause-slots_in c = let h = c.args.h in
    let l = c.if-n-ge-CAP.false in rw c.taken-w.ensures (slots_in_added (taken_of h) _ l (free_in h c.requires l) (slots_in_taken h (slots_in_range h c.requires)))

pub returns : goal.returns
unfolding push_sound pushed_of added_of taken_of
returns c =
    rw (c.given.ensures, lt-ltb _ _ c.if-n-ge-CAP.false, c.percolate_up-swaps.ensures, c.taken-w.ensures)
