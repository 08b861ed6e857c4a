-- Emptying the list leaves the heap as it is, so the heap is still sound when it is emptied; then the set is sealed.
-- Assumes nothing.
use mathlib.Core.Path.{sym, subst}
use Rattle.heap.specs.Capacity.{cap}
use Rattle.heap.specs.Sound.{Sound}
use Rattle.state.specs.declared.Set.{Set}
use Rattle.moves.specs.Rules.{closed_of}
use Rattle.moves.proofs.CloseLaws.{unlist_heap}
use Rattle.moves.proofs.shut.closed.Goals as goal

pub emptied-requires : goal.emptied-requires
emptied-requires c =
    subst (λ (g : Set). Sound g.heap) (sym c.unlisted.ensures) (rw (unlist_heap cap c.args.s) c.requires)

pub returns : goal.returns
unfolding closed_of
returns c = rw (c.emptied.ensures, c.unlisted.ensures)
