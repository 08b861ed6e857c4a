-- A set that is let through is sound, and its heap is so after the drain too, so that its entries may be popped; the list is long
-- enough. Else the call is refused and the list is as it was.
-- Assumes nothing.
use mathlib.Core.Path.{ap}
use native.Mathlib.Omega.{arith}
use borrow.Author.Rules.{rules}
use Rattle.theory.proofs.Stores.{unmapped}
use Rattle.heap.specs.Capacity.{cap}
use Rattle.moves.proofs.DrainLaws.{drained_heap}
use Rattle.timers.specs.Calls.{open_of, guarded, turn_of, told}
use Rattle.timers.proofs.Guarding.{opened_sound, passed_both}
use Rattle.timers.proofs.Lending.{turned_away, too_short}
use Rattle.timers.proofs.turn.Goals as goal

pub returns-in-Err : goal.returns-in-Err
unfolding turn_of
returns-in-Err c = let a = c.args in turned_away a.s a.list.now _ _ c.kept.result c.in-Err.ensures (ap told c.kept.ensures)

pub returns-then-list-lt-CAP : goal.returns-then-list-lt-CAP
unfolding turn_of
returns-then-list-lt-CAP c =
    let a = c.args in
    let k = c.kept-then-list-lt-CAP in
    too_short a.s a.list.now _ k.result (passed_both a.s c.in_default.ensures) c.if-list-lt-CAP.true (ap told k.ensures)

pub drained-requires : goal.drained-requires
drained-requires c = opened_sound c.args.s (search (rules, unmapped)) (search (rules, unmapped)) c.in_default.ensures

pub advanced-reported-requires-clause-sound : goal.advanced-reported-requires-clause-sound
advanced-reported-requires-clause-sound c =
    rw c.drained.ensures
    (drained_heap cap c.args.s (opened_sound c.args.s (search (rules, unmapped)) (search (rules, unmapped)) c.in_default.ensures))

pub returns : goal.returns
unfolding open_of guarded turn_of
returns c = grind arith
