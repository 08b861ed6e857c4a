-- A set that is let through is sound, so that its entries may be popped, and the list is long enough; else the call is refused and
-- the list is as it was.
-- Assumes nothing.
use mathlib.Core.Path.{ap, ◌∙◌}
use borrow.Author.Rules.{rules}
use Rattle.theory.proofs.Stores.{unmapped}
use Rattle.timers.specs.Calls.{rang, advance_of, told}
use Rattle.timers.proofs.Guarding.{opened_sound, passed_both}
use Rattle.timers.proofs.Lending.{turned_away, too_short, long_enough}
use Rattle.timers.proofs.advance.Goals as goal

pub returns-in-Err : goal.returns-in-Err
unfolding advance_of
returns-in-Err c = let a = c.args in turned_away a.s a.list.now _ _ c.kept.result c.in-Err.ensures (ap told c.kept.ensures)

pub returns-then-list-lt-CAP : goal.returns-then-list-lt-CAP
unfolding advance_of
returns-then-list-lt-CAP c =
    let a = c.args in
    let k = c.kept-then-list-lt-CAP in
    too_short a.s a.list.now _ k.result (passed_both a.s c.in_default.ensures) c.if-list-lt-CAP.true (ap told k.ensures)

pub advanced-reported-requires-clause-sound : goal.advanced-reported-requires-clause-sound
advanced-reported-requires-clause-sound c = opened_sound c.args.s (search (rules, unmapped)) (search (rules, unmapped)) c.in_default.ensures

pub returns : goal.returns
unfolding advance_of
returns c =
    let a = c.args in
    rw c.given.ensures
    (ap rang c.advanced-reported.ensures
    ∙ long_enough a.s a.list.now _ (passed_both a.s c.in_default.ensures) c.if-list-lt-CAP.false)
