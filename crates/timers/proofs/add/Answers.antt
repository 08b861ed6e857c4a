-- The lowest free place, where there is one, is touched as a live timer's, and named with its use number.
-- Assumes nothing.
use mathlib.Core.Path.{sym, ap, ◌∙◌}
use Rattle.timers.specs.Calls.{added_at, add_of}
use Rattle.timers.proofs.Guarding.{opened_lets, stopped_both}
use Rattle.timers.proofs.Alive.{free_place}
use Rattle.timers.proofs.add.Goals as goal

pub returns-in-Err : goal.returns-in-Err
unfolding add_of
returns-in-Err c = rw c.kept.ensures (sym (stopped_both _ _ c.in-Err.ensures _ _))

pub returns-in_default-lowest_free : goal.returns-in_default-lowest_free
unfolding add_of
returns-in_default-lowest_free c =
    rw c.kept-in_default-lowest_free.ensures
    (sym (opened_lets _ _ _ c.in_default.ensures ∙ ap (added_at c.args.s c.args.due) (sym c.in_default-lowest_free.ensures)))

pub bounds-s-place : goal.bounds-s-place
bounds-s-place c = free_place _ c.in-Some.ensures

pub touched-requires : goal.touched-requires
touched-requires c = free_place _ c.in-Some.ensures

pub returns : goal.returns
unfolding add_of
returns c =
    rw (c.given.ensures, c.touched.ensures)
    (sym (opened_lets _ _ _ c.in_default.ensures ∙ ap (added_at c.args.s c.args.due) (sym c.in-Some.ensures)))
