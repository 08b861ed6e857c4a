-- A live timer that has fired answers its deadline and is reset to what the interval's rule says, or refused as that is.
-- Assumes nothing.
use mathlib.Core.Path.{sym, ◌∙◌}
use native.Mathlib.Omega.{arith}
use Rattle.refusals.proofs.Refusing.{not_both}
use Rattle.timers.specs.Calls.{guarded, door_of, tick_at}
use Rattle.timers.proofs.Guarding.{door_lets}
use Rattle.timers.proofs.Alive.{live_place, door_stops}
use Rattle.timers.proofs.tick.Goals as goal

pub returns-in-Err : goal.returns-in-Err
unfolding tick_at
returns-in-Err c = rw c.kept.ensures (sym (door_stops _ _ _ _ _ c.in-Err.ensures))

pub returns-then-not-fired : goal.returns-then-not-fired
unfolding guarded door_of tick_at
returns-then-not-fired c = grind arith

pub touched-requires : goal.touched-requires
touched-requires c = live_place _ _ _ c.in-Ok.ensures

pub returns : goal.returns
unfolding tick_at
returns c =
    rw (c.given.ensures, c.touched.ensures, c.reset_to.ensures)
    (sym (door_lets _ _ _ _ c.in-Ok.ensures ∙ rw (sym c.fired.ensures ∙ c.if-not-fired.false, sym c.in-Ok-next_deadline.ensures)))

pub returns-in-Err-next_deadline : goal.returns-in-Err-next_deadline
unfolding guarded door_of tick_at
returns-in-Err-next_deadline c = grind (arith, not_both)
