-- A live timer is reset to what the interval's rule says, fired or not, or refused as that is.
-- Assumes nothing.
use mathlib.Core.Path.{sym}
use native.Mathlib.Omega.{arith}
use Rattle.refusals.proofs.Refusing.{not_both}
use Rattle.timers.specs.Calls.{guarded, door_of, restart_at}
use Rattle.timers.proofs.Alive.{live_place, door_stops}
use Rattle.timers.proofs.restart.Goals as goal

pub touched-requires : goal.touched-requires
touched-requires c = live_place _ _ _ c.in-Ok.ensures

pub returns : goal.returns
unfolding guarded door_of restart_at
returns c = grind arith

pub returns-in-Err-restarted : goal.returns-in-Err-restarted
unfolding guarded door_of restart_at
returns-in-Err-restarted c = grind (arith, not_both)

pub returns-in-Err : goal.returns-in-Err
unfolding restart_at
returns-in-Err c = rw c.kept.ensures (sym (door_stops _ _ _ _ _ c.in-Err.ensures))
