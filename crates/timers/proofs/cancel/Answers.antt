-- A live timer is touched as a cancelled one, with its word.
-- Assumes nothing.
use mathlib.Core.Path.{sym}
use Rattle.timers.specs.Calls.{cancel_of}
use Rattle.timers.proofs.Guarding.{door_lets}
use Rattle.timers.proofs.Alive.{live_place, door_stops}
use Rattle.timers.proofs.cancel.Goals as goal

pub touched-requires : goal.touched-requires
touched-requires c = live_place _ _ _ c.in-Ok.ensures

pub returns : goal.returns
unfolding cancel_of
returns c = rw (c.given.ensures, c.touched.ensures) (sym (door_lets _ _ _ _ c.in-Ok.ensures))

pub returns-in-Err : goal.returns-in-Err
unfolding cancel_of
returns-in-Err c = rw c.kept.ensures (sym (door_stops _ _ _ _ _ c.in-Err.ensures))
