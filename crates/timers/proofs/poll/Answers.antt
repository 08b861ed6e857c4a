-- A poll answers what the word of the named timer says, of a closed set too.
-- Assumes nothing.
use mathlib.Core.Bool.{false}
use mathlib.Core.Path.{sym}
use Rattle.timers.specs.Calls.{poll_of}
use Rattle.timers.proofs.Guarding.{door_lets}
use Rattle.timers.proofs.Alive.{door_stops}
use Rattle.timers.proofs.poll.Goals as goal

pub returns : goal.returns
unfolding poll_of
returns c = rw (c.given.ensures, c.poll.ensures) (sym (door_lets false _ _ _ c.in-Ok.ensures))

pub returns-in-Err : goal.returns-in-Err
unfolding poll_of
returns-in-Err c = rw c.kept.ensures (sym (door_stops false _ _ _ _ c.in-Err.ensures))
