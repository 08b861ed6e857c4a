-- A set that is let through is sound, so that the updates may be made; one that is not is refused as the rule says.
-- Assumes nothing.
use mathlib.Core.Path.{sym}
use native.Mathlib.Omega.{arith}
use borrow.Author.Rules.{rules}
use Rattle.theory.proofs.Stores.{unmapped}
use Rattle.timers.specs.Calls.{open_of, guarded, drain_of}
use Rattle.timers.proofs.Guarding.{opened_sound, stopped_both}
use Rattle.timers.proofs.drain.Goals as goal

pub drained-requires : goal.drained-requires
drained-requires c = opened_sound c.args.s (search (rules, unmapped)) (search (rules, unmapped)) c.in_default.ensures

pub returns : goal.returns
unfolding open_of guarded drain_of
returns c = grind arith

pub returns-in-Err : goal.returns-in-Err
unfolding drain_of
returns-in-Err c = rw c.kept.ensures (sym (stopped_both _ _ c.in-Err.ensures _ _))
