-- A set that is let through is sound, so that it may be closed; one that is not is refused as the rule says.
-- Assumes nothing.
use mathlib.Core.Path.{sym}
use native.Mathlib.Omega.{arith}
use borrow.Author.Rules.{rules}
use Rattle.theory.proofs.Stores.{unmapped}
use Rattle.timers.specs.Calls.{open_of, guarded, close_of}
use Rattle.timers.proofs.Guarding.{opened_sound, stopped_both}
use Rattle.timers.proofs.close.Goals as goal

pub closed-requires : goal.closed-requires
closed-requires c = opened_sound c.args.s (search (rules, unmapped)) (search (rules, unmapped)) c.in_default.ensures

pub returns : goal.returns
unfolding open_of guarded close_of
returns c = grind arith

pub returns-in-Err : goal.returns-in-Err
unfolding close_of
returns-in-Err c = rw c.kept.ensures (sym (stopped_both _ _ c.in-Err.ensures _ _))
