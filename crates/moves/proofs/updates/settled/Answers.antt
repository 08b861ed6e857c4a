-- By whose place it is, the heap, the timer and the head of the list are those of `settled_of`.
-- Assumes nothing.
use mathlib.Core.Path.{◌≡◌, refl, sym}
use native.Mathlib.Omega.{arith}
use borrow.Author.Rules.{rules}
use lib.ListN.{length}
use Rattle.theory.proofs.Stores.{unmapped}
use Rattle.heap.specs.Capacity.{cap}
use Rattle.state.specs.State.{timer_at}
use Rattle.moves.proofs.DrainLaws.{dropped_sound, settled_by_lem, settled_live, settled_idle, settled_out}
use Rattle.moves.proofs.updates.settled.Goals as goal

pub returns-then-p-ge-CAP : goal.returns-then-p-ge-CAP
returns-then-p-ge-CAP c =
    let s = c.args.s in
    let n : length s.timers ≡ cap = search (rules, unmapped) in
    sym (settled_out s c.args.place.0 (omega arith))

pub push_sound-pushed-requires : goal.push_sound-pushed-requires
push_sound-pushed-requires c =
    rw c.dropped.ensures (dropped_sound c.args.s.heap c.requires (timer_at c.args.s c.args.place.0).held)

pub returns-in-Live : goal.returns-in-Live
returns-in-Live c =
    let a = c.args in
    rw (c.held_by.ensures, c.after-s.ensures, c.in-Live.is)
    (sym (settled_live a.s a.place.0 c.in-Live.is c.dropped.ensures c.generation.ensures c.push_sound-pushed.ensures))

pub returns-in-Cancelled : goal.returns-in-Cancelled
returns-in-Cancelled c =
    let a = c.args in
    rw (c.dropped-s.ensures, c.freed.ensures, c.after-s.ensures) (sym (settled_by_lem a.s a.place.0 c.in-Cancelled.is))

pub returns-in-Free : goal.returns-in-Free
returns-in-Free c =
    let a = c.args in
    rw c.after-s.ensures (sym (settled_idle a.s a.place.0 (timer_at a.s a.place.0).life refl (search rules)))
