-- A set that is let through has a sound heap, and the wake is its head's deadline; a closed set is asked as any other.
-- Assumes nothing.
use mathlib.Core.Path.{sym, ap, ◌∙◌}
use borrow.Author.Rules.{rules}
use Rattle.theory.proofs.Stores.{unmapped}
use Rattle.timers.specs.Calls.{gives, wake, wake_by, next_wake_of}
use Rattle.timers.proofs.Guarding.{guarded_lets, guarded_sound, stopped}
use Rattle.timers.proofs.next_wake.Goals as goal

pub peek_sound-requires : goal.peek_sound-requires
peek_sound-requires c = guarded_sound c.args.s (search (rules, unmapped)) (search (rules, unmapped)) c.in_default.ensures

pub returns-in-Some : goal.returns-in-Some
unfolding next_wake_of
returns-in-Some c =
    let s = c.args.s in
    rw c.given.ensures
    (ap (λ a. gives s (wake (wake_by a))) (rw c.in-Some.is at c.peek_sound.ensures) ∙ sym (guarded_lets s s _ c.in_default.ensures))

pub returns-in-None : goal.returns-in-None
unfolding next_wake_of
returns-in-None c =
    let s = c.args.s in
    rw c.given-in-None.ensures
    (ap (λ a. gives s (wake (wake_by a))) (rw c.in-None.is at c.peek_sound.ensures) ∙ sym (guarded_lets s s _ c.in_default.ensures))

pub returns-in-Err : goal.returns-in-Err
unfolding next_wake_of
returns-in-Err c = rw c.kept.ensures (sym (stopped _ _ c.in-Err.ensures _ _))
