-- The reset in the set that was read, whose set is written back.
-- Assumes nothing.
use mathlib.Core.Path.{refl, ap, ◌∙◌}
use mathlib.Core.List.{[]}
use borrow.Author.Rules.{rules}
use Rattle.state.specs.declared.Handle.{Handle}
use Rattle.timers.specs.declared.Call.TheVariants as C
use Rattle.timers.specs.Calls.{reset_of, step}
use Rattle.host.specs.Numbers.{handle_from}
use Rattle.host.specs.Calls.{reset_on}
use Rattle.host.proofs.Calling.{call_barred, call_left, bytes}
use Rattle.host.proofs.reset.Goals as goal

pub returns-in_err-found : goal.returns-in_err-found
unfolding reset_on
returns-in_err-found c =
    let a = c.args in
    call_barred a.image.now (λ s. reset_of s (handle_from a.handle) a.deadline) c.read-found.result c.read-found.ensures c.in_err-found.field-0.0 c.in_err-found.was (search rules)

pub returns : goal.returns
unfolding reset_on step
returns c =
    let a = c.args in
    let r = c.read-found.result in
    call_left a.image.now r (bytes (λ j. search rules)) c.read-found.ensures c.in_ok-found.was (C.Reset (handle_from a.handle) a.deadline) [] c.reset.result
    (c.reset.ensures ∙ ap (λ (h : Handle). reset_of r.state h a.deadline) c.handle_from.ensures) c.ended.ensures
    (λ s. reset_of s (handle_from a.handle) a.deadline) refl
