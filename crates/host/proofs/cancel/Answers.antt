-- The cancel in the set that was read, whose set is written back.
-- Assumes nothing.
use mathlib.Core.Path.{refl, ap, ◌∙◌}
use mathlib.Core.List.{[]}
use borrow.Author.Rules.{rules}
use Rattle.state.specs.declared.Handle.{Handle}
use Rattle.timers.specs.declared.Call.TheVariants as C
use Rattle.timers.specs.Calls.{cancel_of, step}
use Rattle.host.specs.Numbers.{handle_from}
use Rattle.host.specs.Calls.{cancel_on}
use Rattle.host.proofs.Calling.{call_barred, call_left, bytes}
use Rattle.host.proofs.cancel.Goals as goal

pub returns-in_err-found : goal.returns-in_err-found
unfolding cancel_on
returns-in_err-found c =
    let a = c.args in
    call_barred a.image.now (λ s. cancel_of s (handle_from a.handle)) c.read-found.result c.read-found.ensures c.in_err-found.field-0.0 c.in_err-found.was (search rules)

pub returns : goal.returns
unfolding cancel_on step
returns c =
    let a = c.args in
    let r = c.read-found.result in
    call_left a.image.now r (bytes (λ j. search rules)) c.read-found.ensures c.in_ok-found.was (C.Cancel (handle_from a.handle)) [] c.cancel.result
    (c.cancel.ensures ∙ ap (λ (h : Handle). cancel_of r.state h) c.handle_from.ensures) c.ended.ensures
    (λ s. cancel_of s (handle_from a.handle)) refl
