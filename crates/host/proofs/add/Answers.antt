-- The add to the set that was read, its handle as a word, and its set written back.
-- Assumes nothing.
use mathlib.Core.Path.{◌≡◌, refl, sym, ap, ◌∙◌}
use mathlib.Core.List.{[]}
use borrow.Author.Rules.{rules}
use Rattle.std.specs.Prelude.{Result, Ok}
use Rattle.refusals.specs.declared.Refusal.{Refusal}
use Rattle.refusals.specs.Answer.{Answer}
use Rattle.timers.specs.declared.Call.TheVariants.{Add}
use Rattle.timers.specs.declared.Reply.{Reply}
use Rattle.timers.specs.declared.Reply.TheVariants as R
use Rattle.timers.specs.Values.{Value, handle_in}
use Rattle.timers.specs.Calls.{add_of, step, said}
use Rattle.host.specs.Calls.{add_on}
use Rattle.host.specs.Seen.{word_or}
use Rattle.host.proofs.Calling.{call_barred, call_left, call_said, bytes}
use Rattle.host.proofs.Settled.{not_added}
use Rattle.host.proofs.add.Goals as goal

pub returns-in_err-found-clause-image : goal.returns-in_err-found-clause-image
unfolding add_on
returns-in_err-found-clause-image c =
    call_barred c.args.image.now (λ s. add_of s c.args.deadline) c.read-found.result c.read-found.ensures c.in_err-found.field-0.0 c.in_err-found.was (search rules)

pub returns-in_default-clause-image : goal.returns-in_default-clause-image
unfolding add_on step
returns-in_default-clause-image c =
    call_left c.args.image.now c.read-found.result (bytes (λ j. search rules)) c.read-found.ensures c.in_ok-found.was (Add c.args.deadline) [] c.add-a.result
    c.add-a.ensures c.ended.ensures (λ s. add_of s c.args.deadline) refl

pub returns-in_default-clause-handle : goal.returns-in_default-clause-handle
unfolding step
returns-in_default-clause-handle c =
    let b = c.args.image.now in
    let n = c.args.handle.now in
    let r = c.read-found.result in
    let e = call_said b r (bytes (λ j. search rules)) c.read-found.ensures c.in_ok-found.was (Add c.args.deadline) [] c.add-a.result c.add-a.ensures c.ended.ensures in
    not_added c.add-a.result.answer n (λ h e. search rules) ∙ ap (λ (a : Answer Value). word_or n (handle_in a)) (sym e)

pub returns-clause-image : goal.returns-clause-image
unfolding add_on step
returns-clause-image c =
    call_left c.args.image.now c.read-found.result (bytes (λ j. search rules)) c.read-found.ensures c.in_ok-found.was (Add c.args.deadline) [] c.add-a.result
    c.add-a.ensures c.ended-2.ensures (λ s. add_of s c.args.deadline) refl

pub returns-clause-handle : goal.returns-clause-handle
unfolding step
returns-clause-handle c =
    let b = c.args.image.now in
    let n = c.args.handle.now in
    let r = c.read-found.result in
    let z : c.add-a.result.answer ≡ Ok (R.Added c.in-Ok-Added.new) = search rules in
    let e = call_said b r (bytes (λ j. search rules)) c.read-found.ensures c.in_ok-found.was (Add c.args.deadline) [] c.add-a.result c.add-a.ensures c.ended-2.ensures in
    c.handle_word.ensures ∙ ap (λ (x : Result Reply Refusal). word_or n (handle_in (said x))) (sym z) ∙ ap (λ (a : Answer Value). word_or n (handle_in a)) (sym e)
