-- The next wake of the set that was read; nothing is written back.
-- Assumes nothing.
use mathlib.Core.Path.{◌≡◌, sym, ap, ◌∙◌}
use mathlib.Core.List.{List}
use Prim.Native.Nat.{ℕ}
use borrow.Author.Rules.{rules}
use Rattle.std.specs.Prelude.{Err}
use Rattle.refusals.specs.Answer.{Outcome, kept}
use Rattle.state.specs.declared.Set.{Set}
use Rattle.timers.specs.Values.{Value}
use Rattle.timers.specs.Calls.{next_wake_of, said}
use Rattle.host.specs.Calls.{next_wake_on}
use Rattle.host.proofs.Calling.{read_refused, read_done}
use Rattle.host.proofs.next_wake.Goals as goal

pub returns-in_err-found : goal.returns-in_err-found
unfolding next_wake_on
returns-in_err-found c =
    let b = c.args.image.now in
    let w = c.in_err-found.field-0.0 in
    let q : c.from_residual.result ≡ Err w = search rules in
    ap said q
    ∙ sym (ap (λ (o : Outcome (List ℕ) Value). o.answer) (read_refused b b (λ (s : Set). kept b (next_wake_of s).answer) c.read-found.result c.read-found.ensures w c.in_err-found.was))

pub returns : goal.returns
unfolding next_wake_on
returns c =
    let b = c.args.image.now in
    ap (λ (o : Outcome Set Value). o.answer) c.next_wake.ensures
    ∙ sym (ap (λ (o : Outcome (List ℕ) Value). o.answer) (read_done b b (λ (s : Set). kept b (next_wake_of s).answer) c.read-found.result c.read-found.ensures c.in_ok-found.was))
