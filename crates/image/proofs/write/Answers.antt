-- The length first, then the fault, and else the whole image.
-- Assumes nothing.
use mathlib.Core.Path.{◌≡◌, sym, ap, ◌∙◌}
use mathlib.Core.Option.{none, some}
use borrow.Author.Rules.{rules}
use Rattle.std.specs.Prelude.{Err}
use Rattle.refusals.specs.declared.Refusal.{Refusal}
use Rattle.refusals.specs.Answer.{refuse, kept, done}
use Rattle.image.specs.Calls.{told_writing}
use Rattle.image.proofs.Calling.{write_long, write_by, passed_on, let_through}
use Rattle.image.proofs.write.Goals as goal

pub returns-then-out-ne-SIZE : goal.returns-then-out-ne-SIZE
returns-then-out-ne-SIZE c = let a = c.args in write_long a.s a.out.now c.if-out-ne-SIZE.true

pub returns-in_err-map_err : goal.returns-in_err-map_err
returns-in_err-map_err c =
    let a = c.args in
    let e : c.from_residual.result ≡ Err c.in_err-map_err.field-0.0 = search rules in
    let t = passed_on (λ f why q. search rules) c.first_fault.result c.map_err.result c.map_err.ensures.cases c.in_err-map_err.was in
    ap (told_writing a.out.now) e
    ∙ ap (λ (r : Refusal). kept a.out.now (refuse r)) t.2
    ∙ write_by a.s a.out.now (some t.0) c.if-out-ne-SIZE.false (sym t.1 ∙ c.first_fault.ensures)

pub returns : goal.returns
returns c =
    let a = c.args in
    let t = let_through _ c.first_fault.result c.map_err.result c.map_err.ensures.cases c.in_ok-map_err.was in
    (λ k. done (c.put_set.ensures k)) ∙ write_by a.s a.out.now none c.if-out-ne-SIZE.false (sym t ∙ c.first_fault.ensures)
