-- What the record decodes to says whether a call is made.
-- Assumes nothing.
use mathlib.Core.Path.{◌≡◌, refl, ap, ◌∙◌}
use mathlib.Core.List.{List}
use Prim.Native.Nat.{ℕ}
use Rattle.refusals.specs.declared.Refusal.{Refusal}
use Rattle.refusals.specs.declared.outcome.Outcome as Code
use Rattle.refusals.specs.Answer.{Answer, Nothing, refuse}
use Rattle.refusals.proofs.Refusing.{any_refusal}
use Rattle.state.specs.declared.Set.{Set}
use Rattle.timers.specs.declared.Call.{Call}
use Rattle.timers.specs.Calls.{lent}
use Rattle.records.specs.declared.Made.{Made}
use Rattle.records.specs.Answers.{Answered, unread, answer_by, replay_of, replayed_by}
use Rattle.records.proofs.replay.Goals as goal

-- a record that does not decode changes nothing and says why
unread_why : (s : Set) (l : List ℕ) (r : Refusal) → ◌≡◌ {A = Answered} (record { state = lent s l; told = unread (refuse r) }) (answer_by s (refuse r) l)
unread_why s l r =
    any_refusal {A = Nothing} (λ a. record { state = lent s l; told = unread a }) (λ a. answer_by s a l) (λ n. refl) (λ x. refl) r

pub returns : goal.returns
unfolding replay_of
returns c =
    let a = c.args in
    ap (λ (o : Code.Outcome Set Made). replayed_by o c.answer-a.new.list) c.given.ensures ∙ c.answer-a.ensures
    ∙ ap (λ (x : Answer Call). answer_by a.s x a.list.now) c.in-Ok.ensures

pub returns-in-Err : goal.returns-in-Err
unfolding replay_of
returns-in-Err c =
    let a = c.args in
    let l = a.list.now in
    ap (λ (o : Code.Outcome Set Made). replayed_by o l) c.kept.ensures ∙ unread_why a.s l c.in-Err.why
    ∙ ap (λ (x : Answer Call). answer_by a.s x l) c.in-Err.ensures
