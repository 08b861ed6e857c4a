-- THE ENGINE OF A C HOST MEETS DEMAND 3, since it runs beside the project's own, which does; and an older image put back gives out a
-- handle again.
-- Assumes nothing.
use mathlib.Core.Path.{◌≡◌, refl, ap, subst, ◌∙◌}
use mathlib.Core.Bool.{true}
use mathlib.Core.List.{List, []}
use Prim.Native.Nat.{ℕ}
use Rattle.theory.specs.First.{first_bad}
use Rattle.refusals.specs.Answer.{Outcome}
use Rattle.state.specs.declared.Set.{Set}
use Rattle.state.specs.State.{fresh_of}
use Rattle.moves.specs.Rules.{taken, lowest_free, touched_of}
use Rattle.timers.specs.declared.Call.{Call}
use Rattle.timers.specs.declared.Call.TheVariants as C
use Rattle.timers.specs.Calls.{Value, Lent, live_at, step}
use Rattle.laws.specs.Words.{Fit}
use Rattle.laws.specs.Unguarded.{unguarded}
use Rattle.laws.proofs.Soundness.Unguarded.{step_same}
use Rattle.laws.proofs.Widths.Calls.{widths_words}
use Rattle.promises.specs.Turns.{Meets}
use Rattle.promises.specs.Engine.{ours}
use Rattle.promises.specs.Beside.{plain}
use Rattle.promises.specs.Images.{hosted, exported, image_after, kept_image, given_twice, PutBack}
use Rattle.promises.proofs.Engine.{meets}
use Rattle.promises.proofs.Beside.{beside_meets}
use Rattle.promises.proofs.Images.Tied.{Tied, hosted_beside}

-- what the set behind an image is
tied_fit : (b : List ℕ) (s : Set) → Tied b s → Fit s
tied_fit b s t = record { sound = t.sound; words = widths_words s t.sound t.widths }

-- of the five exported calls, with numbers of 64 bits
pub hosted_meets : Meets hosted exported
hosted_meets = beside_meets hosted ours exported Tied hosted_beside meets

-- THE TRACE of an older image that is put back: on the sets it is worked out without the test of soundness, which looks at every place

-- the image and the set after an exported call that is lent no words
then_tied : (b : List ℕ) (s : Set) → Tied b s → (c : Call) → exported c ≡ true → Tied (image_after b c) (step s c []).state.set
then_tied b s t c a = (hosted_beside.at_calls b s t c [] a).tied

-- what such a call answers
then_answers : (b : List ℕ) (s : Set) → Tied b s → (c : Call) → exported c ≡ true → (hosted.step b c []).answer ≡ plain (unguarded s c []).answer
then_answers b s t c a =
    (hosted_beside.at_calls b s t c [] a).answers
    ∙ ap (λ (o : Outcome Lent Value). plain o.answer) (step_same s (tied_fit b s t) c [])

-- the set after it
then_set : (b : List ℕ) (s : Set) → Tied b s → (c : Call) → (step s c []).state.set ≡ (unguarded s c []).state.set
then_set b s t c = ap (λ (o : Outcome Lent Value). o.state.set) (step_same s (tied_fit b s t) c [])

-- the set whose image is kept
abbrev kept_set : Set
kept_set = (unguarded fresh_of (C.Add 10) []).state.set

kept_tied : Tied kept_image kept_set
kept_tied =
    let t = hosted_beside.at_start in
    subst (Tied kept_image) (then_set hosted.fresh fresh_of t (C.Add 10)) (then_tied hosted.fresh fresh_of t (C.Add 10) refl)

-- the set with the third timer
abbrev third_set : Set
third_set = (unguarded kept_set (C.Add 30) []).state.set

third_tied : Tied (image_after kept_image (C.Add 30)) third_set
third_tied =
    subst (Tied (image_after kept_image (C.Add 30))) (then_set kept_image kept_set kept_tied (C.Add 30)) (then_tied kept_image kept_set kept_tied (C.Add 30) refl)

pub put_back : PutBack
unfolding unguarded live_at lowest_free taken first_bad touched_of
put_back = record {
  given = then_answers kept_image kept_set kept_tied (C.Add 20) refl;
  given_again = then_answers kept_image kept_set kept_tied (C.Add 30) refl;
  taken_for_it = then_answers (image_after kept_image (C.Add 30)) third_set third_tied (C.Cancel given_twice) refl;
}
