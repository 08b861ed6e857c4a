-- The lines of records on a sound set, without the test that each call begins with: they are the same, since every call leaves a
-- sound set. So worked lines are computed without it, and take no longer the more places there are.
-- Assumes nothing.
use mathlib.Core.Path.{◌≡◌, refl, sym, ap, ◌∙◌}
use mathlib.Core.List.{List, [], ◌∷◌, ◌++◌}
use Prim.Native.Nat.{ℕ}
use Rattle.refusals.specs.Answer.{Answer, accepted, refused, unsound, Outcome}
use Rattle.state.specs.declared.Set.{Set}
use Rattle.timers.specs.declared.Call.{Call}
use Rattle.timers.specs.declared.Call.TheVariants as C
use Rattle.timers.specs.Calls.{Value, Lent, lent, step, next_wake_of}
use Rattle.laws.specs.Words.{Fit}
use Rattle.laws.specs.Unguarded.{unguarded}
use Rattle.laws.proofs.Soundness.StepSound.{step_fit}
use Rattle.laws.proofs.Soundness.Unguarded.{step_same}
use Rattle.records.specs.Records.{decode_of}
use Rattle.records.specs.Answers.{Answered, unread, made, operation_of, wake_in, where_ran, answer_of, answer_by, replay_of}
use Rattle.records.specs.Lines.{line_of}
use Rattle.records.specs.Runs.{lines_of}

-- what a record's line tells, and the lines of records, where calls and the next wake pass without the test
abbrev telling : Call → Outcome Lent Value → Answered
telling c o = record {
  state = o.state;
  told = made (operation_of c) o.answer (where_ran o.answer (wake_in (unguarded o.state.set C.NextWake []).answer));
}

abbrev answering : Set → Answer Call → List ℕ → Answered
answering s (accepted c) l = telling c (unguarded s c l)
answering s (refused n) l = record { state = lent s l; told = unread (refused n) }
answering s (unsound x) l = record { state = lent s l; told = unread (unsound x) }

abbrev pub lines_unguarded : List (List ℕ) → Lent → List ℕ
lines_unguarded [] s = []
lines_unguarded (b ∷ bs) s =
    let a = answering s.set (decode_of b) s.list in
    line_of a.told a.state.list ++ lines_unguarded bs a.state

-- the next wake is a call like any other
wake_same : (s : Set) → Fit s → (unguarded s C.NextWake []).answer ≡ (next_wake_of s).answer
unfolding step
wake_same s f = sym (ap (λ (o : Outcome Lent Value). o.answer) (step_same s f C.NextWake []))

-- a record tells the same, and leaves a set that fits
module _ (s : Set) (f : Fit s) (l : List ℕ) where
  told_same : (d : Answer Call) → answering s d l ≡ answer_by s d l
  unfolding answer_of
  told_same (accepted c) =
      ap (telling c) (sym (step_same s f c l))
      ∙ ap
      (λ (w : Answer Value).
      record {
        state = (step s c l).state;
        told = made (operation_of c) (step s c l).answer (where_ran (step s c l).answer (wake_in w));
      })
      (wake_same (step s c l).state.set (step_fit s f c l))
  told_same (refused n) = refl
  told_same (unsound x) = refl

  left_fit : (d : Answer Call) → Fit (answer_by s d l).state.set
  unfolding answer_of
  left_fit (accepted c) = step_fit s f c l
  left_fit (refused n) = f
  left_fit (unsound x) = f

-- SO the lines are the same
pub lines_same : (bs : List (List ℕ)) (s : Lent) → Fit s.set → lines_unguarded bs s ≡ lines_of bs s
unfolding replay_of
lines_same [] s f = refl
lines_same (b ∷ bs) s f =
    let a = answer_by s.set (decode_of b) s.list in
    ap (λ (x : Answered). line_of x.told x.state.list ++ lines_unguarded bs x.state) (told_same s.set f s.list (decode_of b))
    ∙ ap (λ (t : List ℕ). line_of a.told a.state.list ++ t) (lines_same bs a.state (left_fit s.set f s.list (decode_of b)))
