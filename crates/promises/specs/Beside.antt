-- AN ENGINE THAT RUNS BESIDE ANOTHER: on every call that it is asked it answers as the other does and leaves the lent list as the
-- other does, and their states stay tied. Of the count of the popped nothing is asked, since demand 3 asks nothing of it. So the one
-- meets demand 3 where the other does (proofs/Beside.antt).
-- Assumes nothing.
use Rattle.std.specs.Prelude.{◌≡◌, Bool, true, List, ℕ}
use Rattle.refusals.specs.Answer.{Answer, accepted, refused, unsound}
use Rattle.timers.specs.declared.Call.{Call}
use Rattle.timers.specs.Values.{Value, nothing, handle, counts, wake, polled, time}
use Rattle.promises.specs.Turns.{Engine}

-- an answer without the count of the popped
abbrev pub plain : Answer Value → Answer Value
plain (accepted nothing) = accepted nothing
plain (accepted (handle h)) = accepted (handle h)
plain (accepted (counts r p)) = accepted (counts r 0)
plain (accepted (wake t)) = accepted (wake t)
plain (accepted (polled n)) = accepted (polled n)
plain (accepted (time t)) = accepted (time t)
plain (refused n) = refused n
plain (unsound f) = unsound f

-- what a call that is asked makes of two states and a lent list
pub record Together (E F : Engine) (Tied : E.State → F.State → Type 0) (e : E.State) (f : F.State) (c : Call) (l : List ℕ) : Type 0 where
  pub answers : (E.step e c l).answer ≡ plain (F.step f c l).answer
  pub lists : (E.step e c l).state.1 ≡ (F.step f c l).state.1
  pub tied : Tied (E.step e c l).state.0 (F.step f c l).state.0

pub record Beside (E F : Engine) (asked : Call → Bool) (Tied : E.State → F.State → Type 0) : Type 0 where
  pub at_start : Tied E.fresh F.fresh
  pub at_calls : (e : E.State) (f : F.State) → Tied e f → (c : Call) (l : List ℕ) → asked c ≡ true → Together E F Tied e f c l
