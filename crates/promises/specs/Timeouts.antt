-- What it is for a timer to be left alone by some calls, and to go off among them (proofs/Timeouts.antt).
-- Assumes nothing.
use Rattle.std.specs.Prelude.{◌≡◌, ◌⊎◌, true, List, [], ◌∷◌, ℕ}
use Rattle.std.proofs.Math.Option.{Option, none, some}
use Rattle.theory.specs.Occurs.{has}
use Rattle.state.specs.declared.Handle.{Handle}
use Rattle.state.specs.Handles.{handle_discrete}
use Rattle.timers.specs.declared.Call.{Call}
use Rattle.timers.specs.declared.Call.TheVariants as C
use Rattle.promises.specs.Turns.{Engine, Run, Accepted, next, seen}

-- the handle that a call is to reset or to cancel
abbrev pub aims : Call → Option Handle
aims (C.Add d) = none
aims (C.Reset h d) = some h
aims (C.Cancel h) = some h
aims C.Drain = none
aims (C.Advance N) = none
aims (C.Turn N) = none
aims C.NextWake = none
aims (C.Poll h) = none
aims C.Close = none
aims (C.Tick h p period N) = some h
aims (C.Restart h period N) = some h

module _ (E : Engine) (h : Handle) where
  -- no accepted call of these, made from r on, resets or cancels the handle
  unfoldable pub LeftAlone : Run E → List (Call × List ℕ) → Type 0
  LeftAlone r [] = Unit {0}
  LeftAlone r (c ∷ cs) = (Accepted E r c.0 c.1 → aims c.0 ≡ some h → ⊥) × LeftAlone (next E r c.0 c.1) cs

  -- one of these calls reports it
  unfoldable pub GoesOff : Run E → List (Call × List ℕ) → Type 0
  GoesOff r [] = ⊥
  GoesOff r (c ∷ cs) = (has handle_discrete h (seen (E.step r.state c.0 c.1)).reports ≡ true) ⊎ GoesOff (next E r c.0 c.1) cs
