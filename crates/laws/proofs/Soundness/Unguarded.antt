-- On a sound set a call answers as if there were no test: the test says yes of it.
-- Assumes nothing.
use mathlib.Core.Path.{◌≡◌, refl, ap}
use mathlib.Core.List.{List}
use Prim.Native.Nat.{ℕ}
use Rattle.refusals.specs.Answer.{Outcome}
use Rattle.state.specs.declared.Set.{Set}
use Rattle.state.proofs.Test.{sound_tells}
use Rattle.timers.specs.declared.Call.{Call}
use Rattle.timers.specs.declared.Call.TheVariants as C
use Rattle.timers.specs.Calls.{Value, lent, guarded, with_list, step, add_of, reset_of, cancel_of, drain_of, advance_of, turn_of, next_wake_of, poll_of, close_of, tick_at, restart_at}
use Rattle.timers.proofs.Guarding.{sound_none}
use Rattle.laws.specs.Words.{Fit}
use Rattle.laws.specs.Unguarded.{unguarded}

module _ (s : Set) (f : Fit s) where
  passes : {S : Type 0} (k : S) (o : Outcome S Value) → guarded s k o ≡ o
  unfolding guarded
  passes k o = rw (sound_none s (sound_tells s f.sound)) refl

  pub step_same : (c : Call) (l : List ℕ) → step s c l ≡ unguarded s c l
  unfolding step add_of reset_of cancel_of drain_of advance_of turn_of next_wake_of poll_of close_of tick_at restart_at unguarded
  step_same (C.Add d) l = ap (with_list l) (passes s _)
  step_same (C.Reset h d) l = ap (with_list l) (passes s _)
  step_same (C.Cancel h) l = ap (with_list l) (passes s _)
  step_same C.Drain l = ap (with_list l) (passes s _)
  step_same (C.Advance N) l = passes (lent s l) _
  step_same (C.Turn N) l = passes (lent s l) _
  step_same C.NextWake l = ap (with_list l) (passes s _)
  step_same (C.Poll h) l = ap (with_list l) (passes s _)
  step_same C.Close l = ap (with_list l) (passes s _)
  step_same (C.Tick h p period N) l = ap (with_list l) (passes s _)
  step_same (C.Restart h period N) l = ap (with_list l) (passes s _)
