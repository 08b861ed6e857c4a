-- What demand 3 says of the engine it says of the functions that firmware calls: by its contract each public call answers, and hands
-- back, what the engine does on that call, and `state::fresh` is where it begins. A call that is lent no list leaves any list m as it was.
-- Assumes nothing.
use mathlib.Core.Path.{◌≡◌, ap}
use mathlib.Core.List.{List}
use Prim.Native.Nat.{ℕ}
use Rattle.refusals.specs.declared.outcome.Outcome as Code
use Rattle.refusals.specs.Answer.{Outcome}
use Rattle.interval.specs.declared.Policy.{Policy}
use Rattle.state.specs.declared.Set.{Set}
use Rattle.state.specs.declared.Handle.{Handle}
use Rattle.state.specs.Promises as State
use Rattle.timers.specs.declared.Call.{Call}
use Rattle.timers.specs.declared.Call.TheVariants as C
use Rattle.timers.specs.declared.Reply.{Reply}
use Rattle.timers.specs.Values.{Value}
use Rattle.timers.specs.Calls.{told, told_with, with_list, step}
use Rattle.timers.specs.Promises as Timers
use Rattle.promises.specs.Engine.{handed, ours}

-- what a call without a list answers, as the engine has it
abbrev pub alone : Code.Outcome Set Reply → List ℕ → Outcome (Set × List ℕ) Value
alone r m = handed (with_list m (told r))

-- `state::fresh`
pub fresh_begins : (r : Set) → State.Fresh r → r ≡ ours.fresh
fresh_begins r p = p

module _ (s : Set) (r : Code.Outcome Set Reply) (m : List ℕ) where
  -- the engine hands on what the call promises
  handed_on : {o : Outcome Set Value} → told r ≡ o → alone r m ≡ handed (with_list m o)
  handed_on p = ap (λ (o : Outcome Set Value). handed (with_list m o)) p

  pub add_steps : (d : ℕ) → Timers.Adds s d r → alone r m ≡ ours.step s (C.Add d) m
  unfolding step
  add_steps d p = handed_on p

  pub reset_steps : (h : Handle) (d : ℕ) → Timers.Resets s h d r → alone r m ≡ ours.step s (C.Reset h d) m
  unfolding step
  reset_steps h d p = handed_on p

  pub cancel_steps : (h : Handle) → Timers.Cancels s h r → alone r m ≡ ours.step s (C.Cancel h) m
  unfolding step
  cancel_steps h p = handed_on p

  pub drain_steps : Timers.Drains s r → alone r m ≡ ours.step s C.Drain m
  unfolding step
  drain_steps p = handed_on p

  pub next_wake_steps : Timers.Wakes s r → alone r m ≡ ours.step s C.NextWake m
  unfolding step
  next_wake_steps p = handed_on p

  pub poll_steps : (h : Handle) → Timers.Polls s h r → alone r m ≡ ours.step s (C.Poll h) m
  unfolding step
  poll_steps h p = handed_on p

  pub close_steps : Timers.Closes s r → alone r m ≡ ours.step s C.Close m
  unfolding step
  close_steps p = handed_on p

  pub tick_steps : (h : Handle) (p : Policy) (period N : ℕ) → Timers.Ticks s h p period N r → alone r m ≡ ours.step s (C.Tick h p period N) m
  unfolding step
  tick_steps h p period N q = handed_on q

  pub restart_steps : (h : Handle) (period N : ℕ) → Timers.Restarts s h period N r → alone r m ≡ ours.step s (C.Restart h period N) m
  unfolding step
  restart_steps h period N q = handed_on q

  -- an advance and a turn that are lent the list l and leave it as m
  pub advance_steps : (N : ℕ) (l : List ℕ) → Timers.Advances s N l r m → handed (told_with r m) ≡ ours.step s (C.Advance N) l
  unfolding step
  advance_steps N l p = ap handed p

  pub turn_steps : (N : ℕ) (l : List ℕ) → Timers.Turns s N l r m → handed (told_with r m) ≡ ours.step s (C.Turn N) l
  unfolding step
  turn_steps N l p = ap handed p

  -- any call by its name
  pub perform_steps : (c : Call) (l : List ℕ) → Timers.Performs s c l r m → handed (told_with r m) ≡ ours.step s c l
  perform_steps c l p = ap handed p
