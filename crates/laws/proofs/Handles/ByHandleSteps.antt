-- Of any call: a handle that it neither answers nor is given stays dead or live, with its deadline, and with its word unless an advance
-- fires it or a close marks it.
-- Assumes nothing.
use mathlib.Core.Path.{ap}
use mathlib.Core.List.{List}
use Prim.Native.Nat.{ℕ}
use Rattle.state.specs.declared.Set.{Set}
use Rattle.state.specs.declared.Handle.{Handle}
use Rattle.timers.specs.declared.Call.{Call}
use Rattle.timers.specs.declared.Call.TheVariants as C
use Rattle.timers.specs.Calls.{live_at, step}
use Rattle.laws.specs.ByHandle.{Same, Still, stepped, Other, WordBy}
use Rattle.laws.proofs.Handles.Still.{still_same, same_changes}
use Rattle.laws.proofs.Handles.ByHandleCalls as By

-- what any other handle names after a call
pub step_others : (s : Set) (c : Call) (l : List ℕ) (k : Handle) → Other s l k c → Still (WordBy c) (live_at s k) (live_at (stepped s c l) k)
unfolding step
step_others s (C.Add d) l k n = still_same Same same_changes _ _ (By.add_others s d k n)
step_others s (C.Reset h d) l k n = still_same Same same_changes _ _ (By.reset_others s h d k n)
step_others s (C.Cancel h) l k n = still_same Same same_changes _ _ (By.cancel_others s h k n)
step_others s C.Drain l k n = still_same Same same_changes _ _ (By.drain_keeps s k)
step_others s (C.Advance N) l k n = By.advance_keeps_due s N l k
step_others s (C.Turn N) l k n = By.turn_keeps_due s N l k
step_others s C.NextWake l k n = still_same Same same_changes _ _ (ap (λ (r : Set). live_at r k) (By.wake_keeps s))
step_others s (C.Poll h) l k n = still_same Same same_changes _ _ (ap (λ (r : Set). live_at r k) (By.poll_keeps s h))
step_others s C.Close l k n = By.close_keeps_due s k
step_others s (C.Tick h p period N) l k n = still_same Same same_changes _ _ (By.tick_others s h p period N k n)
step_others s (C.Restart h period N) l k n = still_same Same same_changes _ _ (By.restart_others s h period N k n)
