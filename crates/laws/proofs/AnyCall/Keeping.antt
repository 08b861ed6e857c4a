-- A refused call changes nothing: it hands back the set that it was given, and the lent list as it was.
-- Assumes nothing.
use mathlib.Core.Path.{◌≡◌, refl, ap}
use mathlib.Core.Bool.{true, false}
use mathlib.Core.List.{List}
use Prim.Native.Nat.{ℕ}
use Rattle.theory.proofs.Tests.{true_false}
use Rattle.refusals.specs.Answer.{Answer, is_accepted, Outcome, kept}
use Rattle.state.specs.declared.Set.{Set}
use Rattle.timers.specs.declared.Call.{Call}
use Rattle.timers.specs.declared.Call.TheVariants as C
use Rattle.timers.specs.Calls.{Value, lent, with_list, step}
use Rattle.laws.proofs.AnyCall.CallCases.{add_by, reset_by, cancel_by, drain_by, advance_by, turn_by, wake_by_lem, poll_by_lem, close_by, tick_by, restart_by}

-- an outcome that refuses hands back k
abbrev Keeps : {S : Type 0} → S → Outcome S Value → Type 0
Keeps k o = is_accepted o.answer ≡ false → o.state ≡ k

-- one that gives a value does not refuse
accepts : {A : Type 0} → true ≡ false → A
accepts e = true_false refl e

refuses : {S : Type 0} (k : S) (a : Answer Value) → is_accepted a ≡ false → Keeps k (kept k a)
refuses k a n e = refl

listed : (s : Set) (l : List ℕ) (o : Outcome Set Value) → Keeps s o → Keeps (lent s l) (with_list l o)
listed s l o p e = ap (λ (g : Set). lent g l) (p e)

-- A REFUSED CALL KEEPS the set and the list
pub refused_keeps : (s : Set) (c : Call) (l : List ℕ) → is_accepted (step s c l).answer ≡ false → (step s c l).state ≡ lent s l
unfolding step
refused_keeps s (C.Add d) l = listed s l _ (add_by (Keeps s) s (refuses s) d (λ _ p e. accepts))
refused_keeps s (C.Reset h d) l = listed s l _ (reset_by (Keeps s) s (refuses s) h d (λ _ t e. accepts))
refused_keeps s (C.Cancel h) l = listed s l _ (cancel_by (Keeps s) s (refuses s) h (λ _ t e. accepts))
refused_keeps s C.Drain l = listed s l _ (drain_by (Keeps s) s (refuses s) (λ _. accepts))
refused_keeps s (C.Advance N) l = advance_by (Keeps (lent s l)) s l (refuses (lent s l)) N (λ _ _. accepts)
refused_keeps s (C.Turn N) l = turn_by (Keeps (lent s l)) s l (refuses (lent s l)) N (λ _ _. accepts)
refused_keeps s C.NextWake l = listed s l _ (wake_by_lem (Keeps s) s (refuses s) (λ _. accepts))
refused_keeps s (C.Poll h) l = listed s l _ (poll_by_lem (Keeps s) s (refuses s) h (λ _. accepts))
refused_keeps s C.Close l = listed s l _ (close_by (Keeps s) s (refuses s) (λ _. accepts))
refused_keeps s (C.Tick h p period N) l = listed s l _ (tick_by (Keeps s) s (refuses s) h p period N (λ _ t e f d q. accepts))
refused_keeps s (C.Restart h period N) l = listed s l _ (restart_by (Keeps s) s (refuses s) h period N (λ _ t e d q. accepts))
