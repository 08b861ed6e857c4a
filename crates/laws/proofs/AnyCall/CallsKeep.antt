-- What the rules keep of a set, every call keeps: a call that is refused hands the set back, and one that is not makes one of the
-- rules' changes. Where the rules keep it only with deadlines of a kind D, a call keeps it that is given a deadline of that kind:
-- those that an interval sets are times, and every time is to be of the kind.
-- Assumes nothing.
use mathlib.Core.Path.{◌≡◌, refl, subst}
use mathlib.Core.Bool.{false}
use mathlib.Core.Option.{some}
use mathlib.Core.List.{List}
use Prim.Native.Nat.{ℕ}
use Rattle.refusals.specs.Answer.{Outcome}
use Rattle.interval.proofs.Timely.{Timed, tick_timed, restart_timed}
use Rattle.state.specs.declared.Life.TheVariants.{Live, Cancelled}
use Rattle.state.specs.declared.Set.{Set}
use Rattle.state.specs.declared.Handle.{Handle}
use Rattle.timers.specs.declared.Call.{Call}
use Rattle.timers.specs.declared.Call.TheVariants as C
use Rattle.moves.specs.Rules.{touched_of, lowest_free, drained_of, advanced_of, closed_of}
use Rattle.timers.specs.declared.Timing.{Timing}
use Rattle.timers.specs.Calls.{Value, Lent, live_at, reset_to, step}
use Rattle.laws.specs.Widths.{Given, IsTime}
use Rattle.laws.proofs.AnyCall.CallCases.{add_by, reset_by, cancel_by, drain_by, advance_by, turn_by, wake_by_lem, poll_by_lem, close_by, tick_by, restart_by}

-- what is to be shown of a set for every call to keep it
pub record Kept (D : ℕ → Type 0) (P : Set → Type 0) (s : Set) : Type 0 where
  pub now : P s
  pub adds : (p d : ℕ) → D d → s.closed ≡ false → lowest_free s ≡ some p → P (touched_of s p (Live 0 d))
  pub resets : (h : Handle) (t : Timing) (d : ℕ) → D d → s.closed ≡ false → live_at s h ≡ some t → P (reset_to s h d t)
  pub cancels : (h : Handle) (t : Timing) → s.closed ≡ false → live_at s h ≡ some t → P (touched_of s h.place.0 (Cancelled t.word))

-- and for those that drain, advance and close
pub record KeptOn (P : Set → Type 0) (s : Set) : Type 0 where
  pub drains : s.closed ≡ false → P (drained_of s)
  pub advances : (N : ℕ) (l : List ℕ) → s.closed ≡ false → P (advanced_of s N l).set
  pub turns : (N : ℕ) (l : List ℕ) → s.closed ≡ false → P (advanced_of (drained_of s) N l).set
  pub closes : s.closed ≡ false → P (closed_of s)

-- every call that is given such a deadline, or none
module _ (D : ℕ → Type 0) (times : (d : ℕ) → IsTime d → D d) (P : Set → Type 0) (s : Set) (k : Kept D P s) (on : KeptOn P s) where
  abbrev Keeps : Outcome Set Value → Type 0
  Keeps o = P o.state

  abbrev KeepsLent : Outcome Lent Value → Type 0
  KeepsLent o = P o.state.set

  pub step_keeps_of : (c : Call) → Given D c → (l : List ℕ) → P (step s c l).state.set
  unfolding step
  step_keeps_of (C.Add d) g l = add_by Keeps s (λ _ _. k.now) d (λ i p e. k.adds p d (g d refl) i.still_open e)
  step_keeps_of (C.Reset h d) g l = reset_by Keeps s (λ _ _. k.now) h d (λ i t e. k.resets h t d (g d refl) i.still_open e)
  step_keeps_of (C.Cancel h) g l = cancel_by Keeps s (λ _ _. k.now) h (λ i t e. k.cancels h t i.still_open e)
  step_keeps_of C.Drain g l = drain_by Keeps s (λ _ _. k.now) (λ i. on.drains i.still_open)
  step_keeps_of (C.Advance N) g l = advance_by KeepsLent s l (λ _ _. k.now) N (λ i _. on.advances N l i.still_open)
  step_keeps_of (C.Turn N) g l = turn_by KeepsLent s l (λ _ _. k.now) N (λ i _. on.turns N l i.still_open)
  step_keeps_of C.NextWake g l = wake_by_lem Keeps s (λ _ _. k.now) (λ _. k.now)
  step_keeps_of (C.Poll h) g l = poll_by_lem Keeps s (λ _ _. k.now) h (λ _. k.now)
  step_keeps_of C.Close g l = close_by Keeps s (λ _ _. k.now) (λ i. on.closes i.still_open)
  step_keeps_of (C.Tick h p period N) g l =
      tick_by Keeps s (λ _ _. k.now) h p period N
      (λ i t e _ d q. k.resets h t d (times d (subst Timed q (tick_timed p t.due period N))) i.still_open e)
  step_keeps_of (C.Restart h period N) g l =
      restart_by Keeps s (λ _ _. k.now) h period N
      (λ i t e d q. k.resets h t d (times d (subst Timed q (restart_timed period N))) i.still_open e)

-- a deadline of any kind
abbrev pub Any : ℕ → Type 0
Any d = Unit {0}

-- every call, where the rules keep it with any deadline
pub step_keeps_it : (P : Set → Type 0) (s : Set) → Kept Any P s → KeptOn P s → (c : Call) (l : List ℕ) → P (step s c l).state.set
step_keeps_it P s k on c l = step_keeps_of Any (λ d y. tt) P s k on c (λ d e. tt) l
