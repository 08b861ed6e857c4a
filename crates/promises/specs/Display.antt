-- WHAT THE DISPLAY SHOWS at a moment of a run before any accepted close, in the ledger's words (proofs/Display.antt): what the two queries
-- answer at a reading, and how a turn at that reading goes with it.
-- Assumes nothing.
use Rattle.std.specs.Prelude.{◌≡◌, ◌↔◌, Bool, true, false, cond, List, [], ℕ, ℤ, pos}
use Rattle.std.proofs.Math.Option.{Option, none, some}
use Rattle.std.specs.Int.Signed.{le_z}
use Rattle.theory.specs.Tests.{bit}
use Rattle.theory.specs.Occurs.{times}
use Rattle.refusals.specs.Answer.{Answer, accepted, refused}
use Rattle.refusals.specs.Times.{difference_of}
use Rattle.word.specs.Rules.{fired_in}
use Rattle.state.specs.declared.Set.{Set}
use Rattle.state.specs.declared.Handle.{Handle}
use Rattle.state.specs.Handles.{handle_discrete}
use Rattle.timers.specs.declared.Call.TheVariants as C
use Rattle.timers.specs.declared.Timing.{Timing}
use Rattle.timers.specs.Calls.{live_at}
use Rattle.timers.specs.Left.{time_left_of, or_none, least_left_of}
use Rattle.promises.specs.Turns.{owed, seen, Least, Run, Accepted}
use Rattle.promises.specs.Engine.{ours}

-- the handle is live, and its timer has not fired
abbrev pub LiveUnfired : Set → Handle → Type 0
LiveUnfired s h = (t : Timing) × (live_at s h ≡ some t) × (fired_in t.word ≡ false)

-- what is left is zero or less
abbrev pub over : ℤ → Bool
over z = le_z z (pos 0)

-- what the display shows for a deadline, if there is one: it minus the reading, or 6
abbrev pub shown_for : ℕ → Option ℕ → Answer (Option ℤ)
shown_for N none = accepted none
shown_for N (some d) = or_none (difference_of d N)

-- whom a turn at this reading reports, with this list
abbrev pub reports_at : Run ours → ℕ → List ℕ → List Handle
reports_at r N l = (seen (ours.step r.state (C.Turn N) l)).reports

pub record Shown (r : Run ours) (N : ℕ) : Type 0 where
  -- a timer is owed exactly where its handle is live and it has not fired
  pub owing : (h : Handle) → (owed (r.ledger.line h) ≡ true) ↔ LiveUnfired r.state h
  -- of a live handle its deadline minus the reading is shown, or refused with 6; of any other, 3
  pub each : (h : Handle) → time_left_of r.state h N ≡ cond (r.ledger.line h).live (difference_of (r.ledger.line h).due N) (refused 3)
  -- the least shown is the least deadline owed minus the reading, or none where nothing is owed
  pub first : Option ℕ
  pub is_least : Least r.ledger first
  pub least : least_left_of r.state N ≡ shown_for N first
  -- an accepted turn at this reading reports a timer that is owed exactly where what is shown of it is zero or less
  pub reported : (l : List ℕ) → Accepted ours r (C.Turn N) l → (h : Handle) → owed (r.ledger.line h) ≡ true
      → (z : ℤ) → time_left_of r.state h N ≡ accepted z → times handle_discrete h (reports_at r N l) ≡ bit (over z)
  -- and nobody exactly where the least is above zero, or none
  pub silent : (l : List ℕ) → Accepted ours r (C.Turn N) l → (z : ℤ) → least_left_of r.state N ≡ accepted (some z) → (reports_at r N l ≡ []) ↔ (over z ≡ false)
  pub nobody : (l : List ℕ) → Accepted ours r (C.Turn N) l → least_left_of r.state N ≡ accepted none → reports_at r N l ≡ []
