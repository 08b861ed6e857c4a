-- What a call changes of what a handle names (proofs/Handles/ByHandleSteps.antt).
-- Assumes nothing.
use Rattle.std.specs.Prelude.{◌≡◌, ◌⊎◌, true, List, ℕ, ◌%◌}
use Rattle.std.proofs.Math.Option.{Option, none, some}
use Rattle.refusals.specs.Answer.{accepted}
use Rattle.word.specs.Rules.{reset_of, fired_in, fired_of, invalid_of}
use Rattle.interval.specs.declared.Policy.{Policy}
use Rattle.interval.specs.Rules.{tick_of}
use Rattle.state.specs.declared.Set.{Set}
use Rattle.state.specs.declared.Handle.{Handle}
use Rattle.timers.specs.declared.Call.{Call}
use Rattle.timers.specs.declared.Call.TheVariants as C
use Rattle.timers.specs.declared.Timing.{Timing}
use Rattle.timers.specs.Calls.{Value, handle, time, live_at, step}

-- the word stays
abbrev pub Same : ℕ → ℕ → Type 0
Same w v = v ≡ w

-- the word stays, or is one with neither mark and gets the fired bit
abbrev pub Fires : ℕ → ℕ → Type 0
Fires w v = (v ≡ w) ⊎ ((w % 4 ≡ 0) × (v ≡ fired_of w))

-- the word stays, or gets the invalid bit
abbrev pub Marks : ℕ → ℕ → Type 0
Marks w v = (v ≡ w) ⊎ (v ≡ invalid_of w)

-- what a handle named, and what it names then
pub record Still (W : ℕ → ℕ → Type 0) (o r : Option Timing) : Type 0 where
  pub dead : o ≡ none → r ≡ none
  pub live : (t : Timing) → o ≡ some t → (v : ℕ) × (W t.word v) × (r ≡ some (record { word = v; due = t.due }))

-- a handle that was live is so with the word as a reset leaves it, and a new deadline
pub record ResetTo (s r : Set) (h : Handle) (d : ℕ) : Type 0 where
  pub was : Timing
  pub was_live : live_at s h ≡ some was
  pub is_live : live_at r h ≡ some (record { word = reset_of was.word; due = d })

-- the same of a timer that has fired, with the deadline that the interval's rule says and its old one as the answer
pub record TickedTo (s r : Set) (h : Handle) (p : Policy) (period N : ℕ) (v : Value) : Type 0 where
  pub next : ℕ
  pub reset : ResetTo s r h next
  pub had_fired : fired_in reset.was.word ≡ true
  pub by_rule : tick_of p reset.was.due period N ≡ accepted next
  pub answers_old : v ≡ time reset.was.due

-- the set after a call
abbrev pub stepped : Set → Call → List ℕ → Set
stepped s c l = (step s c l).state.set

-- the handle is not the one that the call is given to change, nor the one that an add answers
abbrev pub Other : Set → List ℕ → Handle → Call → Type 0
Other s l k (C.Add d) = (step s (C.Add d) l).answer ≡ accepted (handle k) → ⊥
Other s l k (C.Reset h d) = k ≡ h → ⊥
Other s l k (C.Cancel h) = k ≡ h → ⊥
Other s l k C.Drain = Unit {0}
Other s l k (C.Advance N) = Unit {0}
Other s l k (C.Turn N) = Unit {0}
Other s l k C.NextWake = Unit {0}
Other s l k (C.Poll h) = Unit {0}
Other s l k C.Close = Unit {0}
Other s l k (C.Tick h p period N) = k ≡ h → ⊥
Other s l k (C.Restart h period N) = k ≡ h → ⊥

-- what a call may do to the word of another handle
abbrev pub WordBy : Call → ℕ → ℕ → Type 0
WordBy (C.Add d) = Same
WordBy (C.Reset h d) = Same
WordBy (C.Cancel h) = Same
WordBy C.Drain = Same
WordBy (C.Advance N) = Fires
WordBy (C.Turn N) = Fires
WordBy C.NextWake = Same
WordBy (C.Poll h) = Same
WordBy C.Close = Marks
WordBy (C.Tick h p period N) = Same
WordBy (C.Restart h period N) = Same
