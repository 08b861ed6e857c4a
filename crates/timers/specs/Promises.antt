-- What each call on a set of timers promises of its answer r, and of the lent list as it is at the end.
-- Assumes nothing.
use Rattle.std.specs.Prelude.{◌≡◌, false, List, ℕ, ℤ, Option, Result, ⊤}
use Rattle.refusals.specs.declared.Refusal.{Refusal}
use Rattle.refusals.specs.declared.outcome.Outcome.{Outcome}
use Rattle.refusals.specs.Times.{said_left}
use Rattle.word.specs.Rules as Word
use Rattle.interval.specs.declared.Policy.{Policy}
use Rattle.state.specs.declared.Life.{Life}
use Rattle.state.specs.declared.Life.TheVariants.{Live}
use Rattle.state.specs.declared.Set.{Set}
use Rattle.state.specs.declared.Handle.{Handle}
use Rattle.timers.specs.declared.Call.{Call}
use Rattle.timers.specs.declared.Reply.{Reply}
use Rattle.timers.specs.Calls.{Timing, said_guard, guard_of, open_of, said_door, door_of, living, live_at, add_of, reset_of, cancel_of, drain_of, advance_of, turn_of, next_wake_of, poll_of, close_of, tick_at, restart_at, step, told, told_with}
use Rattle.timers.specs.Left.{time_left_of, least_left_of, said_least}

abbrev pub Adds : Set → ℕ → Outcome Set Reply → Type 0
Adds s d r = told r ≡ add_of s d

abbrev pub Resets : Set → Handle → ℕ → Outcome Set Reply → Type 0
Resets s h d r = told r ≡ reset_of s h d

abbrev pub Cancels : Set → Handle → Outcome Set Reply → Type 0
Cancels s h r = told r ≡ cancel_of s h

abbrev pub Drains : Set → Outcome Set Reply → Type 0
Drains s r = told r ≡ drain_of s

abbrev pub Advances : Set → ℕ → List ℕ → Outcome Set Reply → List ℕ → Type 0
Advances s N l r l' = told_with r l' ≡ advance_of s N l

abbrev pub Turns : Set → ℕ → List ℕ → Outcome Set Reply → List ℕ → Type 0
Turns s N l r l' = told_with r l' ≡ turn_of s N l

abbrev pub Wakes : Set → Outcome Set Reply → Type 0
Wakes s r = told r ≡ next_wake_of s

abbrev pub Polls : Set → Handle → Outcome Set Reply → Type 0
Polls s h r = told r ≡ poll_of s h

abbrev pub Closes : Set → Outcome Set Reply → Type 0
Closes s r = told r ≡ close_of s

abbrev pub Ticks : Set → Handle → Policy → ℕ → ℕ → Outcome Set Reply → Type 0
Ticks s h p period N r = told r ≡ tick_at s h p period N

abbrev pub Restarts : Set → Handle → ℕ → ℕ → Outcome Set Reply → Type 0
Restarts s h period N r = told r ≡ restart_at s h period N

abbrev pub Performs : Set → Call → List ℕ → Outcome Set Reply → List ℕ → Type 0
Performs s c l r l' = told_with r l' ≡ step s c l

-- the two queries, which hand no set back
abbrev pub TellsLeft : Set → Handle → ℕ → Result ℤ Refusal → Type 0
TellsLeft s h N r = said_left r ≡ time_left_of s h N

abbrev pub TellsLeast : Set → ℕ → Result (Option ℤ) Refusal → Type 0
TellsLeast s N r = said_least r ≡ least_left_of s N

-- and the functions inside

abbrev pub Guards : Set → Result ⊤ Refusal → Type 0
Guards s r = said_guard r ≡ guard_of s

abbrev pub Opens : Set → Result ⊤ Refusal → Type 0
Opens s r = said_guard r ≡ open_of s

abbrev pub Enters : Set → Handle → Result Timing Refusal → Type 0
Enters s h r = said_door r ≡ door_of s.closed s h

abbrev pub Admits : Set → Handle → Result Timing Refusal → Type 0
Admits s h r = said_door r ≡ door_of false s h

abbrev pub Finds : Set → Handle → Result Timing Refusal → Type 0
Finds s h r = said_door r ≡ living (live_at s h)

abbrev pub ResetsTo : Timing → ℕ → Life → Type 0
ResetsTo t d r = r ≡ Live (Word.reset_of t.word) d
