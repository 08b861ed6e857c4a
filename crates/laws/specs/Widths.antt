-- Which calls keep the widths of a set's numbers (`Widths` of the crate `state`): those whose deadline has 64 bits, as every one of
-- the code's has. Of a reading, a period and a handle nothing is asked (proofs/Widths.antt).
-- Assumes nothing.
use Rattle.std.specs.Prelude.{◌≡◌, ℕ, ◌<◌, ◌^◌}
use Rattle.std.proofs.Math.Option.{Option, none, some}
use Rattle.timers.specs.declared.Call.{Call}
use Rattle.timers.specs.declared.Call.TheVariants as C

-- the deadline that a call is given
abbrev pub due_in : Call → Option ℕ
due_in (C.Add d) = some d
due_in (C.Reset h d) = some d
due_in (C.Cancel h) = none
due_in C.Drain = none
due_in (C.Advance N) = none
due_in (C.Turn N) = none
due_in C.NextWake = none
due_in (C.Poll h) = none
due_in C.Close = none
due_in (C.Tick h p period N) = none
due_in (C.Restart h period N) = none

-- it has the property, where there is one
abbrev pub Given : (ℕ → Type 0) → Call → Type 0
Given D c = (d : ℕ) → due_in c ≡ some d → D d

-- a time has 64 bits
abbrev pub IsTime : ℕ → Type 0
IsTime d = d < 2 ^ 64
