-- The table of refusals: the number of each. Every promise that names a refusal goes through `number_of`.
-- Assumes nothing.
use Rattle.std.specs.Prelude.{◌≡◌, ℕ}
use Rattle.refusals.specs.declared.Refusal.{Refusal}
use Rattle.refusals.specs.declared.Refusal.TheVariants.{Unsound, Closed, DeadHandle, Full, ShortList, TimeOverflow, CounterBehind, WrongMode, ZeroPeriod, NotFired, VacantSlot, BadRecord, BadImage}

abbrev pub number_of : Refusal → ℕ
number_of (Unsound f) = 1
number_of Closed = 2
number_of DeadHandle = 3
number_of Full = 4
number_of ShortList = 5
number_of TimeOverflow = 6
number_of CounterBehind = 7
number_of WrongMode = 8
number_of ZeroPeriod = 9
number_of NotFired = 10
number_of VacantSlot = 11
number_of BadRecord = 12
number_of BadImage = 13

-- `number` of a refusal is n
abbrev pub Numbers : Refusal → ℕ → Type 0
Numbers r n = n ≡ number_of r
