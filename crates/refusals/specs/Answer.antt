-- What a call answers, in the terms of the rules: a refusal by its number, that of an unsound state with the state's first fault
-- beside the number, or the values that the rules name for the call. A contract of a call that can be refused, or whose answer is an
-- enum, speaks through these two types: the definition `said` of its crate reads the code's own answers as such.
-- Assumes nothing.
use Rattle.std.specs.Prelude.{Bool, true, false, ℕ}
use Rattle.refusals.specs.declared.fault.Fault.{Fault}
use Rattle.refusals.specs.declared.Refusal.{Refusal}
use Rattle.refusals.specs.declared.Refusal.TheVariants.{Unsound, Closed, DeadHandle, Full, ShortList, TimeOverflow, CounterBehind, WrongMode, ZeroPeriod, NotFired, VacantSlot, BadRecord, BadImage}
use Rattle.refusals.specs.Numbers.{number_of}

pub data Answer (A : Type 0) : Type 0 where
  refused : ℕ → Answer A
  -- refusal 1, with the first fault
  unsound : Fault → Answer A
  accepted : A → Answer A

-- a refusal by its name
abbrev pub refuse : {A : Type 0} → Refusal → Answer A
refuse (Unsound f) = unsound f
refuse Closed = refused (number_of Closed)
refuse DeadHandle = refused (number_of DeadHandle)
refuse Full = refused (number_of Full)
refuse ShortList = refused (number_of ShortList)
refuse TimeOverflow = refused (number_of TimeOverflow)
refuse CounterBehind = refused (number_of CounterBehind)
refuse WrongMode = refused (number_of WrongMode)
refuse ZeroPeriod = refused (number_of ZeroPeriod)
refuse NotFired = refused (number_of NotFired)
refuse VacantSlot = refused (number_of VacantSlot)
refuse BadRecord = refused (number_of BadRecord)
refuse BadImage = refused (number_of BadImage)

-- the number with which an answer refuses; 0 where it does not
abbrev pub number_in : {A : Type 0} → Answer A → ℕ
number_in (refused n) = n
number_in (unsound f) = 1
number_in (accepted v) = 0

-- the value of an accepted answer, and a stand-in for one that was refused
abbrev pub value_or : {A : Type 0} → A → Answer A → A
value_or a (refused n) = a
value_or a (unsound f) = a
value_or a (accepted v) = v

-- whether a call was accepted
abbrev pub is_accepted : {A : Type 0} → Answer A → Bool
is_accepted (refused n) = false
is_accepted (unsound f) = false
is_accepted (accepted v) = true

-- the state that a call hands back, and what it answers
pub record Outcome (S A : Type 0) : Type 0 where
  pub state : S
  pub answer : Answer A

-- the values of a call for which the rules name none
abbrev pub Nothing : Type 0
Nothing = Unit {0}

-- accepted, with a new state and no value
abbrev pub done : {S : Type 0} → S → Outcome S Nothing
done s = record { state = s; answer = accepted tt }

-- refused so, with the state that was handed in
abbrev pub kept : {S A : Type 0} → S → Answer A → Outcome S A
kept s a = record { state = s; answer = a }
