-- What is so of a refusal by its number, and of one with a fault, is so of any.
-- Assumes nothing.
use mathlib.Core.Path.{◌≡◌, refl, sym, ap}
use mathlib.Core.Bool.{false}
use Prim.Native.Nat.{ℕ}
use Rattle.theory.proofs.Tests.{true_false}
use Rattle.refusals.specs.declared.fault.Fault.{Fault}
use Rattle.refusals.specs.declared.Refusal.{Refusal}
use Rattle.refusals.specs.declared.Refusal.TheVariants.{Unsound, Closed, DeadHandle, Full, ShortList, TimeOverflow, CounterBehind, WrongMode, ZeroPeriod, NotFired, VacantSlot, BadRecord, BadImage}
use Rattle.refusals.specs.Numbers.{number_of}
use Rattle.refusals.specs.Answer.{Answer, accepted, refused, unsound, refuse, is_accepted, number_in}

-- two readings of answers that say the same of what refuses by a number, and of what refuses with a fault, say the same of any refusal
pub any_refusal : {A B X : Type 0} (f : Answer A → X) (g : Answer B → X) → ((n : ℕ) → f (refused n) ≡ g (refused n))
    → ((x : Fault) → f (unsound x) ≡ g (unsound x)) → (r : Refusal) → f (refuse r) ≡ g (refuse r)
any_refusal f g p q (Unsound x) = q x
any_refusal f g p q Closed = p (number_of Closed)
any_refusal f g p q DeadHandle = p (number_of DeadHandle)
any_refusal f g p q Full = p (number_of Full)
any_refusal f g p q ShortList = p (number_of ShortList)
any_refusal f g p q TimeOverflow = p (number_of TimeOverflow)
any_refusal f g p q CounterBehind = p (number_of CounterBehind)
any_refusal f g p q WrongMode = p (number_of WrongMode)
any_refusal f g p q ZeroPeriod = p (number_of ZeroPeriod)
any_refusal f g p q NotFired = p (number_of NotFired)
any_refusal f g p q VacantSlot = p (number_of VacantSlot)
any_refusal f g p q BadRecord = p (number_of BadRecord)
any_refusal f g p q BadImage = p (number_of BadImage)

-- a reading that takes a refusal to something of its number, and one with a fault to that of 1, does so of any refusal
pub by_number : {A X : Type 0} (f : Answer A → X) (g : ℕ → X) → ((n : ℕ) → f (refused n) ≡ g n) → ((x : Fault) → f (unsound x) ≡ g 1)
    → (r : Refusal) → f (refuse r) ≡ g (number_of r)
by_number f g p q (Unsound x) = q x
by_number f g p q Closed = p (number_of Closed)
by_number f g p q DeadHandle = p (number_of DeadHandle)
by_number f g p q Full = p (number_of Full)
by_number f g p q ShortList = p (number_of ShortList)
by_number f g p q TimeOverflow = p (number_of TimeOverflow)
by_number f g p q CounterBehind = p (number_of CounterBehind)
by_number f g p q WrongMode = p (number_of WrongMode)
by_number f g p q ZeroPeriod = p (number_of ZeroPeriod)
by_number f g p q NotFired = p (number_of NotFired)
by_number f g p q VacantSlot = p (number_of VacantSlot)
by_number f g p q BadRecord = p (number_of BadRecord)
by_number f g p q BadImage = p (number_of BadImage)

-- the number of a refusal is that of the answer which refuses so
pub number_of_lem : (A : Type 0) (r : Refusal) → number_of r ≡ number_in (refuse {A = A} r)
number_of_lem A r = sym (by_number (number_in {A = A}) (λ n. n) (λ n. refl) (λ x. refl) r)

-- no answer is both accepted and refused
pub not_both : {A : Type 0} {v : A} (r : Refusal) → accepted v ≡ refuse r → ⊥
not_both {A} r e = true_false (sym (ap is_accepted e)) (any_refusal (is_accepted {A = A}) (λ (a : Answer A). false) (λ n. refl) (λ x. refl) r)

-- what is not accepted is no acceptance
pub never : {X A : Type 0} {a : Answer A} {v : A} → is_accepted a ≡ false → a ≡ accepted v → X
never r e = true_false (ap is_accepted e) r
