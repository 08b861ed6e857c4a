-- Two refusals with one number, and one fault where it is that of an unsound state, are one refusal; two times, differences or verdicts
-- that say the same are one; and no function here has a second answer.
-- Assumes nothing.
use mathlib.Core.Path.{◌≡◌, refl, sym, ap, ◌∙◌}
use mathlib.Core.Option.{Option, none, some}
use mathlib.Core.List.{[], ◌∷◌}
use Prim.Native.Nat.{ℕ, ◌+◌}
use lib.ListN.{get_or}
use lib.IntN.{ℤ, nat_abs}
use Rattle.theory.specs.Promise.{NoSecond, TellsApart}
use Rattle.theory.proofs.Promise.{by_rule, plain_apart, undone_apart}
use Rattle.refusals.specs.declared.fault.Fault.{Fault}
use Rattle.refusals.specs.declared.fault.Fault.TheVariants.{Count, Position, Order, FreeChain, List, Place}
use Rattle.refusals.specs.declared.Refusal.{Refusal}
use Rattle.refusals.specs.declared.Refusal.TheVariants.{Unsound, Closed, DeadHandle, Full, ShortList, TimeOverflow, CounterBehind, WrongMode, ZeroPeriod, NotFired, VacantSlot, BadRecord, BadImage}
use Rattle.std.specs.Prelude.{Result, Ok, Err, ⊤}
use Rattle.refusals.specs.Numbers.{number_of, Numbers}
use Rattle.refusals.specs.Answer.{Answer, accepted, refused, unsound, refuse, Outcome}
use Rattle.refusals.specs.declared.outcome.Outcome as Code
use Rattle.refusals.specs.Outcomes.{said_by, told_by, Gives, Keeps}
use Rattle.refusals.specs.Faults.{kind_of, where_of, said_verdict, Kinds, Stands}
use Rattle.refusals.specs.Times.{timely, said, Sums, difference_of, said_left, Differs, Sizes}

-- the refusal of a number but 1, which has a fault beside it; the table starts at 2
abbrev pub refusal_of : ℕ → Refusal
refusal_of n =
    get_or
    (Closed ∷ Closed ∷ Closed ∷ DeadHandle ∷ Full ∷ ShortList ∷ TimeOverflow ∷ CounterBehind ∷ WrongMode ∷ ZeroPeriod ∷ NotFired
    ∷ VacantSlot ∷ BadRecord ∷ BadImage ∷ [])
    n Closed

-- a reading of answers that takes what refuses to its refusal undoes `refuse`
pub refusal_back : {A X : Type 0} (f : Answer A → X) (g : Refusal → X) → ((n : ℕ) → f (refused n) ≡ g (refusal_of n))
    → ((x : Fault) → f (unsound x) ≡ g (Unsound x)) → (r : Refusal) → f (refuse r) ≡ g r
refusal_back f g p q (Unsound x) = q x
refusal_back f g p q Closed = p (number_of Closed)
refusal_back f g p q DeadHandle = p (number_of DeadHandle)
refusal_back f g p q Full = p (number_of Full)
refusal_back f g p q ShortList = p (number_of ShortList)
refusal_back f g p q TimeOverflow = p (number_of TimeOverflow)
refusal_back f g p q CounterBehind = p (number_of CounterBehind)
refusal_back f g p q WrongMode = p (number_of WrongMode)
refusal_back f g p q ZeroPeriod = p (number_of ZeroPeriod)
refusal_back f g p q NotFired = p (number_of NotFired)
refusal_back f g p q VacantSlot = p (number_of VacantSlot)
refusal_back f g p q BadRecord = p (number_of BadRecord)
refusal_back f g p q BadImage = p (number_of BadImage)

-- no two refusals are answered alike: none but 1 shares its number with another, and 1 has the fault beside it
pub refuse_apart : {A : Type 0} → TellsApart (refuse {A = A})
refuse_apart {A} = undone_apart refuse back (refusal_back back (λ (r : Refusal). r) (λ n. refl) (λ x. refl))
  where
    back : Answer A → Refusal
    back (refused n) = refusal_of n
    back (unsound x) = Unsound x
    back (accepted v) = Closed

pub number_no_second : NoSecond Numbers
number_no_second = by_rule (λ (n : ℕ). n) number_of plain_apart

-- the result that says this, where the values can be read back
abbrev pub result_of : {A B : Type 0} → (B → A) → Answer B → Result A Refusal
result_of g (accepted v) = Ok (g v)
result_of g (refused n) = Err (refusal_of n)
result_of g (unsound f) = Err (Unsound f)

pub result_back : {A B : Type 0} (f : A → B) (g : B → A) → ((v : A) → g (f v) ≡ v)
    → (r : Result A Refusal) → result_of g (said_by f r) ≡ r
result_back f g e (Ok v) = ap Ok (e v)
result_back f g e (Err r) = refusal_back (result_of g) Err (λ n. refl) (λ x. refl) r

-- what a result says tells any two apart, and so does what an outcome says, where the values can be read back
pub said_by_apart : {A B : Type 0} (f : A → B) (g : B → A) → ((v : A) → g (f v) ≡ v) → TellsApart (said_by f)
said_by_apart f g e = undone_apart (said_by f) (result_of g) (result_back f g e)

pub told_by_apart : {S A B : Type 0} (f : A → B) (g : B → A) → ((v : A) → g (f v) ≡ v) → TellsApart (told_by {S = S} f)
told_by_apart {S} {A} {B} f g e =
    undone_apart (told_by f) back
    (λ (r : Code.Outcome S A) i. record { state = r.state; answer = result_back f g e r.answer i })
  where
    back : Outcome S B → Code.Outcome S A
    back o = record { state = o.state; answer = result_of g o.answer }

-- what a sum of times says tells any two apart, and what a difference says
pub said_apart : TellsApart said
said_apart = said_by_apart (λ (t : ℕ). t) (λ (t : ℕ). t) (λ t. refl)

pub left_apart : TellsApart said_left
left_apart = said_by_apart (λ (z : ℤ). z) (λ (z : ℤ). z) (λ z. refl)

pub sum_no_second : NoSecond (λ (q : ℕ × ℕ) (r : Result ℕ Refusal). Sums q.0 q.1 r)
sum_no_second = by_rule said (λ (q : ℕ × ℕ). timely (q.0 + q.1)) said_apart

pub difference_no_second : NoSecond (λ (q : ℕ × ℕ) (r : Result ℤ Refusal). Differs q.0 q.1 r)
difference_no_second = by_rule said_left (λ (q : ℕ × ℕ). difference_of q.0 q.1) left_apart

-- an outcome made has no second answer
pub given_no_second : {S A : Type 0} → NoSecond (λ (q : S × A) (r : Code.Outcome S A). Gives q.0 q.1 r)
given_no_second {S} {A} =
    by_rule (λ (r : Code.Outcome S A). r) (λ (q : S × A). record { state = q.0; answer = Ok q.1 }) plain_apart

pub kept_no_second : {S A : Type 0} → NoSecond (λ (q : S × Refusal) (r : Code.Outcome S A). Keeps q.0 q.1 r)
kept_no_second {S} {A} =
    by_rule (λ (r : Code.Outcome S A). r) (λ (q : S × Refusal). record { state = q.0; answer = Err q.1 }) plain_apart

pub size_no_second : NoSecond Sizes
size_no_second = by_rule (λ (n : ℕ). n) nat_abs plain_apart

-- a fault is told by its kind and where it is, and the two functions that say them have no second answer
pub fault_apart : (f g : Fault) → kind_of f ≡ kind_of g → where_of f ≡ where_of g → f ≡ g
fault_apart f g k w = sym (back f) ∙ (λ i. made (k i) (w i)) ∙ back g
  where
    made : ℕ → ℕ → Fault
    made n k = get_or (Count ∷ Count ∷ Position k ∷ Order k ∷ FreeChain k ∷ List k ∷ Place k ∷ []) n Count

    back : (f : Fault) → made (kind_of f) (where_of f) ≡ f
    back Count = refl
    back (Position i) = refl
    back (Order i) = refl
    back (FreeChain k) = refl
    back (List k) = refl
    back (Place p) = refl

pub kind_no_second : NoSecond Kinds
kind_no_second = by_rule (λ (n : ℕ). n) kind_of plain_apart

pub at_no_second : NoSecond Stands
at_no_second = by_rule (λ (n : ℕ). n) where_of plain_apart

-- what a test says tells any two apart
pub verdict_apart : TellsApart said_verdict
verdict_apart = undone_apart said_verdict verdict_of back
  where
    verdict_of : Option Fault → Result ⊤ Fault
    verdict_of none = Ok tt
    verdict_of (some f) = Err f

    back : (v : Result ⊤ Fault) → verdict_of (said_verdict v) ≡ v
    back (Ok tt) = refl
    back (Err f) = refl
