-- Reading and writing an image: what is refused, in which order, and what is had otherwise.
-- Assumes nothing.
use Rattle.std.specs.Prelude.{cond, List, ℕ, eqb, length, Result, ⊤}
use Rattle.std.proofs.Math.Option.{Option, none, some}
use Rattle.refusals.specs.declared.fault.Fault.{Fault}
use Rattle.refusals.specs.declared.Refusal.{Refusal}
use Rattle.refusals.specs.declared.Refusal.TheVariants.{Unsound, BadImage}
use Rattle.refusals.specs.declared.outcome.Outcome as Code
use Rattle.refusals.specs.Outcomes.{said_by, told_by}
use Rattle.refusals.specs.Answer.{Answer, refuse, Outcome, Nothing, done, kept}
use Rattle.state.specs.State.{fresh_of}
use Rattle.state.specs.Faults.{fault_of}
use Rattle.state.specs.declared.Set.{Set}
use Rattle.image.specs.Image.{size, image_fine, image_of, set_from}

-- what a reading that is refused hands back: the fresh set
abbrev pub barred : Refusal → Outcome Set Nothing
barred r = kept fresh_of (refuse r)

-- a set that has a fault is refused with 1 and the fault
abbrev pub read_by : Set → Option Fault → Outcome Set Nothing
read_by s none = done s
read_by s (some f) = barred (Unsound f)

-- READ: what is no image is refused with 13, and then a set that is not sound with 1
unfoldable pub read_of : List ℕ → Outcome Set Nothing
read_of l = cond (image_fine l) (read_by (set_from l) (fault_of (set_from l))) (barred BadImage)

-- WRITE: bytes of another length are refused with 13, and then a set that is not sound with 1; refused, the bytes stay
abbrev pub written_by : Set → List ℕ → Option Fault → Outcome (List ℕ) Nothing
written_by s out none = done (image_of s)
written_by s out (some f) = kept out (refuse (Unsound f))

unfoldable pub write_of : Set → List ℕ → Outcome (List ℕ) Nothing
write_of s out = cond (eqb (length out) size) (written_by s out (fault_of s)) (kept out (refuse BadImage))

-- what the code's answers say
abbrev pub said : Result ⊤ Refusal → Answer Nothing
said = said_by (λ v. v)

abbrev pub told_reading : Code.Outcome Set ⊤ → Outcome Set Nothing
told_reading = told_by (λ v. v)

abbrev pub told_writing : List ℕ → Result ⊤ Refusal → Outcome (List ℕ) Nothing
told_writing out' r = record { state = out'; answer = said r }
