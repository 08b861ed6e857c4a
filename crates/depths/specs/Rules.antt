-- The rules of the calls and queries that are measured: the set that each is made on, and the number that is told of its answer. What
-- each does is in the rules of `timers`.
-- Assumes nothing.
use Rattle.std.specs.Prelude.{Result, Ok, Err, cond, List, [], ◌∷◌, ℕ, zero, suc, ◌+◌, ◌-◌, ◌/◌, ◌%◌, get_or, replicate}
use Rattle.refusals.specs.declared.Refusal.{Refusal}
use Rattle.refusals.specs.Numbers.{number_of}
use Rattle.refusals.specs.Answer.{Answer, Outcome, number_in}
use Rattle.heap.specs.Capacity.{cap}
use Rattle.interval.specs.declared.Policy.TheVariants.{Skip}
use Rattle.state.specs.declared.Set.{Set}
use Rattle.state.specs.declared.Handle.{Handle}
use Rattle.state.specs.State.{fresh_of}
use Rattle.state.specs.Faults.{sound_of}
use Rattle.timers.specs.declared.Call.{Call}
use Rattle.timers.specs.declared.Call.TheVariants as C
use Rattle.timers.specs.Calls.{Value, Lent, step}

-- the first handle of a place
abbrev pub handle_at : ℕ → Handle
handle_at p = record { place = record { 0 = p }; uses = 0 }

-- the calls that have a number below 10, the first 0
abbrev pub table : ℕ → ℕ → List Call
table p v =
    C.Add v
    ∷ C.Reset (handle_at p) v
    ∷ C.Cancel (handle_at p)
    ∷ C.Drain
    ∷ C.Advance v
    ∷ C.Turn v
    ∷ C.NextWake
    ∷ C.Poll (handle_at p)
    ∷ C.Close
    ∷ C.Tick (handle_at p) Skip v v
    ∷ []

-- the call with a number; from 10 on it is an interval reset
unfoldable pub call_in : ℕ → ℕ → ℕ → Call
call_in n p v = get_or (table p v) n (C.Restart (handle_at p) v v)

-- the call for a place, with one more as the deadline or the reading
unfoldable pub made_of : Set → ℕ → ℕ → Set
made_of s n p = (step s (call_in n p (p + 1)) (replicate cap 0)).state.set

-- so many places, from the p-th on
unfoldable pub each_from : ℕ → ℕ → ℕ → Set → Set
each_from zero n p s = s
each_from (suc k) n p s = each_from k n (p + 1) (made_of s n p)

-- a stage: the lower half of the low byte is the call's number, the upper half how many of the first places are left out
unfoldable pub each_of : ℕ → Set → Set
each_of x s = each_from (cap - x / 16 % 16) (x % 16) (x / 16 % 16) s

-- four stages, the lowest byte first
unfoldable pub built_of : ℕ → Set
built_of x = each_of (x / 16777216) (each_of (x / 65536) (each_of (x / 256) (each_of x fresh_of)))

-- the number of a refusal, and 0 for an answer
abbrev pub code_of : {A : Type 0} → Result A Refusal → ℕ
code_of (Ok v) = 0
code_of (Err r) = number_of r

-- what is told of an outcome, and 100 where its set is not sound
abbrev pub told_of : Outcome Set Value → ℕ
told_of o = cond (sound_of o.state) (number_in o.answer) 100

-- an outcome without the list that was lent
abbrev pub plain : Outcome Lent Value → Outcome Set Value
plain o = record { state = o.state.set; answer = o.answer }

-- the list that is lent
abbrev pub blank : List ℕ
blank = replicate cap 0

-- what whoever measures sees: the answer, and the two lent numbers
pub record Seen : Type 0 where
  pub answer : ℕ
  pub before : ℕ
  pub after : ℕ

abbrev pub seen : ℕ → ℕ → ℕ → Seen
seen r b a = record { answer = r; before = b; after = a }

-- both numbers are 1 in the end
abbrev pub seen_of : Outcome Set Value → Seen
seen_of o = seen (told_of o) 1 1

-- and of a query, which hands no set back
abbrev pub seen_answer : {A : Type 0} → Answer A → Seen
seen_answer a = seen (number_in a) 1 1
