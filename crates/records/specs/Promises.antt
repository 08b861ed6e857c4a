-- What each function promises of its answer r, and of the lent bytes as they are at the end.
-- Assumes nothing.
use Rattle.std.specs.Prelude.{◌≡◌, Bool, Option, Result, List, ℕ, ◌≤◌, length, take}
use Rattle.refusals.specs.declared.Refusal.{Refusal}
use Rattle.refusals.specs.declared.outcome.Outcome as Code
use Rattle.state.specs.declared.Set.{Set}
use Rattle.timers.specs.declared.Call.{Call}
use Rattle.timers.specs.declared.Reply.{Reply}
use Rattle.timers.specs.Calls.{said}
use Rattle.records.specs.declared.fields.Fields.{Fields}
use Rattle.records.specs.declared.Made.{Made}
use Rattle.records.specs.declared.Answered.{Answered}
use Rattle.records.specs.Answers.{operation_of, wake_in, wake_after, answer_of, replay_of, said_wake, said_line, told_by, replayed_by}
use Rattle.records.specs.Lines.{line_of, written_of}
use Rattle.records.specs.Records.{fields_of, no_handle, no_value, bare, provided, call_of, decode_of, said_decoded}

abbrev pub Decodes : List ℕ → Result Call Refusal → Type 0
Decodes bytes r = said_decoded r ≡ decode_of bytes

abbrev pub Answers : Set → Call → List ℕ → Answered → List ℕ → Type 0
Answers s c l r l' = told_by r l' ≡ answer_of s c l

abbrev pub Replays : Set → List ℕ → List ℕ → Code.Outcome Set Made → List ℕ → Type 0
Replays s bytes l r l' = replayed_by r l' ≡ replay_of s bytes l

-- r bytes of `out'` are the line, and the rest is as it was in `out`. The other two follow from that; with them a caller may lend
-- `&out[..r]` without a proof
pub record Writes (k : Result Made Refusal) (l out : List ℕ) (r : ℕ) (out' : List ℕ) : Type 0 where
  pub written : record { count = r; bytes = out' } ≡ written_of (line_of (said_line k) l) out
  pub within : r ≤ length out'
  pub counted : r ≡ length (take r out')

-- and the functions inside

abbrev pub Operates : Call → ℕ → Type 0
Operates c r = r ≡ operation_of c

abbrev pub WakesIn : Result Reply Refusal → Option ℕ → Type 0
WakesIn a r = said_wake r ≡ wake_in (said a)

abbrev pub WakesAfter : Set → Result Reply Refusal → Option ℕ → Type 0
WakesAfter s a r = said_wake r ≡ wake_after s (said a)

abbrev pub Parts : List ℕ → Fields → Type 0
Parts bytes r = r ≡ fields_of bytes

abbrev pub Calls : Fields → Result Call Refusal → Type 0
Calls f r = said_decoded r ≡ call_of f

abbrev pub HasNoHandle : Fields → Bool → Type 0
HasNoHandle f r = r ≡ no_handle f

abbrev pub HasNoValue : Fields → Bool → Type 0
HasNoValue f r = r ≡ no_value f

abbrev pub IsBare : Fields → Bool → Type 0
IsBare f r = r ≡ bare f

abbrev pub Provides : Bool → Call → Result Call Refusal → Type 0
Provides b c r = said_decoded r ≡ provided b c
