-- What a worked trace is, and when it is right: calls on the fresh engine, each with the list that is lent for it, the answer that it
-- must get and the handles that it must report; then what the ledger must have, and the next wake that the engine must answer.
-- Assumes nothing.
use Rattle.std.specs.Prelude.{Bool, true, false, cond, ◌&&◌, List, [], ◌∷◌, map, ℕ, min, eqb, replicate}
use Rattle.std.proofs.Math.Option.{Option, none, some}
use Rattle.theory.specs.Tests.{bit}
use Rattle.refusals.specs.Answer.{Answer, accepted}
use Rattle.heap.specs.Capacity.{cap}
use Rattle.state.specs.declared.Handle.{Handle}
use Rattle.timers.specs.declared.Call.{Call}
use Rattle.timers.specs.declared.Call.TheVariants as C
use Rattle.timers.specs.Values.{Value, wake, handle_in}
use Rattle.promises.specs.Bench.{same_numbers, code}
use Rattle.promises.specs.Turns.{Engine, Line, Ledger, Run, seen, owed, next, run}

-- a call as it is made, with its lent list, and what it must answer and report
pub record Made : Type 0 where
  pub call : Call
  pub list : List ℕ
  pub answer : Answer Value
  pub reports : List Handle

infixl 70 ◌answers◌
infixl 70 ◌reporting◌
infixl 70 ◌lending◌
-- a call with a list of just enough room, that reports nothing
abbrev pub ◌answers◌ : Call → Answer Value → Made
c answers a = record { call = c; list = replicate cap 0; answer = a; reports = [] }

-- it reports these, in this order
abbrev pub ◌reporting◌ : Made → List Handle → Made
m reporting hs = record { call = m.call; list = m.list; answer = m.answer; reports = hs }

-- it is lent a list of this length
abbrev pub ◌lending◌ : Made → ℕ → Made
m lending n = record { call = m.call; list = replicate n 0; answer = m.answer; reports = m.reports }

-- what the ledger must have of a handle: its line, and whether it is owed
pub record Has : Type 0 where
  pub handle : Handle
  pub line : Line
  pub owed : Bool

-- it is owed, or not, and this is its line
abbrev pub is_owed : Handle → Line → Has
is_owed h l = record { handle = h; line = l; owed = true }

abbrev pub not_owed : Handle → Line → Has
not_owed h l = record { handle = h; line = l; owed = false }

-- a trace: its number and its calls; and at its end some lines, whether the ledger says closed, the least deadline owed of the handles
-- that adds answered, and the next wake
pub record Trace : Type 0 where
  pub number : ℕ
  pub calls : List Made
  pub lines : List Has
  pub closed : Bool
  pub least : Option ℕ
  pub wake : Option ℕ

abbrev pub trace : ℕ → List Made → List Has → (closed : Bool) (least wake : Option ℕ) → Trace
trace n cs ls b t w = record { number = n; calls = cs; lines = ls; closed = b; least = t; wake = w }

-- lines, handles and times as numbers, to compare them by
abbrev pub line_code : Line → Bool → List ℕ
line_code l o = bit l.live ∷ l.due ∷ bit l.reported ∷ bit l.drained ∷ l.resets ∷ bit l.leaving ∷ bit o ∷ []

abbrev pub handles_code : List Handle → List ℕ
handles_code [] = []
handles_code (h ∷ hs) = h.place.0 ∷ h.uses ∷ handles_code hs

abbrev pub time_code : Option ℕ → List ℕ
time_code none = []
time_code (some t) = t ∷ []

-- the calls as the statement has them
abbrev pub calls_of : List Made → List (Call × List ℕ)
calls_of ms = map (λ m. (m.call, m.list)) ms

-- whether the ledger has these lines
abbrev pub lined : Ledger → List Has → Bool
lined L [] = true
lined L (x ∷ xs) =
    let l = L.line x.handle in same_numbers (line_code l (owed l)) (line_code x.line x.owed) && lined L xs

-- the handles that adds must answer
abbrev pub added_in : List Made → List (Option Handle)
added_in ms = map (λ m. handle_in m.answer) ms

-- the lesser of a deadline and a least one so far
abbrev pub lesser : ℕ → Option ℕ → Option ℕ
lesser d none = some d
lesser d (some t) = some (min d t)

-- the least deadline owed of some handles
abbrev pub least_in : Ledger → List (Option Handle) → Option ℕ
least_in L [] = none
least_in L (none ∷ hs) = least_in L hs
least_in L (some h ∷ hs) = let l = L.line h in cond (owed l) (lesser l.due (least_in L hs)) (least_in L hs)

-- of any engine
module _ (E : Engine) where
  -- whether each call answers and reports what it must, one after the other
  abbrev pub answered : Run E → List Made → Bool
  answered r [] = true
  answered r (m ∷ ms) =
      let a = seen (E.step r.state m.call m.list) in
      same_numbers (code a.answer) (code m.answer)
      && (same_numbers (handles_code a.reports) (handles_code m.reports) && answered (next E r m.call m.list) ms)

  -- whether a trace ends as it must
  abbrev pub ended : Run E → Trace → Bool
  ended r t =
      lined r.ledger t.lines
      && (eqb (bit r.ledger.closed) (bit t.closed)
      && (same_numbers (time_code (least_in r.ledger (added_in t.calls))) (time_code t.least)
      && same_numbers (code (E.step r.state C.NextWake []).answer) (code (accepted (wake t.wake)))))

  -- whether all of it is as it must be
  abbrev pub right : Trace → Bool
  right t = answered (run E []) t.calls && ended (run E (calls_of t.calls)) t

  -- the numbers of the traces that are wrong
  abbrev pub wrong : List Trace → List ℕ
  wrong [] = []
  wrong (t ∷ ts) = cond (right t) (wrong ts) (t.number ∷ wrong ts)
