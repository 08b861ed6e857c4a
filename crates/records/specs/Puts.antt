-- What the functions promise that put the parts of a line into lent bytes: each puts a text behind what is written.
-- Assumes nothing.
use Rattle.std.specs.Prelude.{◌≡◌, Option, Result, List, [], ◌∷◌, ℕ, ◌+◌, ◌*◌, ◌≤◌, length}
use Rattle.std.proofs.lemmas.List.Edits.{sets}
use Rattle.refusals.specs.declared.Refusal.{Refusal}
use Rattle.refusals.specs.Numbers.{number_of}
use Rattle.word.specs.declared.Polled.{Polled}
use Rattle.word.specs.Rules as Word
use Rattle.heap.specs.Capacity.{cap}
use Rattle.state.specs.Handles.{named_by}
use Rattle.timers.specs.declared.Reply.{Reply}
use Rattle.timers.specs.Calls.{said, value_of, poll_by}
use Rattle.records.specs.declared.Made.{Made}
use Rattle.records.specs.declared.text.Pen.{Pen}
use Rattle.records.specs.Answers.{said_wake, said_line}
use Rattle.records.specs.Lines.{decimal, spaced, name_text, handles_text, wake_text, report_text, values_text, answer_text, line_of, number_room, handle_room, report_room, answer_room, room}

-- there is room for n bytes more
abbrev pub HasRoom : ℕ → Pen → Type 0
HasRoom n p = p.at + n ≤ length p.out.now

-- the text t, of at most k bytes, is stored in the bytes of p from where it stands on, byte by byte, which gives those of p', and p'
-- stands behind it
pub record Puts (k : ℕ) (p : Pen) (t : List ℕ) (p' : Pen) : Type 0 where
  pub written : p'.out.now ≡ sets p.out.now p.at t
  pub next : p'.at ≡ p.at + length t
  pub short : length t ≤ k
  -- the bytes are still those that were lent, and as many
  pub lent : p'.out.ghost_name ≡ p.out.ghost_name
  pub long : length p'.out.now ≡ length p.out.now

-- a whole line
abbrev pub PutsLine : Result Made Refusal → List ℕ → Pen → Pen → Type 0
PutsLine k l p p' = Puts room p (line_of (said_line k) l) p'

-- what a call answered
abbrev pub PutsAnswer : Result Reply Refusal → Option ℕ → List ℕ → Pen → Pen → Type 0
PutsAnswer a w l p p' = Puts answer_room p (answer_text (said a) (said_wake w) l) p'

-- the values of an accepted call
abbrev pub PutsValues : Reply → Option ℕ → List ℕ → Pen → Pen → Type 0
PutsValues y w l p p' = Puts (report_room cap) p (values_text (value_of y) (said_wake w) l) p'

-- the words that were reported, and the wake
abbrev pub PutsReport : List ℕ → Option ℕ → Pen → Pen → Type 0
PutsReport ws w p p' = Puts (report_room (length ws)) p (report_text ws (said_wake w)) p'

-- whom words name
abbrev pub PutsHandles : List ℕ → Pen → Pen → Type 0
PutsHandles ws p p' = Puts (length ws * handle_room) p (handles_text ws) p'

-- a blank, and whom a word names; a wake; a refusal; a number
abbrev pub PutsHandle : ℕ → Pen → Pen → Type 0
PutsHandle w p p' = Puts handle_room p (spaced (name_text (named_by w))) p'

abbrev pub PutsWake : Option ℕ → Pen → Pen → Type 0
PutsWake w p p' = Puts number_room p (spaced (wake_text (said_wake w))) p'

abbrev pub PutsRefusal : Refusal → Pen → Pen → Type 0
PutsRefusal r p p' = Puts number_room p (spaced (decimal (number_of r))) p'

abbrev pub PutsNumber : ℕ → Pen → Pen → Type 0
PutsNumber n p p' = Puts number_room p (spaced (decimal n)) p'

-- the digits of a number; two bytes; one
abbrev pub PutsDigits : ℕ → Pen → Pen → Type 0
PutsDigits n p p' = Puts 20 p (decimal n) p'

abbrev pub PutsTwo : ℕ → ℕ → Pen → Pen → Type 0
PutsTwo a b p p' = Puts 2 p (a ∷ b ∷ []) p'

abbrev pub PutsOne : ℕ → Pen → Pen → Type 0
PutsOne b p p' = Puts 1 p (b ∷ []) p'

-- the number of what a poll finds
abbrev pub Polls : Polled → ℕ → Type 0
Polls p r = r ≡ poll_by (Word.said p)
