-- The text of a record's line, as its bytes: numbers in decimal, parts with a blank between them, a newline at the end.
-- Assumes nothing.
use Rattle.std.proofs.Math.Option.{Option, none, some}
use Rattle.std.specs.Prelude.{cond, List, [], ◌∷◌, ◌++◌, ℕ, zero, suc, ◌+◌, ◌*◌, ◌/◌, ◌%◌, ltb, length, take, drop}
use Prim.Native.Char.{code}
use Prim.Native.String.{String, [] as empty, ◌∷◌ as more}
use Rattle.refusals.specs.Answer.{Answer, accepted, refused, unsound, number_in}
use Rattle.heap.specs.Capacity.{cap}
use Rattle.state.specs.declared.Handle.{Handle}
use Rattle.state.specs.Handles.{named_by}
use Rattle.timers.specs.Calls.{Value, nothing, handle, counts, wake, polled, time}
use Rattle.records.specs.Answers.{Told, unread, made}

-- a text as its bytes
abbrev pub text : String → List ℕ
text empty = []
text (more c s) = code c ∷ text s

-- a digit below 10 as its byte
abbrev pub digit : ℕ → ℕ
digit d = 48 + d

-- the decimal digits of n, the first the most significant, where there are at most f of them
abbrev pub digits : ℕ → ℕ → List ℕ
digits zero n = []
digits (suc f) n = let before = digits f (n / 10) in cond (ltb n 10) (digit n ∷ []) (before ++ (digit (n % 10) ∷ []))

-- a number in decimal, with no zero in front; it has no more digits than one more than itself
unfoldable pub decimal : ℕ → List ℕ
decimal n = digits (suc n) n

-- a blank, and then a part of the line
abbrev pub spaced : List ℕ → List ℕ
spaced t = text " " ++ t

-- a handle is its place, a colon and its use number
abbrev pub handle_text : Handle → List ℕ
handle_text h = decimal h.place.0 ++ (text ":" ++ decimal h.uses)

-- whom a word names: a handle, or a question mark for nobody
abbrev pub name_text : Option Handle → List ℕ
name_text none = text "?"
name_text (some h) = handle_text h

-- whom the words of a report list name, in their order
abbrev pub handles_text : List ℕ → List ℕ
handles_text [] = []
handles_text (w ∷ ws) = spaced (name_text (named_by w)) ++ handles_text ws

-- a next wake is a time, or a stroke for none
abbrev pub wake_text : Option ℕ → List ℕ
wake_text none = text "-"
wake_text (some t) = decimal t

-- how many words were reported, their handles, and the next wake
abbrev pub report_text : List ℕ → Option ℕ → List ℕ
report_text ws w = spaced (decimal (length ws)) ++ (handles_text ws ++ (text " w" ++ spaced (wake_text w)))

-- the values of an accepted call: of an advance or a turn the reports are the first words of the list, as many as it says
unfoldable pub values_text : Value → Option ℕ → List ℕ → List ℕ
values_text nothing w l = []
values_text (handle h) w l = spaced (decimal h.place.0) ++ spaced (decimal h.uses)
values_text (counts n m) w l = report_text (take n l) w
values_text (wake t) w l = spaced (wake_text t)
values_text (polled n) w l = spaced (decimal n)
values_text (time t) w l = spaced (decimal t)

-- 0 and the values, or the refusal
unfoldable pub answer_text : Answer Value → Option ℕ → List ℕ → List ℕ
answer_text (refused n) w l = spaced (decimal n)
answer_text (unsound x) w l = spaced (decimal 1)
answer_text (accepted v) w l = text " 0" ++ values_text v w l

-- the operation, or `?` for a record that makes no call; then what was answered
unfoldable pub line_of : Told → List ℕ → List ℕ
line_of (unread a) l = text "?" ++ (spaced (decimal (number_in a)) ++ text "\n")
line_of (made o a w) l = decimal o ++ (answer_text a w l ++ text "\n")

-- how long the parts are at most: a number of 64 bits has 20 digits, one of 32 bits has 10; a number and a handle with their blanks; the
-- reports of n handles; what was answered, with no more handles than there are timers; the whole line, newline and all
abbrev pub number_room : ℕ
number_room = 21

abbrev pub handle_room : ℕ
handle_room = 22

abbrev pub report_room : ℕ → ℕ
report_room n = 44 + n * handle_room

abbrev pub answer_room : ℕ
answer_room = 2 + report_room cap

abbrev pub room : ℕ
room = 20 + answer_room + 1

-- what writing a text into bytes answers and leaves: how long it is; the text, and then the bytes that were there
pub record Written : Type 0 where
  pub count : ℕ
  pub bytes : List ℕ

unfoldable pub written_of : List ℕ → List ℕ → Written
written_of t out = record { count = length t; bytes = t ++ drop (length t) out }
