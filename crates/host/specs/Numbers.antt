-- The numbers that a C host sees: the status of an answer, the handle in a word, and report bytes.
-- Assumes nothing.
use Rattle.std.specs.Prelude.{List, ℕ, ◌+◌, ◌*◌, ◌/◌, ◌%◌, ◌^◌, min, take, replicate}
use Rattle.std.proofs.Math.Option.{Option, none, some}
use Rattle.std.proofs.lemmas.List.Edits.{sets}
use Rattle.refusals.specs.Answer.{Answer, accepted, refused, unsound}
use Rattle.refusals.specs.Faults.{kind_of, where_of}
use Rattle.digits.specs.Digits.{digits}
use Rattle.digits.specs.Rows.{blocks}
use Rattle.heap.specs.Capacity.{cap}
use Rattle.state.specs.declared.Handle.{Handle}
use Rattle.state.specs.Handles.{named_by}

-- STATUS: 0 of an accepted call; else the refusal's number in the lowest 8 bits and, with 1, the kind of the fault in the next 8 and
-- where it is in the next 32
abbrev pub status_of : {A : Type 0} → Answer A → ℕ
status_of (accepted v) = 0
status_of (refused n) = n
status_of (unsound f) = 1 + kind_of f * 2 ^ 8 + where_of f % 2 ^ 32 * 2 ^ 16

-- HANDLE: the one that a word names. A word in which a zero bit is set names nobody, and counts as a handle whose place is out of
-- range, which is dead in every set
abbrev pub nobody : Handle
nobody = record { place = record { 0 = 65535 }; uses = 0 }

abbrev pub or_nobody : Option Handle → Handle
or_nobody none = nobody
or_nobody (some h) = h

abbrev pub handle_from : ℕ → Handle
handle_from w = or_nobody (named_by w)

-- REPORT BYTES: so many bytes have room for a list of one word for each eight, of which no more are lent than there are timers; they
-- are zero. Under eight bytes a timer the list is too short, and a turn refuses it with 5
abbrev pub room_in : ℕ → ℕ
room_in n = min (n / 8) cap

abbrev pub list_in : ℕ → List ℕ
list_in n = take (room_in n) (replicate cap 0)

-- the first n words of a list, eight bytes each, from the start of the bytes on; the rest of these stays
unfoldable pub word_bytes : ℕ → List ℕ → List ℕ
word_bytes n l = blocks (digits 8) (take n l)

abbrev pub reported_in : List ℕ → ℕ → List ℕ → List ℕ
reported_in out n l = sets out 0 (word_bytes n l)
