-- Worked records and lines, by computation: those of row 13, and some that are refused.
-- Assumes nothing.
use mathlib.Core.Path.{◌≡◌, refl}
use mathlib.Core.List.{List, [], ◌∷◌}
use Prim.Native.Nat.{ℕ}
use mathlib.Core.Option.{none, some}
use Rattle.refusals.specs.Answer.{accepted, refused}
use Rattle.timers.specs.declared.Call.TheVariants as C
use Rattle.state.specs.declared.Handle.{Handle}
use Rattle.timers.specs.Calls.{nothing, handle, counts, wake, polled}
use Rattle.records.specs.Answers.{unread, made}
use Rattle.records.specs.Lines.{text, decimal, values_text, answer_text, line_of}
use Rattle.records.specs.Records.{provided, fields_of, call_of, decode_of}

-- a record: its first two bytes, the last byte of the use, the last byte of the value
abbrev bytes : ℕ → ℕ → ℕ → ℕ → List ℕ
bytes a b u v = a ∷ b ∷ 0 ∷ 0 ∷ 0 ∷ u ∷ 0 ∷ 0 ∷ 0 ∷ 0 ∷ 0 ∷ 0 ∷ 0 ∷ v ∷ []

-- 0000 00000000 000000000000000a
pub an_add : decode_of (bytes 0 0 0 10) ≡ accepted (C.Add 10)
unfolding decode_of call_of fields_of provided
an_add = refl

-- 5000 00000000 000000000000000a
pub a_turn : decode_of (bytes 0x50 0 0 10) ≡ accepted (C.Turn 10)
unfolding decode_of call_of fields_of provided
a_turn = refl

-- 7001 00000000 0000000000000000
pub a_poll : decode_of (bytes 0x70 1 0 0) ≡ accepted (C.Poll (record { place = record { 0 = 1 }; uses = 0 }))
unfolding decode_of call_of fields_of provided
a_poll = refl

-- a reset uses every field: place 0xabc, use 7, deadline 9
pub a_reset : decode_of (bytes 0x1a 0xbc 7 9) ≡ accepted (C.Reset (record { place = record { 0 = 0xabc }; uses = 7 }) 9)
unfolding decode_of call_of fields_of provided
a_reset = refl

-- operation 9; an add with a place; a poll with a value; a close with a use
pub no_operation : decode_of (bytes 0x90 0 0 0) ≡ refused 12
unfolding decode_of call_of fields_of provided
no_operation = refl

pub add_with_place : decode_of (bytes 0 1 0 10) ≡ refused 12
unfolding decode_of call_of fields_of provided
add_with_place = refl

pub poll_with_value : decode_of (bytes 0x70 1 0 1) ≡ refused 12
unfolding decode_of call_of fields_of provided
poll_with_value = refl

pub close_with_use : decode_of (bytes 0x80 0 1 0) ≡ refused 12
unfolding decode_of call_of fields_of provided
close_with_use = refl

-- the lines of row 13

abbrev handle_at : ℕ → ℕ → Handle
handle_at p u = record { place = record { 0 = p }; uses = u }

pub line_add : line_of (made 0 (accepted (handle (handle_at 2 0))) none) [] ≡ text "0 0 2 0\n"
unfolding line_of answer_text values_text decimal
line_add = refl

-- the list holds three reports, and then words of before
pub line_turn : line_of (made 5 (accepted (counts 3 3)) none) (1 ∷ 0 ∷ 2 ∷ 99 ∷ 99 ∷ []) ≡ text "5 0 3 1:0 0:0 2:0 w -\n"
unfolding line_of answer_text values_text decimal
line_turn = refl

pub line_poll : line_of (made 7 (accepted (polled 1)) none) [] ≡ text "7 0 1\n"
unfolding line_of answer_text values_text decimal
line_poll = refl

pub line_cancel : line_of (made 2 (accepted nothing) none) [] ≡ text "2 0\n"
unfolding line_of answer_text values_text decimal
line_cancel = refl

pub line_dead : line_of (made 7 (refused 3) none) [] ≡ text "7 3\n"
unfolding line_of answer_text values_text decimal
line_dead = refl

-- a record that makes no call; wakes; and the largest numbers

pub line_bad : line_of (unread (refused 12)) [] ≡ text "? 12\n"
unfolding line_of answer_text values_text decimal
line_bad = refl

pub line_wake : line_of (made 6 (accepted (wake (some 18446744073709551615))) none) [] ≡ text "6 0 18446744073709551615\n"
unfolding line_of answer_text values_text decimal
line_wake = refl

pub line_advance : line_of (made 4 (accepted (counts 1 2)) (some 1000)) (0xffff_ffff_0000_ffff ∷ []) ≡ text "4 0 1 65535:4294967295 w 1000\n"
unfolding line_of answer_text values_text decimal
line_advance = refl

-- a word with one of the 16 zero bits set, between two that name handles
pub line_nobody : line_of (made 5 (accepted (counts 3 3)) none) (1 ∷ 65536 ∷ 4294967297 ∷ []) ≡ text "5 0 3 1:0 ? 1:1 w -\n"
unfolding line_of answer_text values_text decimal
line_nobody = refl
