-- DEMAND 3 OF ONE IMAGE: the engine that a C host has. Its state is the bytes of an image that nobody else writes, and its step is
-- what the contracts of the exported calls say (the crate `host`, specs/Seen.antt): of each call a host sees the status, the image,
-- and the numbers and report bytes that it lent, and nothing else. It meets demand 3 (proofs/Images.antt).
-- Assumes nothing.
use Rattle.std.specs.Prelude.{◌≡◌, Bool, true, false, cond, ◌&&◌, List, [], ◌++◌, ℕ, ◌*◌, ◌%◌, ◌^◌, ltb, eqb, drop, replicate}
use Rattle.std.proofs.Math.Option.{Option, none, some}
use Rattle.refusals.specs.Answer.{Answer, accepted, refused, Outcome, kept}
use Rattle.digits.specs.Digits.{digits, value_at}
use Rattle.digits.specs.Rows.{rows, blocks}
use Rattle.state.specs.declared.Handle.{Handle}
use Rattle.state.specs.Handles.{handle_word}
use Rattle.timers.specs.declared.Call.{Call}
use Rattle.timers.specs.declared.Call.TheVariants as C
use Rattle.timers.specs.Values.{Value, nothing, handle, counts, wake}
use Rattle.image.specs.Image.{size}
use Rattle.host.specs.Numbers.{handle_from}
use Rattle.host.specs.Seen.{fresh_image, added_image, added_handle, added_status, reset_image, reset_status, cancelled_image, cancelled_status, turned_image, turned_reports, turned_count, turned_status, woken_any, woken_at, woken_status}
use Rattle.promises.specs.Turns.{Engine}

-- WHAT A STATUS SAYS: 0 accepted, with what the call handed back; else refused, with the number in the lowest 8 bits
abbrev pub refusal_in : ℕ → ℕ
refusal_in status = status % 2 ^ 8

abbrev pub by_status : ℕ → Value → Answer Value
by_status status v = cond (eqb status 0) (accepted v) (refused (refusal_in status))

-- the wake that was handed back: none where the first number is 0, else the second
abbrev pub wake_of : ℕ → ℕ → Option ℕ
wake_of any at = cond (eqb any 0) none (some at)

-- REPORT BYTES, eight a word: those that are lent for a list of words, and the first n words of such bytes
abbrev pub bytes_for : List ℕ → List ℕ
bytes_for l = blocks (digits 8) l

abbrev pub start_of : ℕ → ℕ
start_of j = j * 8

abbrev pub words_in : ℕ → List ℕ → List ℕ
words_in n out = rows (λ j. value_at 8 out (start_of j)) n

-- the lent list after a turn with n reports: those are read of the report bytes, and the rest stays, as the contract says of the rest
-- of the bytes. Of a list of 64-bit words all is what the bytes say (`turn_bytes`, proofs/Images/Calls.antt)
abbrev pub list_after : List ℕ → ℕ → List ℕ → List ℕ
list_after l n out = words_in n out ++ drop n l

-- A CALL ON AN IMAGE. A handle goes in and comes out as its word; the numbers that are lent are 0 before the call. What is not
-- exported is not asked
unfoldable pub hosted_step : List ℕ → Call → List ℕ → Outcome (List ℕ × List ℕ) Value
hosted_step b (C.Add d) l = record {
  state = (added_image b d, l);
  answer = by_status (added_status b d) (handle (handle_from (added_handle b d 0)));
}
hosted_step b (C.Reset h d) l = record {
  state = (reset_image b (handle_word h) d, l);
  answer = by_status (reset_status b (handle_word h) d) nothing;
}
hosted_step b (C.Cancel h) l = record {
  state = (cancelled_image b (handle_word h), l);
  answer = by_status (cancelled_status b (handle_word h)) nothing;
}
hosted_step b (C.Turn N) l =
    let out = bytes_for l in
    let n = turned_count b N out 0 in
    record { state = (turned_image b N out, list_after l n (turned_reports b N out)); answer = by_status (turned_status b N out) (counts n 0) }
hosted_step b C.NextWake l = record { state = (b, l); answer = by_status (woken_status b) (wake (wake_of (woken_any b 0) (woken_at b 0))) }
hosted_step b C.Drain l = kept (b, l) (refused 0)
hosted_step b (C.Advance N) l = kept (b, l) (refused 0)
hosted_step b (C.Poll h) l = kept (b, l) (refused 0)
hosted_step b C.Close l = kept (b, l) (refused 0)
hosted_step b (C.Tick h p period N) l = kept (b, l) (refused 0)
hosted_step b (C.Restart h period N) l = kept (b, l) (refused 0)

-- bytes of an image's length, as a host lends them for a fresh one
unfoldable pub lent_bytes : List ℕ
lent_bytes = replicate size 0

abbrev pub hosted : Engine
hosted = record { State = List ℕ; fresh = fresh_image lent_bytes; step = hosted_step }

-- WHAT IT IS ASKED: the five calls, with numbers of 64 bits; a handle is one that a word of 64 bits names
abbrev pub in_word : Handle → Bool
in_word h = ltb h.uses (2 ^ 32) && ltb h.place.0 (2 ^ 16)

abbrev pub exported : Call → Bool
exported (C.Add d) = ltb d (2 ^ 64)
exported (C.Reset h d) = in_word h && ltb d (2 ^ 64)
exported (C.Cancel h) = in_word h
exported (C.Turn N) = ltb N (2 ^ 64)
exported C.NextWake = true
exported C.Drain = false
exported (C.Advance N) = false
exported (C.Poll h) = false
exported C.Close = false
exported (C.Tick h p period N) = false
exported (C.Restart h period N) = false

-- AN OLDER IMAGE PUT BACK brings back its own history. One timer is added, and the image is kept; another is added, whose handle is
-- this; the kept image is put back, and a third timer is added: its handle is the same, and whoever has the second's handle cancels
-- the third with it. Demand 3 speaks of no host that does so: its images are one, which nobody else writes
abbrev pub image_after : List ℕ → Call → List ℕ
image_after b c = (hosted.step b c []).state.0

abbrev pub kept_image : List ℕ
kept_image = image_after hosted.fresh (C.Add 10)

abbrev pub given_twice : Handle
given_twice = record { place = record { 0 = 1 }; uses = 0 }

pub record PutBack : Type 0 where
  pub given : (hosted.step kept_image (C.Add 20) []).answer ≡ accepted (handle given_twice)
  pub given_again : (hosted.step kept_image (C.Add 30) []).answer ≡ accepted (handle given_twice)
  pub taken_for_it : (hosted.step (image_after kept_image (C.Add 30)) (C.Cancel given_twice) []).answer ≡ accepted nothing
