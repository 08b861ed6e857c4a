-- What a C host sees of a call: the status, the image, the report bytes, and the numbers that it lent, all as they are afterwards.
-- Assumes nothing.
use Rattle.std.specs.Prelude.{List, ℕ}
use Rattle.std.proofs.Math.Option.{Option, none, some}
use Rattle.refusals.specs.Answer.{Answer, accepted, refused, unsound}
use Rattle.state.specs.declared.Handle.{Handle}
use Rattle.state.specs.Handles.{handle_word}
use Rattle.timers.specs.Values.{Value, nothing, handle, counts, wake, polled, time, handle_in}
use Rattle.host.specs.Numbers.{status_of}
use Rattle.host.specs.Calls.{fresh_on, add_on, reset_on, cancel_on, turn_on, next_wake_on}

-- FRESH
abbrev pub fresh_image : List ℕ → List ℕ
fresh_image b = (fresh_on b).state

abbrev pub fresh_status : List ℕ → ℕ
fresh_status b = status_of (fresh_on b).answer

-- ADD: the word of the new handle; the number stays where the add is refused
abbrev pub word_or : ℕ → Option Handle → ℕ
word_or n none = n
word_or n (some h) = handle_word h

abbrev pub added_image : List ℕ → ℕ → List ℕ
added_image b d = (add_on b d).state

abbrev pub added_handle : List ℕ → ℕ → ℕ → ℕ
added_handle b d n = word_or n (handle_in (add_on b d).answer)

abbrev pub added_status : List ℕ → ℕ → ℕ
added_status b d = status_of (add_on b d).answer

-- RESET and CANCEL
abbrev pub reset_image : List ℕ → ℕ → ℕ → List ℕ
reset_image b w d = (reset_on b w d).state

abbrev pub reset_status : List ℕ → ℕ → ℕ → ℕ
reset_status b w d = status_of (reset_on b w d).answer

abbrev pub cancelled_image : List ℕ → ℕ → List ℕ
cancelled_image b w = (cancel_on b w).state

abbrev pub cancelled_status : List ℕ → ℕ → ℕ
cancelled_status b w = status_of (cancel_on b w).answer

-- TURN: how many were reported; the number stays where the turn is refused
abbrev pub count_or : ℕ → Answer Value → ℕ
count_or n (accepted nothing) = n
count_or n (accepted (handle h)) = n
count_or n (accepted (counts r p)) = r
count_or n (accepted (wake t)) = n
count_or n (accepted (polled k)) = n
count_or n (accepted (time t)) = n
count_or n (refused k) = n
count_or n (unsound x) = n

abbrev pub turned_image : List ℕ → ℕ → List ℕ → List ℕ
turned_image b N out = (turn_on b N out).state.image

abbrev pub turned_reports : List ℕ → ℕ → List ℕ → List ℕ
turned_reports b N out = (turn_on b N out).state.reports

abbrev pub turned_count : List ℕ → ℕ → List ℕ → ℕ → ℕ
turned_count b N out n = count_or n (turn_on b N out).answer

abbrev pub turned_status : List ℕ → ℕ → List ℕ → ℕ
turned_status b N out = status_of (turn_on b N out).answer

-- NEXT WAKE: whether there is one, 1 or 0, and when; the time stays where there is none, and both where the call is refused
abbrev pub wake_in : Answer Value → Option (Option ℕ)
wake_in (accepted nothing) = none
wake_in (accepted (handle h)) = none
wake_in (accepted (counts r p)) = none
wake_in (accepted (wake t)) = some t
wake_in (accepted (polled k)) = none
wake_in (accepted (time t)) = none
wake_in (refused k) = none
wake_in (unsound x) = none

abbrev pub any_or : ℕ → Option (Option ℕ) → ℕ
any_or n none = n
any_or n (some none) = 0
any_or n (some (some t)) = 1

abbrev pub time_or : ℕ → Option (Option ℕ) → ℕ
time_or n none = n
time_or n (some none) = n
time_or n (some (some t)) = t

abbrev pub woken_any : List ℕ → ℕ → ℕ
woken_any b n = any_or n (wake_in (next_wake_on b))

abbrev pub woken_at : List ℕ → ℕ → ℕ
woken_at b n = time_or n (wake_in (next_wake_on b))

abbrev pub woken_status : List ℕ → ℕ
woken_status b = status_of (next_wake_on b)
