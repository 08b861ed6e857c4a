-- What each function promises: of the image b, the report bytes and the numbers that are lent, as they are afterwards, and of its
-- answer r. A name with a dash is what was lent as it is afterwards.
-- Assumes nothing.
use Rattle.std.specs.Prelude.{◌≡◌, List, ℕ, Result, Ok, Err}
use Rattle.std.proofs.lemmas.List.Edits.{sets}
use Rattle.refusals.specs.declared.Refusal.{Refusal}
use Rattle.refusals.specs.declared.outcome.Outcome as Code
use Rattle.refusals.specs.Answer.{Answer, accepted, refused, unsound, refuse, Outcome, Nothing, kept}
use Rattle.digits.specs.Digits.{digits}
use Rattle.digits.specs.Rows.{blocks}
use Rattle.state.specs.declared.Set.{Set}
use Rattle.timers.specs.declared.Reply.{Reply}
use Rattle.timers.specs.Values.{Value, handle_in}
use Rattle.timers.specs.Calls.{said}
use Rattle.image.specs.Calls.{write_of}
use Rattle.host.specs.Numbers.{status_of}
use Rattle.host.specs.Calls.{add_on, reset_on, cancel_on, turn_on, next_wake_on}
use Rattle.host.specs.Seen.{word_or, count_or, fresh_image, fresh_status, added_image, added_handle, added_status, reset_image, reset_status, cancelled_image, cancelled_status, turned_image, turned_reports, turned_count, turned_status, woken_any, woken_at, woken_status}

pub record Freshens (b b' : List ℕ) (r : ℕ) : Type 0 where
  pub image : b' ≡ fresh_image b
  pub status : r ≡ fresh_status b

pub record Adds (b : List ℕ) (d n : ℕ) (b' : List ℕ) (n' r : ℕ) : Type 0 where
  pub image : b' ≡ added_image b d
  pub handle : n' ≡ added_handle b d n
  pub status : r ≡ added_status b d

pub record Resets (b : List ℕ) (w d : ℕ) (b' : List ℕ) (r : ℕ) : Type 0 where
  pub image : b' ≡ reset_image b w d
  pub status : r ≡ reset_status b w d

pub record Cancels (b : List ℕ) (w : ℕ) (b' : List ℕ) (r : ℕ) : Type 0 where
  pub image : b' ≡ cancelled_image b w
  pub status : r ≡ cancelled_status b w

pub record Turns (b : List ℕ) (N : ℕ) (out : List ℕ) (n : ℕ) (b' out' : List ℕ) (n' r : ℕ) : Type 0 where
  pub image : b' ≡ turned_image b N out
  pub reports : out' ≡ turned_reports b N out
  pub reported : n' ≡ turned_count b N out n
  pub status : r ≡ turned_status b N out

pub record Wakes (b : List ℕ) (any wake any' wake' r : ℕ) : Type 0 where
  pub whether : any' ≡ woken_any b any
  pub when : wake' ≡ woken_at b wake
  pub status : r ≡ woken_status b

-- and the functions inside

-- what a call answers and leaves of an image
abbrev pub left : {S : Type 0} → S → Result Reply Refusal → Outcome S Value
left k r = record { state = k; answer = said r }

abbrev pub Added : List ℕ → ℕ → List ℕ → Result Reply Refusal → Type 0
Added b d b' r = left b' r ≡ add_on b d

abbrev pub Reset : List ℕ → ℕ → ℕ → List ℕ → Result Reply Refusal → Type 0
Reset b w d b' r = left b' r ≡ reset_on b w d

abbrev pub Cancelled : List ℕ → ℕ → List ℕ → Result Reply Refusal → Type 0
Cancelled b w b' r = left b' r ≡ cancel_on b w

-- a turn, which leaves an image and report bytes
abbrev pub Turned : List ℕ → ℕ → List ℕ → List ℕ → List ℕ → Result Reply Refusal → Type 0
Turned b N out b' out' r = left (record { image = b'; reports = out' }) r ≡ turn_on b N out

-- the numbers that are lent to an add and to a turn
abbrev pub Hands : ℕ → ℕ → Result Reply Refusal → Type 0
Hands n n' r = n' ≡ word_or n (handle_in (said r))

abbrev pub Counts : ℕ → ℕ → Result Reply Refusal → Type 0
Counts n n' r = n' ≡ count_or n (said r)

abbrev pub Woken : List ℕ → Result Reply Refusal → Type 0
Woken b r = said r ≡ next_wake_on b

-- a value, where something else is accepted
abbrev pub given : Value → Answer Nothing → Answer Value
given v (accepted u) = accepted v
given v (refused n) = refused n
given v (unsound x) = unsound x

-- the set of an accepted call is written over the image; a refused call leaves the image
abbrev pub end_of : List ℕ → Answer Value → Set → Outcome (List ℕ) Value
end_of b (accepted v) s = record { state = (write_of s b).state; answer = given v (write_of s b).answer }
end_of b (refused n) s = kept b (refused n)
end_of b (unsound x) s = kept b (unsound x)

abbrev pub Ends : Code.Outcome Set Reply → List ℕ → List ℕ → Result Reply Refusal → Type 0
Ends a b b' r = left b' r ≡ end_of b (said a.answer) a.state

-- what is left of an image, and the status
pub record Leaves {A : Type 0} (o : Outcome (List ℕ) A) (b' : List ℕ) (r : ℕ) : Type 0 where
  pub image : b' ≡ o.state
  pub status : r ≡ status_of o.answer

-- the status of an answer
abbrev pub status_in : {A : Type 0} → Result A Refusal → ℕ
status_in (Ok v) = 0
status_in (Err w) = status_of {A = Nothing} (refuse w)

abbrev pub Tells : {A : Type 0} → Result A Refusal → ℕ → Type 0
Tells a r = r ≡ status_in a

-- words are put as bytes, eight each
abbrev pub Puts : List ℕ → List ℕ → List ℕ → Type 0
Puts ws out out' = out' ≡ sets out 0 (blocks (digits 8) ws)
