-- A call on an image, for any bytes: what it leaves of them and answers. It is the call of `timers` on the set that is read of the
-- image, and the bytes are the image of the set that it leaves.
-- Assumes nothing.
use Rattle.std.specs.Prelude.{cond, List, ℕ, eqb, length}
use Rattle.refusals.specs.declared.Refusal.TheVariants.{BadImage}
use Rattle.refusals.specs.Answer.{Answer, accepted, refused, unsound, refuse, Outcome, Nothing, done, kept}
use Rattle.state.specs.declared.Set.{Set}
use Rattle.state.specs.State.{fresh_of}
use Rattle.timers.specs.Values.{Value, reports_in}
use Rattle.timers.specs.Calls.{Lent, add_of, reset_of, cancel_of, turn_of, next_wake_of}
use Rattle.image.specs.Image.{size, image_of}
use Rattle.image.specs.Calls.{read_of}
use Rattle.host.specs.Numbers.{handle_from, list_in, reported_in}

-- what `read` refuses, with 13 or with 1, is refused so, and what was lent is as it was
abbrev pub on_reading : {S : Type 0} → S → (Set → Outcome S Value) → Set → Answer Nothing → Outcome S Value
on_reading k f s (accepted u) = f s
on_reading k f s (refused n) = kept k (refused n)
on_reading k f s (unsound x) = kept k (unsound x)

unfoldable pub on_image : {S : Type 0} → List ℕ → S → (Set → Outcome S Value) → Outcome S Value
on_image b k f = on_reading k f (read_of b).state (read_of b).answer

-- the image after a call that leaves a set: that of the set, where the call is accepted; else it stays
abbrev pub image_after : List ℕ → Answer Value → Set → List ℕ
image_after b (accepted v) s = image_of s
image_after b (refused n) s = b
image_after b (unsound x) s = b

abbrev pub pictured : List ℕ → Outcome Set Value → Outcome (List ℕ) Value
pictured b o = record { state = image_after b o.answer o.state; answer = o.answer }

-- FRESH: 13 for the length only
unfoldable pub fresh_on : List ℕ → Outcome (List ℕ) Nothing
fresh_on b = cond (eqb (length b) size) (done (image_of fresh_of)) (kept b (refuse BadImage))

-- ADD, RESET and CANCEL
unfoldable pub add_on : List ℕ → ℕ → Outcome (List ℕ) Value
add_on b d = on_image b b (λ s. pictured b (add_of s d))

unfoldable pub reset_on : List ℕ → ℕ → ℕ → Outcome (List ℕ) Value
reset_on b w d = on_image b b (λ s. pictured b (reset_of s (handle_from w) d))

unfoldable pub cancel_on : List ℕ → ℕ → Outcome (List ℕ) Value
cancel_on b w = on_image b b (λ s. pictured b (cancel_of s (handle_from w)))

-- TURN: an image, and the bytes that are lent for reports; a refused turn reports nothing
pub record Board : Type 0 where
  pub image : List ℕ
  pub reports : List ℕ

abbrev pub reporting : List ℕ → List ℕ → Outcome Lent Value → Outcome Board Value
reporting b out o = record {
  state = record {
    image = image_after b o.answer o.state.set;
    reports = reported_in out (reports_in o.answer) o.state.list;
  };
  answer = o.answer;
}

unfoldable pub turn_on : List ℕ → ℕ → List ℕ → Outcome Board Value
turn_on b N out = on_image b (record { image = b; reports = out }) (λ s. reporting b out (turn_of s N (list_in (length out))))

-- the same of an image and the list that is lent to the engine
abbrev pub lending : List ℕ → Outcome Lent Value → Outcome (List ℕ × List ℕ) Value
lending b o = record { state = (image_after b o.answer o.state.set, o.state.list); answer = o.answer }

unfoldable pub lent_on : List ℕ → ℕ → List ℕ → Outcome (List ℕ × List ℕ) Value
lent_on b N l = on_image b (b, l) (λ s. lending b (turn_of s N l))

-- NEXT WAKE, which writes no image
unfoldable pub next_wake_on : List ℕ → Answer Value
next_wake_on b = (on_image b b (λ s. kept b (next_wake_of s).answer)).answer
