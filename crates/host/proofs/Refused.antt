-- A refused call leaves all that was lent as it was, and bytes that are no image are refused with 13 before anything else is asked.
-- And the status of a fault, worked out.
-- Assumes nothing.
use mathlib.Core.Path.{◌≡◌, refl, ap}
use mathlib.Core.Bool.{false}
use mathlib.Core.List.{List}
use Prim.Native.Nat.{ℕ, ◌+◌, ◌*◌}
use Rattle.theory.proofs.Tests.{true_false}
use Rattle.refusals.specs.declared.Refusal.TheVariants.{BadImage}
use Rattle.refusals.specs.declared.fault.Fault.TheVariants.{Order}
use Rattle.refusals.specs.Answer.{Answer, accepted, refused, unsound, refuse, is_accepted, Outcome, Nothing, kept}
use Rattle.state.specs.declared.Set.{Set}
use Rattle.timers.specs.Values.{Value}
use Rattle.timers.specs.Calls.{add_of, reset_of, cancel_of}
use Rattle.image.specs.Image.{NoImage}
use Rattle.image.specs.Calls.{read_of}
use Rattle.image.proofs.BadImage.{reason_refused}
use Rattle.host.specs.Numbers.{status_of, handle_from}
use Rattle.host.specs.Calls.{on_reading, on_image, image_after, pictured, add_on, reset_on, cancel_on}

-- where what is made of a set stays as it was when it is refused, so does what is made of an image
reading_kept : {S : Type 0} (k : S) (f : Set → Outcome S Value) → ((s : Set) → is_accepted (f s).answer ≡ false → (f s).state ≡ k)
    → (s : Set) (a : Answer Nothing) → is_accepted (on_reading k f s a).answer ≡ false → (on_reading k f s a).state ≡ k
reading_kept k f h s (accepted u) e = h s e
reading_kept k f h s (refused n) e = refl
reading_kept k f h s (unsound x) e = refl

-- the image of a refused call
image_kept : (b : List ℕ) (a : Answer Value) (s : Set) → is_accepted a ≡ false → image_after b a s ≡ b
image_kept b (accepted v) s e = true_false refl e
image_kept b (refused n) s e = refl
image_kept b (unsound x) s e = refl

-- AN ADD, A RESET AND A CANCEL that are refused leave the image
pub add_kept : (b : List ℕ) (d : ℕ) → is_accepted (add_on b d).answer ≡ false → (add_on b d).state ≡ b
unfolding add_on on_image
add_kept b d e =
    reading_kept b (λ s. pictured b (add_of s d)) (λ s. image_kept b (add_of s d).answer (add_of s d).state) (read_of b).state (read_of b).answer e

pub reset_kept : (b : List ℕ) (w d : ℕ) → is_accepted (reset_on b w d).answer ≡ false → (reset_on b w d).state ≡ b
unfolding reset_on on_image
reset_kept b w d e =
    reading_kept b (λ s. pictured b (reset_of s (handle_from w) d)) (λ s. image_kept b (reset_of s (handle_from w) d).answer (reset_of s (handle_from w) d).state)
    (read_of b).state (read_of b).answer e

pub cancel_kept : (b : List ℕ) (w : ℕ) → is_accepted (cancel_on b w).answer ≡ false → (cancel_on b w).state ≡ b
unfolding cancel_on on_image
cancel_kept b w e =
    reading_kept b (λ s. pictured b (cancel_of s (handle_from w))) (λ s. image_kept b (cancel_of s (handle_from w)).answer (cancel_of s (handle_from w)).state)
    (read_of b).state (read_of b).answer e

-- 13 FIRST: whatever is asked of bytes that are no image is refused with it, and what was lent stays
pub bad_first : {S : Type 0} (b : List ℕ) → NoImage b → (k : S) (f : Set → Outcome S Value) → on_image b k f ≡ kept k (refuse BadImage)
unfolding on_image
bad_first b n k f = ap (λ (o : Outcome Set Nothing). on_reading k f o.state o.answer) (reason_refused b n)

-- position 5 out of order: 1, the kind 3 from bit 8 on, and 5 from bit 16 on
pub status_row : status_of {A = Value} (unsound (Order 5)) ≡ 1 + 3 * 256 + 5 * 65536
status_row = refl
