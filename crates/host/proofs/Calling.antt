-- A call on an image by what `read` says of it: where it refuses, the call is refused so and leaves all that was lent; else it is the
-- call on the set that was read, and the image that of the set after it. That set is sound, since the one that was read is, so it can
-- be written over the image.
-- Assumes nothing.
use mathlib.Core.Path.{◌≡◌, refl, sym, ap, ◌∙◌}
use mathlib.Core.Bool.{cond}
use mathlib.Core.List.{List}
use Prim.Native.Nat.{ℕ}
use lib.ListN.{length, get_or}
use lib.Dec.{eqb}
use mir.Syntax.{w8}
use mir.Val.{Fits}
use Rattle.std.specs.Prelude.{Result, Ok, Err, ⊤}
use Rattle.refusals.specs.declared.Refusal.{Refusal}
use Rattle.refusals.specs.declared.Refusal.TheVariants.{BadImage}
use Rattle.refusals.specs.declared.outcome.Outcome as Code
use Rattle.refusals.specs.Answer.{Answer, accepted, refused, unsound, refuse, Outcome, Nothing, done, kept}
use Rattle.refusals.proofs.Refusing.{any_refusal}
use Rattle.refusals.proofs.Faults.{clear_none}
use Rattle.digits.specs.Digits.{Bytes}
use Rattle.state.specs.declared.Set.{Set}
use Rattle.state.specs.State.{fresh_of}
use Rattle.state.specs.Faults.{fault_of, sound_of}
use Rattle.state.specs.Sound.{Sound}
use Rattle.state.proofs.Test.{sound_tells}
use Rattle.state.proofs.FreshSound.{fresh_sound}
use Rattle.timers.specs.declared.Reply.{Reply}
use Rattle.timers.specs.declared.Call.{Call}
use Rattle.timers.specs.Values.{Value}
use Rattle.timers.specs.Calls.{step, said, told}
use Rattle.laws.proofs.Soundness.StepSound.{step_sound}
use Rattle.laws.proofs.Widths.Calls.{widths_words}
use Rattle.image.specs.Image.{size, image_of}
use Rattle.image.specs.Accepted.{Pictures}
use Rattle.image.specs.Calls.{told_reading, read_of, written_by, write_of}
use Rattle.image.specs.Calls as Image
use Rattle.image.proofs.Lengths.{image_long}
use Rattle.image.proofs.Calling.{write_by}
use Rattle.image.proofs.Accepted.{taken_image, taken_widths, taken_sound}
use Rattle.host.specs.Numbers.{status_of}
use Rattle.host.specs.Calls.{on_reading, on_image, image_after, pictured, fresh_on}
use Rattle.host.specs.Promises.{left, end_of, given, Leaves}

module _ {S : Type 0} (b : List ℕ) (k : S) (f : Set → Outcome S Value) (r : Code.Outcome Set ⊤) (e : told_reading r ≡ read_of b) where
  by_reading : (y : Result ⊤ Refusal) → r.answer ≡ y → on_image b k f ≡ on_reading k f r.state (Image.said y)
  unfolding on_image
  by_reading y g =
      ap (λ (o : Outcome Set Nothing). on_reading k f o.state o.answer) (sym e)
      ∙ ap (λ (x : Result ⊤ Refusal). on_reading k f r.state (Image.said x)) g

  -- what `read` refuses is refused
  pub read_refused : (w : Refusal) → r.answer ≡ Err w → on_image b k f ≡ kept k (refuse w)
  read_refused w g = by_reading (Err w) g ∙ any_refusal (on_reading k f r.state) (kept k) (λ n. refl) (λ x. refl) w

  -- else the call is that on the set
  pub read_done : {u : ⊤} → r.answer ≡ Ok u → on_image b k f ≡ f r.state
  read_done {u} g = by_reading (Ok u) g

-- what `read` refuses leaves the image
pub call_barred : (b : List ℕ) (f : Set → Outcome Set Value) (r : Code.Outcome Set ⊤) → told_reading r ≡ read_of b → (w : Refusal) → r.answer ≡ Err w
    → {x : Result Reply Refusal} → x ≡ Err w → left b x ≡ on_image b b (λ s. pictured b (f s))
call_barred b f r e w g q = ap (left b) q ∙ sym (read_refused b b (λ s. pictured b (f s)) r e w g)

-- a sound set over bytes of an image's length
sound_written : (b : List ℕ) (s : Set) → length b ≡ size → Sound s → write_of s b ≡ done (image_of s)
unfolding sound_of
sound_written b s n v = sym (write_by s b _ n (sym (clear_none (fault_of s) (sound_tells s v))))

-- the fresh set is refused for the length alone
pub fresh_written : (b : List ℕ) → write_of fresh_of b ≡ fresh_on b
unfolding write_of fresh_on sound_of
fresh_written b =
    λ i. cond (eqb (length b) size) (written_by fresh_of b (clear_none (fault_of fresh_of) (sound_tells fresh_of fresh_sound) i)) (kept b (refuse BadImage))

-- the end of a call whose set can be written
ended_as : (b : List ℕ) (s : Set) (a : Answer Value) → write_of s b ≡ done (image_of s) → end_of b a s ≡ pictured b (record { state = s; answer = a })
ended_as b s (accepted v) e = ap (λ (o : Outcome (List ℕ) Nothing). record { state = o.state; answer = given v o.answer }) e
ended_as b s (refused n) e = refl
ended_as b s (unsound x) e = refl

pub ends : (b : List ℕ) (o : Outcome Set Value) {b' : List ℕ} {n : ℕ} → write_of o.state b ≡ done (image_of o.state)
    → Leaves (end_of b o.answer o.state) b' n → (b' ≡ image_after b o.answer o.state) × (n ≡ status_of o.answer)
ends b o e l =
    let p = ended_as b o.state o.answer e in
    (l.image ∙ ap (λ (x : Outcome (List ℕ) Value). x.state) p, l.status ∙ ap (λ (x : Outcome (List ℕ) Value). status_of x.answer) p)

module _ (b : List ℕ) (r : Code.Outcome Set ⊤) (y : Bytes b) (e : told_reading r ≡ read_of b) {u : ⊤} (g : r.answer ≡ Ok u) where
  -- the bytes are the image of the set that was read of them, which is sound
  pub taken : Pictures r.state b
  taken =
      let d : read_of b ≡ done r.state = sym e ∙ ap (λ (x : Result ⊤ Refusal). record { state = r.state; answer = Image.said x }) g in
      record { sound = taken_sound b y r.state d; widths = taken_widths b y r.state d; image = taken_image b y r.state d }

  -- the set after any call can be written
  pub after_written : (c : Call) (l : List ℕ) → write_of (step r.state c l).state.set b ≡ done (image_of (step r.state c l).state.set)
  after_written c l =
      sound_written b (step r.state c l).state.set (ap length (sym taken.image) ∙ image_long r.state)
      (step_sound r.state taken.sound (widths_words r.state taken.sound taken.widths) c l)

  -- a call that was made on the set and ended: what it leaves, and that it answers as the call did
  module _ (c : Call) (l : List ℕ) (a : Code.Outcome Set Reply) {x : Outcome (List ℕ) Value}
      (t : told a ≡ record { state = (step r.state c l).state.set; answer = (step r.state c l).answer }) (p : x ≡ end_of b (said a.answer) a.state) where
    pub call_ended : x ≡ pictured b (record { state = (step r.state c l).state.set; answer = (step r.state c l).answer })
    call_ended =
        p ∙ ap (λ (o : Outcome Set Value). end_of b o.answer o.state) t
        ∙ ended_as b (step r.state c l).state.set (step r.state c l).answer (after_written c l)

    -- so by the rules, where the call is f on the set
    pub call_left : (f : Set → Outcome Set Value) → record { state = (step r.state c l).state.set; answer = (step r.state c l).answer } ≡ f r.state
        → x ≡ on_image b b (λ s. pictured b (f s))
    call_left f q = call_ended ∙ ap (pictured b) q ∙ sym (read_done b b (λ s. pictured b (f s)) r e g)

    pub call_said : x.answer ≡ said a.answer
    call_said = ap (λ (o : Outcome (List ℕ) Value). o.answer) call_ended ∙ sym (ap (λ (o : Outcome Set Value). o.answer) t)

-- what a slice of bytes is known by
pub bytes : {b : List ℕ} → ((j : ℕ) → Fits w8 (get_or b j 0)) → Bytes b
bytes f = record { small = λ j. (f j).fits }
