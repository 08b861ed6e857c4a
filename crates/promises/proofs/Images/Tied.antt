-- The engine of a C host runs beside the project's own: its image is the image of a sound set, whose numbers have the widths of the
-- code's types, and each call on the one is the call on the other.
-- Assumes nothing.
use mathlib.Core.Path.{◌≡◌, refl, sym, ap, subst, ◌∙◌}
use mathlib.Core.Bool.{Bool, true, cond}
use mathlib.Core.Option.{some-injective}
use mathlib.Core.List.{List}
use Prim.Native.Nat.{ℕ, ◌<◌, ◌^◌}
use native.Mathlib.Omega.{arith}
use lib.Dec.{ltb}
use lib.ListN.{length, length-replicate}
use borrow.Author.Tests.{ltb-true, eq-eqb}
use Rattle.theory.proofs.Tests.{true_false, none_some, and_left, and_right}
use Rattle.refusals.specs.declared.Refusal.TheVariants.{BadImage}
use Rattle.refusals.specs.Answer.{Answer, refuse, done, kept}
use Rattle.state.specs.declared.Handle.{Handle}
use Rattle.state.specs.declared.Set.{Set}
use Rattle.state.specs.State.{fresh_of}
use Rattle.state.specs.Sound.{Sound}
use Rattle.state.specs.Widths.{Widths}
use Rattle.state.proofs.FreshSound.{fresh_sound}
use Rattle.state.proofs.Widths.{fresh_widths}
use Rattle.timers.specs.declared.Call.{Call}
use Rattle.timers.specs.declared.Call.TheVariants as C
use Rattle.timers.specs.Values.{Value, nothing, handle, counts, wake, handle_in}
use Rattle.timers.specs.Calls.{step}
use Rattle.image.specs.Image.{size, image_of}
use Rattle.laws.specs.Widths.{Given, IsTime}
use Rattle.laws.proofs.AnyCall.CallCases.{wake_by_lem}
use Rattle.laws.proofs.Soundness.StepSound.{step_sound}
use Rattle.laws.proofs.Widths.Calls.{widths_words, step_widths}
use Rattle.host.specs.Numbers.{status_of, handle_from}
use Rattle.host.specs.Calls.{fresh_on}
use Rattle.host.specs.Seen.{word_or, count_or, wake_in, any_or, time_or}
use Rattle.promises.specs.Engine.{ours}
use Rattle.promises.specs.Beside.{plain, Together, Beside}
use Rattle.promises.specs.Images.{by_status, wake_of, hosted_step, lent_bytes, hosted, in_word, exported}
use Rattle.promises.proofs.Images.Reading.{faultless}
use Rattle.promises.proofs.Images.Statuses.{added_back, done_back, turned_back, woken_back, add_told, reset_told, cancel_told, turn_told, wake_told}
use Rattle.promises.proofs.Images.Calls.{add_pictures, reset_pictures, cancel_pictures, turn_pictures, wake_answers}

-- the image of a sound set, whose numbers have their widths
pub record Tied (b : List ℕ) (s : Set) : Type 0 where
  pub is_image : b ≡ image_of s
  pub sound : Sound s
  pub widths : Widths s

-- an exported call has its deadline in 64 bits
exported_given : (c : Call) → exported c ≡ true → Given IsTime c
exported_given (C.Add e) a d q = let z : e ≡ d = some-injective e d q in let b : e < 2 ^ 64 = ltb-true e (2 ^ 64) a in omega arith
exported_given (C.Reset h e) a d q =
    let z : e ≡ d = some-injective e d q in
    let b : e < 2 ^ 64 = ltb-true e (2 ^ 64) (and_right (in_word h) (ltb e (2 ^ 64)) a) in
    omega arith
exported_given (C.Cancel h) a d q = absurd (none_some refl q)
exported_given C.Drain a d q = absurd (none_some refl q)
exported_given (C.Advance N) a d q = absurd (none_some refl q)
exported_given (C.Turn N) a d q = absurd (none_some refl q)
exported_given C.NextWake a d q = absurd (none_some refl q)
exported_given (C.Poll h) a d q = absurd (none_some refl q)
exported_given C.Close a d q = absurd (none_some refl q)
exported_given (C.Tick h p period N) a d q = absurd (none_some refl q)
exported_given (C.Restart h period N) a d q = absurd (none_some refl q)

-- a handle that a word names has its place in 16 bits
in_word_lem : (h : Handle) → in_word h ≡ true → h.place.0 < 2 ^ 16
in_word_lem h a = ltb-true h.place.0 (2 ^ 16) (and_right (ltb h.uses (2 ^ 32)) (ltb h.place.0 (2 ^ 16)) a)

-- a next wake keeps the set
wake_keeps : (s : Set) (l : List ℕ) → (step s C.NextWake l).state.set ≡ s
unfolding step
wake_keeps s l = wake_by_lem (λ o. o.state ≡ s) s (λ a _. refl) (λ v. refl)

-- the fresh image is that of the fresh set
lent_long : length lent_bytes ≡ size
unfolding lent_bytes
lent_long = length-replicate {A = ℕ} size 0

fresh_image_lem : hosted.fresh ≡ image_of fresh_of
unfolding fresh_on
fresh_image_lem =
    ap (λ (t : Bool). (cond t (done (image_of fresh_of)) (kept lent_bytes (refuse BadImage))).state) (eq-eqb (length lent_bytes) size lent_long)

module _ (s : Set) (ok : Sound s) (w : Widths s) where
  -- what follows of a call on the image that answers as the call on the set does, leaves the same list, and the image of its set
  together : (c : Call) (l : List ℕ) → exported c ≡ true → (hosted_step (image_of s) c l).answer ≡ plain (step s c l).answer
      → (hosted_step (image_of s) c l).state.1 ≡ (step s c l).state.list → (hosted_step (image_of s) c l).state.0 ≡ image_of (step s c l).state.set
      → Together hosted ours Tied (image_of s) s c l
  together c l a answers lists image = record {
    answers = answers;
    lists = lists;
    tied = record {
      is_image = image;
      sound = step_sound s ok (widths_words s ok w) c l;
      widths = step_widths s ok w c (exported_given c a) l;
    };
  }

  at_call : (c : Call) (l : List ℕ) → exported c ≡ true → Together hosted ours Tied (image_of s) s c l
  unfolding hosted_step step
  at_call (C.Add d) l a =
      let p = add_pictures s ok w d l in
      together (C.Add d) l a
      (ap (λ (x : Answer Value). by_status (status_of x) (handle (handle_from (word_or 0 (handle_in x))))) p.answers
      ∙ added_back (step s (C.Add d) l).answer (add_told s (faultless s ok) d))
      refl p.image
  at_call (C.Reset h d) l a =
      let p = reset_pictures s ok w h (in_word_lem h (and_left (in_word h) (ltb d (2 ^ 64)) a)) d l in
      together (C.Reset h d) l a
      (ap (λ (x : Answer Value). by_status (status_of x) nothing) p.answers
      ∙ done_back (step s (C.Reset h d) l).answer (reset_told s (faultless s ok) h d))
      refl p.image
  at_call (C.Cancel h) l a =
      let p = cancel_pictures s ok w h (in_word_lem h a) l in
      together (C.Cancel h) l a
      (ap (λ (x : Answer Value). by_status (status_of x) nothing) p.answers
      ∙ done_back (step s (C.Cancel h) l).answer (cancel_told s (faultless s ok) h))
      refl p.image
  at_call (C.Turn N) l a =
      let p = turn_pictures s ok w N l in
      together (C.Turn N) l a
      (ap (λ (x : Answer Value). by_status (status_of x) (counts (count_or 0 x) 0)) p.answers
      ∙ turned_back (step s (C.Turn N) l).answer (turn_told s (faultless s ok) N l))
      p.words p.image
  at_call C.NextWake l a =
      together C.NextWake l a
      (ap (λ (x : Answer Value). by_status (status_of x) (wake (wake_of (any_or 0 (wake_in x)) (time_or 0 (wake_in x))))) (wake_answers s ok w l)
      ∙ woken_back (step s C.NextWake l).answer (wake_told s (faultless s ok)))
      refl (ap image_of (sym (wake_keeps s l)))
  at_call C.Drain l a = true_false a refl
  at_call (C.Advance N) l a = true_false a refl
  at_call (C.Poll h) l a = true_false a refl
  at_call C.Close l a = true_false a refl
  at_call (C.Tick h p period N) l a = true_false a refl
  at_call (C.Restart h period N) l a = true_false a refl

-- so the two run beside each other
pub hosted_beside : Beside hosted ours exported Tied
hosted_beside = record {
  at_start = record { is_image = fresh_image_lem; sound = fresh_sound; widths = fresh_widths };
  at_calls = λ b s t c l a.
      subst (λ (x : List ℕ). Together hosted ours Tied x s c l) (sym t.is_image) (at_call s t.sound t.widths c l a);
}
