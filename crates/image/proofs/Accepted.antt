-- What `read` and `write` have to do with each other: a sound set that is written is read again, an image that is read is written back
-- as it was, and `read` accepts exactly the images of sound sets whose numbers have the widths of the code's types.
-- Assumes nothing.
use mathlib.Core.Path.{◌≡◌, refl, ap, sym, subst, ◌∙◌}
use mathlib.Core.Bool.{Bool, true, false, cond}
use mathlib.Core.Option.{Option, none, some}
use mathlib.Core.List.{List}
use Prim.Native.Nat.{ℕ}
use lib.ListN.{length}
use Rattle.theory.proofs.Tests.{true_false}
use Rattle.refusals.specs.declared.fault.Fault.{Fault}
use Rattle.refusals.specs.declared.Refusal.TheVariants.{BadImage}
use Rattle.refusals.specs.Answer.{Outcome, Nothing, done, is_accepted}
use Rattle.theory.specs.Chain.{clear}
use Rattle.refusals.proofs.Faults.{clear_none}
use Rattle.heap.specs.Capacity.{cap}
use Rattle.state.specs.Faults.{fault_of, sound_of}
use Rattle.state.specs.InUse.{SameInUse}
use Rattle.state.specs.Sound.{Sound}
use Rattle.state.specs.Widths.{Widths}
use Rattle.state.specs.declared.Set.{Set}
use Rattle.state.proofs.Test.{sound_told, sound_tells}
use Rattle.digits.specs.Digits.{Bytes}
use Rattle.digits.proofs.Rows.{length_rows}
use Rattle.image.specs.Image.{size, image_fine, image_of, set_from, entries_of, slots_of, cleared}
use Rattle.image.specs.Calls.{barred, read_by, read_of, write_of}
use Rattle.image.specs.Accepted.{Pictures}
use Rattle.image.proofs.Calling.{read_by_lem, write_by}
use Rattle.image.proofs.Written.{image_fine_lem, read_written, written_read, set_in}
use Rattle.image.proofs.Clearing.{cleared_same, cleared_fault}
use Rattle.image.proofs.Fitting.{sound_fits, fits_widths}

-- a sound set has no fault
sound_none : (s : Set) → Sound s → none ≡ fault_of s
unfolding sound_of
sound_none s v = sym (clear_none (fault_of s) (sound_tells s v))

module _ (s : Set) (v : Sound s) (w : Widths s) where
  -- what is written of a sound set is read as that set with room that is not in use cleared
  pub read_image : read_of (image_of s) ≡ done (cleared s)
  read_image =
      let h = v.heap_sound in
      let e = read_written s (sound_fits s v w) in
      let f = cleared_fault s h.len_in h.made_in (record { entries_long = h.entries_long; slots_long = h.slots_long }) in
      sym (read_by_lem (image_of s) none (image_fine_lem s (sound_fits s v w)) (sound_none s v ∙ sym f ∙ ap fault_of (sym e))) ∙ ap done e

  -- which is the same set in all that counts
  pub read_same : SameInUse (cleared s) s
  read_same =
      let h = v.heap_sound in
      cleared_same s h.len_in h.made_in (record { entries_long = h.entries_long; slots_long = h.slots_long })

  -- and it is written, whatever stood in bytes of an image's length
  pub sound_written : (out : List ℕ) → length out ≡ size → write_of s out ≡ done (image_of s)
  sound_written out q = sym (write_by s out none q (sound_none s v))

-- what is known of an image that was read
pub record Taken (l : List ℕ) (s : Set) : Type 0 where
  pub fine : image_fine l ≡ true
  pub set : s ≡ set_from l
  pub faultless : fault_of (set_from l) ≡ none

pub taken : (l : List ℕ) (s : Set) → read_of l ≡ done s → Taken l s
unfolding read_of
taken l s e = go (image_fine l) refl (fault_of (set_from l)) refl e
  where
    go : (b : Bool) → image_fine l ≡ b → (o : Option Fault) → fault_of (set_from l) ≡ o → cond b (read_by (set_from l) o) (barred BadImage) ≡ done s
        → Taken l s
    go true f none g e = record { fine = f; set = sym (ap (λ (r : Outcome Set Nothing). r.state) e); faultless = g }
    go true f (some x) g e = true_false (ap (λ (r : Outcome Set Nothing). is_accepted r.answer) e) refl
    go false f o g e = true_false (ap (λ (r : Outcome Set Nothing). is_accepted r.answer) e) refl

module _ (l : List ℕ) (y : Bytes l) (s : Set) (e : read_of l ≡ done s) where
  -- an image that is read is that of the set, which is sound, its numbers in width
  pub taken_image : image_of s ≡ l
  taken_image = let t = taken l s e in ap image_of t.set ∙ written_read l y t.fine

  pub taken_widths : Widths s
  taken_widths = let t = taken l s e in subst Widths (sym t.set) (fits_widths (set_from l) (set_in l y t.fine))

  pub taken_sound : Sound s
  unfolding set_from entries_of slots_of sound_of
  taken_sound =
      let t = taken l s e in
      let i = set_in l y t.fine in
      subst Sound (sym t.set)
      (sound_told (set_from l) i.timers_long (length_rows _ cap) (length_rows _ cap) (ap clear t.faultless))

  -- and it is written back byte for byte
  pub written_back : (out : List ℕ) → length out ≡ size → write_of s out ≡ done l
  written_back out q = sound_written s taken_sound taken_widths out q ∙ ap done taken_image

-- `read` accepts exactly the images of sound sets whose numbers have the widths
module _ (l : List ℕ) (y : Bytes l) where
  pub accepted_set : is_accepted (read_of l).answer ≡ true → read_of l ≡ done (set_from l)
  unfolding read_of
  accepted_set e = go (image_fine l) (fault_of (set_from l)) e
    where
      go : (b : Bool) (o : Option Fault) → is_accepted (cond b (read_by (set_from l) o) (barred BadImage)).answer ≡ true
          → cond b (read_by (set_from l) o) (barred BadImage) ≡ done (set_from l)
      go true none e = refl
      go true (some x) e = true_false e refl
      go false o e = true_false e refl

  pub accepted_image : is_accepted (read_of l).answer ≡ true → Pictures (set_from l) l
  accepted_image e =
      let t = accepted_set e in
      record { sound = taken_sound l y (set_from l) t; widths = taken_widths l y (set_from l) t; image = taken_image l y (set_from l) t }

pub image_accepted : (l : List ℕ) (s : Set) → Pictures s l → read_of l ≡ done (cleared s)
image_accepted l s p = ap read_of (sym p.image) ∙ read_image s p.sound p.widths
