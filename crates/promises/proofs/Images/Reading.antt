-- What is read of the image of a sound set is that set but for room not in use; so a call on the image is the call on that set.
-- Assumes nothing.
use mathlib.Core.Path.{◌≡◌, ap}
use mathlib.Core.Option.{none}
use Rattle.refusals.specs.Answer.{Outcome, Nothing}
use Rattle.state.specs.declared.Set.{Set}
use Rattle.state.specs.Faults.{fault_of}
use Rattle.state.specs.Sound.{Sound}
use Rattle.state.specs.Widths.{Widths}
use Rattle.state.proofs.Test.{sound_tells}
use Rattle.timers.specs.Values.{Value}
use Rattle.timers.proofs.Guarding.{sound_none}
use Rattle.image.specs.Image.{image_of, cleared}
use Rattle.image.proofs.Accepted.{read_image}
use Rattle.host.specs.Calls.{on_reading, on_image}

-- a sound set has no fault
pub faultless : (s : Set) → Sound s → fault_of s ≡ none
faultless s ok = sound_none s (sound_tells s ok)

-- a call on its image is the call on the set that is read
pub on_image_lem : (s : Set) → Sound s → Widths s → {S : Type 0} (k : S) (f : Set → Outcome S Value) → on_image (image_of s) k f ≡ f (cleared s)
unfolding on_image
on_image_lem s ok w k f = ap (λ (o : Outcome Set Nothing). on_reading k f o.state o.answer) (read_image s ok w)
