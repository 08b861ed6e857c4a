-- The fresh set is written, and its image is read.
-- Assumes nothing.
use mathlib.Core.Path.{◌≡◌}
use mathlib.Core.List.{List}
use Prim.Native.Nat.{ℕ}
use lib.ListN.{length}
use Rattle.refusals.specs.Answer.{done}
use Rattle.state.specs.State.{fresh_of}
use Rattle.state.proofs.FreshSound.{fresh_sound}
use Rattle.state.proofs.Widths.{fresh_widths}
use Rattle.image.specs.Image.{size, image_of, cleared}
use Rattle.image.specs.Calls.{read_of, write_of}
use Rattle.image.proofs.Accepted.{read_image, sound_written}

pub fresh_written : (out : List ℕ) → length out ≡ size → write_of fresh_of out ≡ done (image_of fresh_of)
fresh_written = sound_written fresh_of fresh_sound fresh_widths

pub fresh_read : read_of (image_of fresh_of) ≡ done (cleared fresh_of)
fresh_read = read_image fresh_of fresh_sound fresh_widths
