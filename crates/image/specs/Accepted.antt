-- The sets that images are of (proofs/Accepted.antt: `read` accepts exactly their images).
-- Assumes nothing.
use Rattle.std.specs.Prelude.{◌≡◌, List, ℕ}
use Rattle.state.specs.declared.Set.{Set}
use Rattle.state.specs.Sound.{Sound}
use Rattle.state.specs.Widths.{Widths}
use Rattle.image.specs.Image.{image_of}

-- the bytes are the image of a sound set whose numbers have the widths of the code's types
pub record Pictures (s : Set) (l : List ℕ) : Type 0 where
  pub sound : Sound s
  pub widths : Widths s
  pub image : image_of s ≡ l
