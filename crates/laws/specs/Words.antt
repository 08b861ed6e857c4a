-- What the code's types say of a set: there are as many places as the capacity, and words have 32 bits. Every call keeps it
-- (proofs/Soundness/CallsSound.antt).
-- Assumes nothing.
use Rattle.std.specs.Prelude.{◌≡◌, ℕ, ◌<◌, ◌^◌, length}
use Rattle.heap.specs.Capacity.{cap}
use Rattle.state.specs.declared.Life.{Life}
use Rattle.state.specs.declared.Life.TheVariants.{Live}
use Rattle.state.specs.declared.Set.{Set}
use Rattle.state.specs.State.{timer_at}
use Rattle.state.specs.Sound.{Sound}

-- the word of a life, where it is live, has 32 bits
pub record Small (l : Life) : Type 0 where
  pub bits : (w d : ℕ) → l ≡ Live w d → w < 2 ^ 32

-- there are as many places as the capacity, and the words of the live timers have 32 bits
pub record Words (s : Set) : Type 0 where
  pub long : length s.timers ≡ cap
  pub small : (p : ℕ) → p < cap → Small (timer_at s p).life

-- a sound set, with words that fit, as every set of the code has
pub record Fit (s : Set) : Type 0 where
  pub sound : Sound s
  pub words : Words s
