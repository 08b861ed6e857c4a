-- A handle that was given out, and one that is over. A handle was given out where its place's use number is above its own, or is its
-- own and the place is not free; it is past where the number is above its own, or is its own and the place is cancelled or retired.
-- What is so stays so (proofs/Handles/Ever.antt).
-- Assumes nothing.
use Rattle.std.specs.Prelude.{◌≡◌, ◌⊎◌, Bool, true, false, not, ℕ, ◌<◌}
use Rattle.state.specs.declared.Life.{Life}
use Rattle.state.specs.declared.Life.TheVariants.{Free, Live, Cancelled, Retired}
use Rattle.state.specs.declared.Timer.{Timer}
use Rattle.state.specs.declared.Set.{Set}
use Rattle.state.specs.declared.Handle.{Handle}
use Rattle.state.specs.State.{timer_at}
use Rattle.moves.specs.Rules.{is_free}

-- cancelled or retired
abbrev pub is_over : Life → Bool
is_over Free = false
is_over (Live w d) = false
is_over (Cancelled w) = true
is_over Retired = true

-- not free
abbrev pub is_taken : Life → Bool
is_taken l = not (is_free l)

-- the use number u has been passed, or is the timer's own and its life meets a test
abbrev pub Reached : (Life → Bool) → Timer → ℕ → Type 0
Reached f t u = (u < t.uses) ⊎ ((u ≡ t.uses) × (f t.life ≡ true))

-- a handle that was given out
abbrev pub Given : Set → Handle → Type 0
Given s h = Reached is_taken (timer_at s h.place.0) h.uses

-- a handle that is past
abbrev pub Past : Set → Handle → Type 0
Past s h = Reached is_over (timer_at s h.place.0) h.uses
