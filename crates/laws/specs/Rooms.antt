-- What a place tells of who has had it: how many handles of it were given out, whether its timer is cancelled, and that its use number
-- fits and is used up where it is retired (proofs/PlaceByPlace/Rooms.antt).
-- Assumes nothing.
use Rattle.std.specs.Prelude.{◌≡◌, Bool, true, false, cond, ℕ, suc, ◌<◌, ◌^◌}
use Rattle.state.specs.declared.Life.{Life}
use Rattle.state.specs.declared.Life.TheVariants.{Free, Live, Cancelled, Retired}
use Rattle.state.specs.declared.Timer.{Timer}
use Rattle.moves.specs.Rules.{is_free}

-- how many handles of a place with this life and use number were given out: one for each number below, and one more where it is not free
abbrev pub given_by : Life → ℕ → ℕ
given_by l u = cond (is_free l) u (suc u)

-- how many handles of the place were given out
abbrev pub given_of : Timer → ℕ
given_of t = given_by t.life t.uses

-- whether the life is that of a cancelled timer
abbrev pub is_cancelled : Life → Bool
is_cancelled Free = false
is_cancelled (Live w d) = false
is_cancelled (Cancelled w) = true
is_cancelled Retired = false

-- the use number has 32 bits, and a retired place has the highest one
pub record InUses (t : Timer) : Type 0 where
  pub fits : t.uses < 2 ^ 32
  pub retired_last : t.life ≡ Retired → t.uses ≡ 4294967295
