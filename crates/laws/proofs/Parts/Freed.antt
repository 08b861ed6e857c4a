-- The place of a cancelled timer once a drain has freed it: nobody's, or nobody's ever again, and nothing of the timer is left.
-- Assumes nothing.
use mathlib.Core.Path.{◌≡◌, refl}
use mathlib.Core.Bool.{Bool, true, false, cond}
use Prim.Native.Nat.{ℕ, ◌+◌}
use lib.Dec.{eqb}
use Rattle.std.specs.Prelude.{None}
use Rattle.state.specs.declared.Life.TheVariants.{Free, Retired}
use Rattle.state.specs.declared.Waiting.TheVariants.{No}
use Rattle.state.specs.declared.Timer.{Timer}
use Rattle.state.specs.State.{is_waiting}
use Rattle.moves.specs.Rules.{freed_of}
use Rattle.laws.proofs.Parts.Lives.{Lives, lives_free, lives_retired}

-- the two ways in which a place is freed
pub freed_by : (P : Timer → Type 0) (u : ℕ) → P (record { life = Retired; waiting = No; held = None; uses = u })
    → P (record { life = Free; waiting = No; held = None; uses = u + 1 }) → P (freed_of u)
freed_by P u x y = go (eqb u 4294967295)
  where
    go : (b : Bool) → P (cond b (record { life = Retired; waiting = No; held = None; uses = u }) (record { life = Free; waiting = No; held = None; uses = u + 1 }))
    go true = x
    go false = y

-- it names no slot
pub freed_held : (u : ℕ) → (freed_of u).held ≡ None
freed_held u = freed_by (λ t. t.held ≡ None) u refl refl

-- it does not wait
pub freed_waiting : (u : ℕ) → is_waiting (freed_of u).waiting ≡ false
freed_waiting u = freed_by (λ t. is_waiting t.waiting ≡ false) u refl refl

-- it is right by itself
pub freed_lives : (u : ℕ) → Lives (freed_of u)
freed_lives u =
    freed_by Lives u
    (lives_retired (record { life = Retired; waiting = No; held = None; uses = u }) refl (record { still = refl; bare = refl }))
    (lives_free (record { life = Free; waiting = No; held = None; uses = u + 1 }) refl (record { still = refl; bare = refl }))
