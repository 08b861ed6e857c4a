-- What each public function of this crate promises of its answer r, and of the lent list as it is at the end.
-- Assumes nothing.
use Rattle.std.specs.Prelude.{◌≡◌, List, Option, ℕ}
use Rattle.heap.specs.declared.Place.{Place}
use Rattle.state.specs.declared.Life.{Life}
use Rattle.state.specs.declared.Set.{Set}
use Rattle.moves.specs.declared.rings.Ran.{Ran}
use Rattle.moves.specs.Rules.{touched_of, spot_of, lowest_free, drained_of, Ring, advanced_of, closed_of}

abbrev pub Touches : Set → Place → Life → Set → Type 0
Touches s p l r = r ≡ touched_of s p.0 l

abbrev pub FindsFree : Set → Option Place → Type 0
FindsFree s r = spot_of r ≡ lowest_free s

abbrev pub Settles : Set → Set → Type 0
Settles s r = r ≡ drained_of s

-- an advance's set, counts and list
abbrev pub ring_of : Ran → List ℕ → Ring
ring_of r l = record { set = r.set; list = l; reported = r.reported; popped = r.popped }

abbrev pub Rings : Set → ℕ → List ℕ → Ran → List ℕ → Type 0
Rings s N l r l' = ring_of r l' ≡ advanced_of s N l

abbrev pub Shuts : Set → Set → Type 0
Shuts s r = r ≡ closed_of s
