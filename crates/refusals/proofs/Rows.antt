-- The worked rows of the difference and of the faults hold, by computation on the rules.
-- Assumes nothing.
use mathlib.Core.Path.{◌≡◌, refl}
use mathlib.Core.List.{map}
use Rattle.refusals.specs.Rows.{Row, rows, ruled, FaultRow, fault_rows, pair_of}

pub difference_rows : map ruled rows ≡ map (λ (r : Row). r.left) rows
difference_rows = refl

pub fault_rows_lem : map pair_of fault_rows ≡ map (λ (r : FaultRow). r.pair) fault_rows
fault_rows_lem = refl
