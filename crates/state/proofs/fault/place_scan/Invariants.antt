-- `fault::place_scan` is right: at each turn all places before pass, so the first that fails is the one at fault. A full slot of a
-- sound heap names a position of it, so the entry is read in range.
-- Assumes nothing.
use mathlib.Core.Path.{◌≡◌}
use mathlib.Core.Bool.{true}
use Prim.Native.Nat.{ℕ, ◌<◌}
use Rattle.state.specs.Faults.{place_ok}
use Rattle.state.proofs.fault.place_scan.Given as goal

abbrev pub invariant-loop-p : goal.invariant-loop-p
invariant-loop-p l = (k : ℕ) → k < l.p → place_ok l.fn.s k ≡ true
