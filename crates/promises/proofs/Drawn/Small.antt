-- The worked sets of which few elements are drawn break the clauses that they must, by computation on what is drawn.
-- Assumes nothing.
use mathlib.Core.Path.{◌≡◌, refl}
use mathlib.Core.Bool.{Bool, true, not, ◌&&◌}
use mathlib.Core.List.{List, [], ◌∷◌}
use Prim.Native.Nat.{ℕ}
use lib.Dec.{eqb}
use Rattle.theory.specs.Tests.{bit}
use Rattle.theory.specs.Counting.{count}
use Rattle.theory.specs.Chain.{nodes}
use Rattle.theory.specs.WrongStep.{met_at, met_before, step_ok, wrong_step}
use Rattle.theory.specs.First.{first_bad}
use Rattle.heap.specs.Faults.{full_at, empty_at, next_at, count_ok, position_ok, order_ok, count_fault, position_fault, order_fault, chain_fault, fault_of, consistent_of}
use Rattle.promises.specs.Bench.{same_numbers}
use Rattle.promises.specs.Clauses.{is_empty, broken_of}
use Rattle.promises.specs.States.{Drawn, heap_of, set_of, numbered, of_set, Row, few}
use Rattle.promises.proofs.Drawn.Few.{clauses_few, fits}

-- the heap's test says what it must, and the set breaks just these clauses
abbrev pub breaks_few : Drawn → List ℕ → Bool
breaks_few d cs =
    fits d && (eqb (bit (consistent_of (heap_of d.heap))) (bit (of_set cs)) && same_numbers (broken_of (set_of d) (clauses_few d)) cs)

-- so do both sets of every row, the first none and the second some
abbrev pub right_few : List Row → Bool
right_few [] = true
right_few (r ∷ rs) = (breaks_few r.sound [] && (not (is_empty r.breaks) && breaks_few r.unsound r.breaks)) && right_few rs

pub few_right : right_few few ≡ true
unfolding heap_of set_of numbered nodes consistent_of fault_of count_fault position_fault order_fault chain_fault count_ok position_ok order_ok next_at empty_at full_at first_bad wrong_step step_ok met_at met_before count
few_right = refl
