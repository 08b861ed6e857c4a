-- The worked sets hold: the test of soundness and the clauses of the rules say of each what they must. Where few elements are drawn it
-- is by computation on those, where an array is full by a law of it, so that no proof goes through `cap` elements.
-- Assumes nothing.
use mathlib.Core.Path.{◌≡◌, refl}
use mathlib.Core.Bool.{true}
use mathlib.Core.List.{[], ◌∷◌}
use Prim.Native.Nat.{◌+◌, ◌-◌}
use native.Mathlib.Omega.{arith}
use lib.ListN.{length}
use Rattle.state.specs.declared.Waiting.TheVariants.{No}
use Rattle.heap.specs.Capacity.{cap}
use Rattle.heap.specs.Faults.{count_ok, count_fault, fault_of, consistent_of}
use Rattle.promises.specs.States.{heap_of, full, empty, entry, live, in_slot, entries_from, Row, row, right, rows, brimful, few, wrong}
use Rattle.promises.proofs.Drawn.Small.{few_right}
use Rattle.promises.proofs.Drawn.Numbered.{numbered_length}
use Rattle.promises.proofs.Drawn.Full.{full_of}
use Rattle.promises.proofs.Drawn.FullKept.{full_none, full_some}
use Rattle.promises.proofs.Drawn.Emptied.{emptied, emptied_none, emptied_some}
use Rattle.promises.proofs.Drawn.Tested.{both, tested_by, none_tested, wrong_right, wrong_few, wrong_both}

-- the row of a full heap, and that of a heap whose slots are all empty
abbrev full_row : Row
full_row = row 1 (full_of (length (entries_from cap 0))) (full_of (cap + 1)) (11 ∷ 13 ∷ [])

abbrev emptied_row : Row
emptied_row = row 2 (emptied cap) (emptied (cap + 1)) (12 ∷ [])

-- both are right; the heap's test says no of a count that is more than there is room for
full_right : right full_row ≡ true
unfolding heap_of consistent_of fault_of count_fault count_ok
full_right =
    let t = numbered_length (λ i. live No (in_slot i)) cap 0 in
    let e = numbered_length (λ i. entry 5 i i) cap 0 in
    let q = numbered_length full cap 0 in
    both (none_tested (full_of (length (entries_from cap 0))) (omega (arith, t)) (omega (arith, e)) (omega (arith, q)) full_none)
    (tested_by (full_of (cap + 1)) (omega (arith, t)) (omega (arith, e)) (omega (arith, q)) (11 ∷ 13 ∷ []) refl full_some)

emptied_right : right emptied_row ≡ true
unfolding heap_of consistent_of fault_of count_fault count_ok
emptied_right =
    let q = numbered_length empty (cap - 1) 0 in
    both (none_tested (emptied cap) (omega arith) (omega arith) (omega (arith, q)) emptied_none)
    (tested_by (emptied (cap + 1)) (omega arith) (omega arith) (omega (arith, q)) (12 ∷ []) refl emptied_some)

brimful_right : wrong brimful ≡ []
brimful_right = wrong_right full_row (emptied_row ∷ []) full_right (wrong_right emptied_row [] emptied_right refl)

pub states_right : wrong rows ≡ []
states_right = wrong_both brimful few brimful_right (wrong_few few few_right)
