-- `fault::first_fault` is right: each test is made where those before it found no fault, and the counts, once found in order, keep
-- the other scans in range.
-- Assumes nothing.
use mathlib.Core.Path.{refl}
use borrow.Author.Rules.{rules}
use Rattle.heap.specs.Faults.{fault_of}
use Rattle.heap.proofs.Testing.Test.{counts}
use Rattle.heap.proofs.fault.first_fault.Goals as goal

pub returns-in_err-count_fault : goal.returns-in_err-count_fault
unfolding fault_of
returns-in_err-count_fault c = search rules

pub position_fault-requires : goal.position_fault-requires
position_fault-requires c =
    let k = counts _ c.in_ok-count_fault.ensures refl in
    (k.0, k.1.made_in)

pub returns-in_err-position_fault : goal.returns-in_err-position_fault
unfolding fault_of
returns-in_err-position_fault c = rw (← c.in_ok-count_fault.ensures) (search rules)

pub order_fault-requires : goal.order_fault-requires
order_fault-requires c = (counts _ c.in_ok-count_fault.ensures refl).0

pub returns-in_err-order_fault : goal.returns-in_err-order_fault
unfolding fault_of
returns-in_err-order_fault c = rw (← c.in_ok-count_fault.ensures, ← c.in_ok-position_fault.ensures) (search rules)

pub chain_fault-requires : goal.chain_fault-requires
chain_fault-requires c = (counts _ c.in_ok-count_fault.ensures refl).1

pub returns : goal.returns
unfolding fault_of
returns c =
    rw (← c.in_ok-count_fault.ensures, ← c.in_ok-position_fault.ensures, ← c.in_ok-order_fault.ensures) c.chain_fault.ensures
