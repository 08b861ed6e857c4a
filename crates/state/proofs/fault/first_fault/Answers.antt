-- `fault::first_fault` is right: each scan is made where those before it found no fault, and the heap, once found sound, keeps
-- the scans of places and entries in range.
-- Assumes nothing.
use native.Mathlib.Omega.{arith}
use mathlib.Core.Path.{refl}
use borrow.Author.Rules.{rules}
use Rattle.theory.proofs.Stores.{unmapped}
use Rattle.state.specs.Faults.{fault_of, place_scan}
use Rattle.state.proofs.FaultLaws.{heap_sound, list_next}
use Rattle.state.proofs.fault.first_fault.Goals as goal

pub returns-in_err-first_fault : goal.returns-in_err-first_fault
unfolding fault_of
returns-in_err-first_fault c = grind arith

pub returns-in-Some : goal.returns-in-Some
returns-in-Some c = list_next c.args.s c.in_ok-first_fault.ensures refl c.list_scan.ensures c.in-Some.is

pub place_scan-requires : goal.place_scan-requires
place_scan-requires c = heap_sound c.args.s c.in_ok-first_fault.ensures refl (search (rules, unmapped)) (search (rules, unmapped))

pub entry_scan-requires : goal.entry_scan-requires
entry_scan-requires c = heap_sound c.args.s c.in_ok-first_fault.ensures refl (search (rules, unmapped)) (search (rules, unmapped))

pub returns-in-None : goal.returns-in-None
unfolding fault_of place_scan
returns-in-None c = grind arith

pub returns-in-Some-lower : goal.returns-in-Some-lower
unfolding fault_of place_scan
returns-in-Some-lower c = grind arith
