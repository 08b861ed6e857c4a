-- `fault::entry_scan` is right: after some entries the lowest place is that of the entries at fault among them.
-- Assumes nothing.
use lib.ListN.{length-take}
use mathlib.Core.Path.{refl}
use native.Mathlib.Numerals.{add-one}
use native.Mathlib.Omega.{arith}
use Rattle.std.proofs.lemmas.Bool.Decides.{nat_tests}
use Rattle.std.proofs.lemmas.List.{get_or-take}
use Rattle.heap.specs.Rules.{no_entry}
use Rattle.state.specs.Faults.{entry_ok, entry_scan}
use Rattle.state.proofs.fault.entry_scan.Goals as goal

pub loop-e-init : goal.loop-e-init
unfolding entry_scan
loop-e-init c = refl

pub loop-e-preserved : goal.loop-e-preserved
unfolding entry_scan entry_ok
loop-e-preserved c =
    let s = c.args.s in
    let i = c.loop-e.e-index in
    let l = get_or-take s.heap.len s.heap.entries i no_entry (omega (arith, length-take s.heap.len s.heap.entries)) in
    rw (add-one i) (grind (arith, nat_tests, l))
