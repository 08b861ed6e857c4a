-- `fault::place_scan` is right: at each turn all places before pass, so the first that fails is the one at fault. A full slot of a
-- sound heap names a position of it, so the entry is read in range.
-- Assumes nothing.
use mathlib.Core.Path.{sym, ◌∙◌}
use native.Mathlib.Omega.{arith}
use borrow.Author.Count.{below_more}
use Rattle.std.proofs.lemmas.Bool.Decides.{nat_tests}
use Rattle.heap.proofs.Soundness.SoundFacts.{full_back}
use Rattle.state.specs.Faults.{place_ok}
use Rattle.state.proofs.ScanLaws.{held_past, held_empty, held_other, place_parts, place_held, place_found, places_right}
use Rattle.state.proofs.fault.place_scan.Goals as goal

pub returns-then-not-timer_ok : goal.returns-then-not-timer_ok
returns-then-not-timer_ok c =
    let s = c.args.s in
    place_found s _ (omega arith) c.loop-p.invariant (place_parts s _ (sym c.timer_ok.ensures ∙ c.if-not-timer_ok.true))

pub returns-then-s-q : goal.returns-then-s-q
returns-then-s-q c =
    let s = c.args.s in
    place_found s _ (omega arith) c.loop-p.invariant
    (place_held s _ (sym c.timer_ok.ensures ∙ c.if-not-timer_ok.false) (held_past s.heap _ c.in-Some.is c.if-s-q.true))

pub returns-in_default-state : goal.returns-in_default-state
returns-in_default-state c =
    let s = c.args.s in
    place_found s _ (omega arith) c.loop-p.invariant
    (place_held s _ (sym c.timer_ok.ensures ∙ c.if-not-timer_ok.false) (held_empty s.heap _ c.in-Some.is c.if-s-q.false c.in_default-state.is))

pub bounds-s-pos : goal.bounds-s-pos
bounds-s-pos c =
    grind (arith, full_back c.args.s.heap c.requires, c.requires.len_in)

pub returns-then-ne : goal.returns-then-ne
unfolding place_ok
returns-then-ne c = place_found c.args.s _ (omega arith) c.loop-p.invariant (grind (arith, nat_tests))

pub loop-p-preserved : goal.loop-p-preserved
unfolding place_ok
loop-p-preserved c = below_more _ _ c.loop-p.invariant (grind (arith, nat_tests))

pub returns : goal.returns
returns c = places_right c.args.s (λ k l. c.loop-p.invariant k (omega arith))
