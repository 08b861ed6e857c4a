-- A full slot names a position of the heap, so what the removal reads and moves is in range, and its steps are `remove_sound`.
-- Assumes nothing.
use mathlib.Core.Path.{ap}
use native.Mathlib.Omega.{arith}
use borrow.Author.Tests.{lt-ltb, le-ltb}
use Rattle.heap.specs.declared.Heap.{Heap}
use Rattle.heap.specs.Rules.{removed_of}
use Rattle.heap.specs.Calls.{remove_sound}
use Rattle.heap.proofs.Walking.Laws.{len_vacated, slots_in_vacated}
use Rattle.heap.proofs.Soundness.SoundFacts.{slots_in_range, full_back}
use Rattle.heap.proofs.remove_sound.Goals as goal

pub returns-then-h-s : goal.returns-then-h-s
unfolding remove_sound
returns-then-h-s c = rw (c.kept.ensures, le-ltb c.args.slot.0 c.args.h.made (omega arith))

pub bounds-h-pos : goal.bounds-h-pos
bounds-h-pos c = omega (arith, (full_back _ c.requires _ _ c.if-h-s.false c.in-Full.is).0, c.requires.len_in)

pub filled-swaps-requires-clause-pos_lt_len : goal.filled-swaps-requires-clause-pos_lt_len
filled-swaps-requires-clause-pos_lt_len c = rw (ap (λ (g : Heap). g.len) c.vacated.ensures, len_vacated) (full_back _ c.requires _ _ c.if-h-s.false c.in-Full.is).0

pub filled-swaps-requires-clause-slots_in : goal.filled-swaps-requires-clause-slots_in
filled-swaps-requires-clause-slots_in c = rw c.vacated.ensures (slots_in_vacated _ _ (slots_in_range _ c.requires))

pub returns : goal.returns
unfolding remove_sound removed_of
returns c =
    rw (c.given.ensures, lt-ltb _ _ c.if-h-s.false, c.in-Full.is, c.filled-swaps.ensures, c.vacated.ensures)

pub returns-in_default : goal.returns-in_default
unfolding remove_sound
returns-in_default c = rw (c.kept-in_default.ensures, lt-ltb _ _ c.if-h-s.false, c.in_default.is)
