-- By whether the length is 0, the answer is `pop_sound`: the slot of the head is full with position 0, so its removal fills that.
-- Assumes nothing.
use mathlib.Core.Path.{ap}
use native.Mathlib.Omega.{arith}
use borrow.Author.Tests.{lt-ltb, eq-eqb, ne_eqb}
use Rattle.heap.specs.declared.Heap.{Heap}
use Rattle.heap.specs.Rules.{removed_of}
use Rattle.heap.specs.Calls.{remove_sound, pop_sound}
use Rattle.heap.proofs.Walking.Laws.{len_vacated, slots_in_vacated}
use Rattle.heap.proofs.Soundness.SoundFacts.{slots_in_range}
use Rattle.heap.proofs.pop_sound.Goals as goal

pub returns-then-h-eq0 : goal.returns-then-h-eq0
unfolding pop_sound
returns-then-h-eq0 c = rw (c.given.ensures, eq-eqb _ _ c.if-h-eq0.true)

pub filled-swaps-requires-clause-pos_lt_len : goal.filled-swaps-requires-clause-pos_lt_len
filled-swaps-requires-clause-pos_lt_len c = rw (ap (λ (g : Heap). g.len) c.vacated.ensures, len_vacated) (omega arith)

pub filled-swaps-requires-clause-slots_in : goal.filled-swaps-requires-clause-slots_in
filled-swaps-requires-clause-slots_in c = rw c.vacated.ensures (slots_in_vacated _ _ (slots_in_range _ c.requires))

pub returns : goal.returns
unfolding pop_sound remove_sound removed_of
returns c =
    let head = c.requires.forth 0 (omega arith) in
    rw (c.given-2.ensures, ne_eqb _ _ c.if-h-eq0.false, lt-ltb _ _ head.0, head.1, c.filled-swaps.ensures, c.vacated.ensures)
