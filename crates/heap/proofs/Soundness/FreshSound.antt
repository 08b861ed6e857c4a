-- The empty heap is sound, so what the calls require can be met.
-- Assumes nothing.
use mathlib.Core.Path.{refl}
use native.Mathlib.Omega.{arith}
use lib.ListN.{length-replicate}
use Rattle.theory.specs.Counting.{count}
use Rattle.theory.specs.Chain.{walkb, chain_okb}
use Rattle.heap.specs.Sound.{Sound}
use Rattle.heap.specs.Calls.{fresh_of}

-- the empty heap is sound
pub fresh_sound : Sound fresh_of
unfolding count chain_okb walkb
fresh_sound = record {
  entries_long = simp length-replicate;
  slots_long = simp length-replicate;
  len_in = omega arith;
  made_in = omega arith;
  counted = refl;
  forth = λ p l. absurd (omega arith);
  ordered = λ i p l. absurd (omega arith);
  chained = refl;
}
