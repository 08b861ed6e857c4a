-- The clauses of RULES.md, section 8, as specs/Clauses.antt has them, and the test that every call makes say the same, of every set:
-- the test says yes exactly where no clause is broken. The worked sets (proofs/States.antt) then check how the clauses are read.
-- Assumes nothing.
use mathlib.Core.Path.{◌≡◌}
use mathlib.Core.Bool.{true}
use mathlib.Core.List.{[]}
use lib.ListN.{length}
use Rattle.heap.specs.Capacity.{cap}
use Rattle.state.specs.declared.Set.{Set}
use Rattle.state.specs.Faults.{sound_of}
use Rattle.state.proofs.Test.{sound_told, sound_tells}
use Rattle.promises.specs.Clauses.{broken}
use Rattle.promises.proofs.ByClause.ClauseKept.{broken_kept, kept_broken}
use Rattle.promises.proofs.ByClause.ClausesEnough.{kept_sound}
use Rattle.promises.proofs.ByClause.ClausesNeeded.{sound_kept}

-- the test says yes of a set exactly where it breaks no clause; how long the arrays are the code's types say
pub clauses_sound : (s : Set) → length s.timers ≡ cap → length s.heap.entries ≡ cap → length s.heap.slots ≡ cap
    → (sound_of s ≡ true → broken s ≡ []) × (broken s ≡ [] → sound_of s ≡ true)
clauses_sound s n m k = (
  λ e. kept_broken s (sound_kept s n m k (sound_told s n m k e)),
  λ e. sound_tells s (kept_sound s n m k (broken_kept s e)),
)
