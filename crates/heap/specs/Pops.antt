-- The rule of popping while the head is due, with a limit: what a caller's loop of pops makes of a sound heap.
-- Assumes nothing.
use Rattle.std.specs.Prelude.{Bool, cond, ◌&&◌, List, [], ◌∷◌, ℕ, zero, suc, ltb, leb}
use Rattle.heap.specs.declared.Entry.{Entry}
use Rattle.heap.specs.declared.Heap.{Heap}
use Rattle.heap.specs.Rules.{entry_at, key}
use Rattle.heap.specs.Calls.{pop_sound}

-- what was popped, in the order in which it came out, and the heap that is left
pub record PopRun : Type 0 where
  pub out : List Entry
  pub left : Heap

-- the head is there, and its deadline is at or before the reading m
abbrev pub due_by : Heap → ℕ → Bool
due_by h m = ltb 0 h.len && leb (key (entry_at h 0)) m

-- pops while the head is due at the reading m. The first number is the limit: at most that many are popped. The full run is the
-- case where the limit is the count of the entries
unfoldable pub pops_of : ℕ → Heap → ℕ → PopRun
pops_of zero h m = record { out = []; left = h }
pops_of (suc k) h m =
    let r = pops_of k (pop_sound h).state m in
    let s : PopRun = record { out = entry_at h 0 ∷ r.out; left = r.left } in
    cond (due_by h m) s (record { out = []; left = h })
