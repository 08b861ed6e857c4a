-- The rest of the way down, from the heap whose hole is filled with the carried entry, is always the whole way; at its end nothing is
-- left of it.
-- Assumes nothing.
use mathlib.Core.Path.{◌≡◌}
use Prim.Native.Nat.{ℕ, ◌-◌, ◌<◌, ◌≤◌}
use lib.ListN.{length}
use Rattle.heap.specs.Capacity.{cap}
use Rattle.heap.specs.declared.Entry.{Entry}
use Rattle.heap.specs.declared.Heap.{Heap}
use Rattle.heap.specs.Rules.{put_at, down_from}
use Rattle.heap.specs.Sound.{SlotsIn}
use Rattle.heap.proofs.walk.percolate_down.Given as goal

-- the rest of the way down, and what keeps it in range
pub record Down (from : ℕ) (h : Heap) (e : Entry) (g : Heap) (i n : ℕ) : Type 0 where
  pub range : SlotsIn (put_at g i e)
  pub long : length g.entries ≡ cap
  pub room : g.len ≤ cap
  pub as_long : g.len ≡ h.len
  pub here : i < h.len
  pub passed : n ≤ i
  pub rest : down_from (h.len - n) (put_at g i e) i n ≡ down_from h.len (put_at h from e) from 0

abbrev pub invariant-loop-at : goal.invariant-loop-at
invariant-loop-at l = Down l.initial.at.0 l.initial.h l.e l.h l.at.0 l.swaps

abbrev pub decreases-loop-at : goal.decreases-loop-at
decreases-loop-at l = l.initial.h.len - l.at.0
