-- The rest of the way up, from the heap whose hole is filled with the carried entry, is always the whole way; at its end nothing is
-- left of it.
-- Assumes nothing.
use mathlib.Core.Path.{◌≡◌}
use Prim.Native.Nat.{ℕ, ◌+◌, ◌-◌, ◌<◌, ◌≤◌}
use lib.ListN.{length}
use Rattle.heap.specs.Capacity.{cap}
use Rattle.heap.specs.declared.Entry.{Entry}
use Rattle.heap.specs.declared.Heap.{Heap}
use Rattle.heap.specs.Rules.{put_at, up_from}
use Rattle.heap.specs.Sound.{SlotsIn}
use Rattle.heap.proofs.walk.percolate_up.Given as goal

-- the rest of the way up, and what keeps it in range
pub record Up (from : ℕ) (h : Heap) (e : Entry) (g : Heap) (i n : ℕ) : Type 0 where
  pub range : SlotsIn (put_at g i e)
  pub long : length g.entries ≡ cap
  pub room : g.len ≤ cap
  pub as_long : g.len ≡ h.len
  pub here : from < h.len
  pub left : i + n ≤ from
  pub rest : up_from (from - n) (put_at g i e) i n ≡ up_from from (put_at h from e) from 0

abbrev pub invariant-loop-at : goal.invariant-loop-at
invariant-loop-at l = Up l.initial.at.0 l.initial.h l.e l.h l.at.0 l.swaps

abbrev pub decreases-loop-at : goal.decreases-loop-at
decreases-loop-at l = l.at.0
