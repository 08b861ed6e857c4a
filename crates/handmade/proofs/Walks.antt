-- One turn of a builder's loop is one turn of its rule, and the rule ends where the loop does.
-- Assumes nothing.
use mathlib.Core.Path.{◌≡◌, ap}
use Prim.Native.Nat.{ℕ, suc, ◌+◌, ◌-◌, ◌<◌}
use native.Mathlib.Omega.{arith}
use Rattle.heap.specs.declared.Heap.{Heap}
use Rattle.heap.specs.Rules.{put_at}
use Rattle.handmade.specs.Heaps.{empty_of, entry_of, with_slot, fill_from, link_from}

-- a number above 0 is one more than the number before it
one_more : (k : ℕ) → 0 < k → k ≡ suc (k - 1)
one_more k h = omega arith

-- where positions are left the first of them is next, and where none is left the heap stays
pub fill_goes : (k i : ℕ) (h : Heap) → 0 < k → fill_from k i h ≡ fill_from (k - 1) (i + 1) (put_at h i (entry_of 5 i i))
unfolding fill_from
fill_goes k i h g = ap (λ (m : ℕ). fill_from m i h) (one_more k g)

pub fill_done : (k i : ℕ) (h : Heap) → k ≡ 0 → fill_from k i h ≡ h
unfolding fill_from
fill_done k i h z = ap (λ (m : ℕ). fill_from m i h) z

-- the same of the slots
pub link_goes : (k i : ℕ) (h : Heap) → 0 < k → link_from k i h ≡ link_from (k - 1) (i + 1) (with_slot h (i + 1) (empty_of i))
unfolding link_from
link_goes k i h g = ap (λ (m : ℕ). link_from m i h) (one_more k g)

pub link_done : (k i : ℕ) (h : Heap) → k ≡ 0 → link_from k i h ≡ h
unfolding link_from
link_done k i h z = ap (λ (m : ℕ). link_from m i h) z
