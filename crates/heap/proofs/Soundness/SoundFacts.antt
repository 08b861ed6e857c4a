-- What a sound heap says besides: its slots are in the slab, its free head is a slot while there is room, and each full slot names
-- the entry that names it.
-- Assumes nothing.
use mathlib.Core.Path.{◌≡◌, refl}
use mathlib.Core.Bool.{Bool, true, false, not, cond, true≢false, false≢true}
use mathlib.Core.Option.{none, some}
use Prim.Native.Nat.{ℕ, zero, suc, ◌+◌, ◌<◌}
use native.Mathlib.Omega.{arith}
use lib.Dec.{ltb, eqb}
use borrow.Author.Tests.{ltb-true, lt-ltb, eqb-true}
use Rattle.theory.specs.Counting.{tally, count}
use Rattle.theory.specs.Chain.{chain_okb}
use Rattle.theory.proofs.Tests.{and_left}
use Rattle.theory.proofs.ChainTest.{ok_head, ok_none}
use Rattle.heap.specs.Capacity.{cap}
use Rattle.heap.specs.declared.Pos.{Pos}
use Rattle.heap.specs.declared.SlotState.TheVariants.{Full}
use Rattle.heap.specs.declared.Heap.{Heap}
use Rattle.heap.specs.Rules.{state_at, slot_at}
use Rattle.heap.specs.Faults.{is_full, full_at, empty_at, next_at}
use Rattle.heap.specs.Sound.{Sound, SlotsIn}
use Rattle.heap.proofs.Slots.Slab.{sound_slab, back}

-- of two tests that never agree, one or the other passes each number
count_not : (f g : ℕ → Bool) (n : ℕ) → ((i : ℕ) → i < n → f i ≡ not (g i)) → count f n + count g n ≡ n
unfolding count
count_not f g zero h = refl
count_not f g (suc n) h = go (f n) (g n) (h n (omega arith)) (count_not f g n (λ i l. h i (omega arith)))
  where
    go : (a b : Bool) → a ≡ not b → count f n + count g n ≡ n → tally a (count f n) + tally b (count g n) ≡ suc n
    go true true e r = absurd (true≢false e)
    go true false e r = omega arith
    go false true e r = omega arith
    go false false e r = absurd (false≢true e)

-- a slot that was made is empty where it is not full
pub empty_not : (h : Heap) (s : ℕ) → s < h.made → empty_at h s ≡ not (full_at h s)
unfolding empty_at full_at
empty_not h s b = rw (lt-ltb s h.made b)

-- each slot that was made is empty or full
pub empty_full : (h : Heap) → count (empty_at h) h.made + count (full_at h) h.made ≡ h.made
empty_full h = count_not (empty_at h) (full_at h) h.made (empty_not h)

-- an empty slot was made
pub empty_made : (h : Heap) (s : ℕ) → empty_at h s ≡ true → s < h.made
unfolding empty_at
empty_made h s e = ltb-true s h.made (and_left (ltb s h.made) (not (is_full (state_at h s))) e)

-- each entry's slot is a slot of the slab
pub slots_in_range : (h : Heap) → Sound h → SlotsIn h
slots_in_range h s = record { len_in = s.len_in; slots_in_range = λ k b. omega (arith, (s.forth k b).0, s.made_in) }

-- while there is room the free head is a slot of the slab
pub free_in : (h : Heap) → Sound h → h.len < cap → h.free.0 < cap
free_in h s l = go (eqb h.free.0 h.made) refl s.chained
  where
    go : (b : Bool) → eqb h.free.0 h.made ≡ b
        → chain_okb (empty_at h) (next_at h) h.made (cond b none (some h.free.0)) ≡ true → h.free.0 < cap
    go true e w =
        omega (arith, eqb-true h.free.0 h.made e, ok_none (empty_at h) (next_at h) h.made w, empty_full h, s.counted, l)
    go false e w =
        omega (arith, empty_made h h.free.0 (ok_head (empty_at h) (next_at h) h.made h.free.0 w), s.made_in)

-- a full slot names a position of the heap, whose entry names the slot: there are only as many full slots as entries
pub full_back : (h : Heap) → Sound h → (s : ℕ) (p : Pos) → s < h.made → state_at h s ≡ Full p → (p.0 < h.len) × (slot_at h p.0 ≡ s)
full_back h s = back h (sound_slab h s)
