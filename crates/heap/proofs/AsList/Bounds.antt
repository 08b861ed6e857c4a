-- How many swaps a push and a removal take at most: the height of the heap that they leave, which is the floor of the logarithm.
-- Assumes nothing.
use mathlib.Core.Path.{◌≡◌, refl, ap}
use mathlib.Core.Option.{none, some}
use Prim.Native.Nat.{ℕ, ◌+◌, ◌-◌, ◌^◌, ◌≤◌, ◌<◌}
use native.Mathlib.Numerals.{add-one}
use native.Mathlib.Omega.{arith}
use lib.ListN.{length}
use borrow.Author.Tests.{eq-eqb}
use Rattle.theory.specs.Logarithm.{log2}
use Rattle.theory.proofs.Order.{split}
use Rattle.theory.proofs.Tests.{ref_lt, ref_eq, cond-ref}
use Rattle.theory.proofs.Logarithm.{log2_pow}
use Rattle.theory.proofs.Swaps.{push_log, remove_log}
use Rattle.refusals.specs.Answer.{Answer, accepted, refused, unsound, Outcome}
use Rattle.heap.specs.Capacity.{cap}
use Rattle.heap.specs.declared.Slot.{Slot}
use Rattle.heap.specs.declared.Entry.{Entry}
use Rattle.heap.specs.declared.SlotState.{SlotState}
use Rattle.heap.specs.declared.SlotState.TheVariants.{Full, Empty}
use Rattle.heap.specs.declared.Pos.{Pos}
use Rattle.heap.specs.declared.Place.{Place}
use Rattle.heap.specs.declared.Heap.{Heap}
use Rattle.heap.specs.Rules.{no_entry, entry_at, state_at, items, key, new_entry, pushed_of, vacated_of, filled_of, removed_of}
use Rattle.heap.specs.Sound.{Sound}
use Rattle.heap.specs.Calls.{height_of, Off, push_sound, remove_by, remove_sound, pop_sound}
use Rattle.heap.proofs.Soundness.SoundFacts.{full_back}
use Rattle.heap.proofs.AsList.Items.{items_length, walked_swaps}
use Rattle.heap.proofs.AsList.ItemsCalls.{push_walked, remove_walked}

-- a push takes at most as many swaps as the heap is high afterwards
pub push_bound : (h : Heap) (at g : ℕ) (place : Place) → h.len < length h.entries → (pushed_of h at g place).swaps ≤ height_of (h.len + 1)
push_bound h at g place room =
    omega (arith, walked_swaps (push_walked h at g place room), push_log key no_entry (items h) (new_entry h at g place), ap (λ (n : ℕ). log2 (n + 1)) (items_length h (omega arith)))

module _ (h : Heap) (s : Slot) (p : Pos) (fits : h.len ≤ length h.entries) (inside : p.0 < h.len) where
  -- a removal that leaves entries takes at most as many swaps as the heap is high afterwards
  pub remove_bound : 1 < h.len → (removed_of h s p).swaps ≤ height_of (h.len - 1)
  remove_bound more =
      let n = items_length h fits in
      omega (arith, walked_swaps (remove_walked h s p fits inside), remove_log key no_entry (items h) p.0 (omega arith) (omega arith), ap (λ (k : ℕ). log2 (k - 1)) n)

  -- a removal that leaves none takes no swap
  pub remove_none : h.len ≡ 1 → (removed_of h s p).swaps ≡ 0
  unfolding removed_of filled_of vacated_of
  remove_none one = rw (eq-eqb p.0 (h.len - 1) (omega arith))

  -- so no removal takes more swaps than the heap is high afterwards
  pub remove_height : (removed_of h s p).swaps ≤ height_of (h.len - 1)
  remove_height = split h.len 1 (λ one. omega (arith, remove_none one)) (λ n. remove_bound (omega arith))

-- THE CALLS: the swaps that a push and a removal of a sound heap answer are within the height of the heap that they leave

-- the swaps in an answer of a removal
abbrev swaps_in : Answer Off → ℕ
swaps_in (accepted (some v)) = v.1
swaps_in (accepted none) = 0
swaps_in (refused n) = 0
swaps_in (unsound f) = 0

-- and of a push
abbrev swaps_of : Answer (Slot × ℕ) → ℕ
swaps_of (accepted v) = v.1
swaps_of (refused n) = 0
swaps_of (unsound f) = 0

-- push onto n entries: at most the height of n + 1
pub push_answers : (h : Heap) → Sound h → (at g : ℕ) (place : Place) (s : Slot) (n : ℕ) → (push_sound h at g place).answer ≡ accepted (s, n)
    → n ≤ height_of (h.len + 1)
unfolding push_sound
push_answers h s at g place t n =
    cond-ref (λ (o : Outcome Heap (Slot × ℕ)). o.answer ≡ accepted (t, n) → n ≤ height_of (h.len + 1)) (ref_lt h.len cap)
    (λ room e. let q : (pushed_of h at g place).swaps ≡ n = ap swaps_of e in omega (arith, push_bound h at g place (omega arith)))
    (λ full e. absurd (let z : ◌≡◌ {A = ℕ} 0 1 = cc in omega arith))

removed_answers : (h : Heap) → Sound h → (t : Slot) → t.0 < h.made → (x : SlotState) → state_at h t.0 ≡ x → (e : Entry) (n : ℕ)
    → (remove_by h t x).answer ≡ accepted (some (e, n)) → n ≤ height_of (h.len - 1)
removed_answers h s t b (Full p) f e n q =
    let r : (removed_of h t p).swaps ≡ n = ap swaps_in q in omega (arith, remove_height h t p (omega arith) (full_back h s t.0 p b f).0)
removed_answers h s t b (Empty k) f e n q = absurd (let z : ◌≡◌ {A = ℕ} 0 1 = cc in omega arith)

-- a removal that leaves n entries: at most the height of n, which is 0 for none
pub remove_answers : (h : Heap) → Sound h → (t : Slot) (e : Entry) (n : ℕ) → (remove_sound h t).answer ≡ accepted (some (e, n))
    → n ≤ height_of (h.len - 1)
unfolding remove_sound
remove_answers h s t e n =
    cond-ref (λ (o : Outcome Heap Off). o.answer ≡ accepted (some (e, n)) → n ≤ height_of (h.len - 1)) (ref_lt t.0 h.made)
    (λ b q. removed_answers h s t b (state_at h t.0) refl e n q)
    (λ b q. absurd (let z : ◌≡◌ {A = ℕ} 0 1 = cc in omega arith))

-- a pop is such a removal
pub pop_answers : (h : Heap) → Sound h → (e : Entry) (n : ℕ) → (pop_sound h).answer ≡ accepted (some (e, n)) → n ≤ height_of (h.len - 1)
unfolding pop_sound
pop_answers h s e n =
    cond-ref (λ (o : Outcome Heap Off). o.answer ≡ accepted (some (e, n)) → n ≤ height_of (h.len - 1)) (ref_eq h.len 0)
    (λ z q. absurd (let z : ◌≡◌ {A = ℕ} 0 1 = cc in omega arith))
    (λ m. remove_answers h s (entry_at h 0).slot e n)

-- the height of a heap that is not empty is the floor of the logarithm: the largest power of 2 within the count
pub height_floor : (n : ℕ) → 1 ≤ n → (2 ^ height_of n ≤ n) × (n < 2 ^ (height_of n + 1))
height_floor n p = rw (add-one (log2 n)) (log2_pow n p)
