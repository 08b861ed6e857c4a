-- A set with room that is not in use cleared is the same in all that counts, and has the same image and the same fault.
-- Assumes nothing.
use mathlib.Core.Path.{◌≡◌, refl, ap, ◌∙◌}
use mathlib.Core.List.{List, ◌++◌}
use Prim.Native.Nat.{ℕ, ◌<◌, ◌≤◌}
use native.Mathlib.Omega.{arith}
use lib.ListN.{get_or}
use Rattle.heap.specs.Capacity.{cap}
use Rattle.heap.specs.Rules.{no_entry, no_slot}
use Rattle.heap.specs.InUse as Heap
use Rattle.heap.specs.declared.SlabSlot.{SlabSlot}
use Rattle.state.specs.Faults.{fault_of}
use Rattle.state.specs.InUse.{SameInUse, Twins}
use Rattle.state.specs.declared.Set.{Set}
use Rattle.state.proofs.InUse.{fault_in_use}
use Rattle.digits.specs.Rows.{rows, blocks, used}
use Rattle.digits.proofs.Rows.{rows_at, rows_ext, length_rows, get_d_any, used_in}
use Rattle.cells.specs.Cells.{zero_slot, header_bytes, entry_bytes, slot_bytes}
use Rattle.image.specs.Image.{header_for, entries_bytes, slots_bytes, timers_bytes, image_of, cleared}
use Rattle.image.proofs.Records.{used_twice}

module _ {A : Type 0} where
  -- what is in use is as it was
  kept : (d : A) (n : ℕ) (xs : List A) (j : ℕ) → n ≤ cap → j < n → get_or (rows (used d n xs) cap) j d ≡ get_or xs j d
  kept d n xs j h q =
      rows_at (used d n xs) cap j d (omega arith) ∙ used_in d n xs j q

module _ (s : Set) (l : s.heap.len ≤ cap) (m : s.heap.made ≤ cap) (v : Heap.Long s.heap) where
  slot_kept : (j : ℕ) → j < s.heap.made → get_or (cleared s).heap.slots j no_slot ≡ get_or s.heap.slots j no_slot
  unfolding cleared
  slot_kept j q =
      let xs = s.heap.slots in
      let ys = rows (used zero_slot s.heap.made xs) cap in
      get_d_any ys j no_slot zero_slot (omega (arith, length_rows (used zero_slot s.heap.made xs) cap))
      ∙ kept zero_slot s.heap.made xs j m q
      ∙ get_d_any xs j zero_slot no_slot (omega (arith, v.slots_long))

  -- the cleared set is the same in all that counts
  pub cleared_same : SameInUse (cleared s) s
  unfolding cleared
  cleared_same = record {
    heaps = record {
      same_len = refl;
      same_made = refl;
      same_free = refl;
      entries = λ j q. kept no_entry s.heap.len s.heap.entries j l q;
      slots = λ j q. ap (λ (x : SlabSlot). x.state) (slot_kept j q);
    };
    same_timers = refl;
    same_first = refl;
    same_closed = refl;
  }

  pub cleared_twins : Twins (cleared s) s
  unfolding cleared
  cleared_twins = record {
    same = cleared_same;
    left = record { entries_long = length_rows (used no_entry s.heap.len s.heap.entries) cap; slots_long = length_rows (used zero_slot s.heap.made s.heap.slots) cap };
    right = v;
  }

  -- and its fault is the same
  pub cleared_fault : fault_of (cleared s) ≡ fault_of s
  cleared_fault = fault_in_use cleared_twins

-- what is cleared is not seen in the bytes
pub image_cleared : (s : Set) → image_of (cleared s) ≡ image_of s
unfolding image_of entries_bytes slots_bytes timers_bytes cleared
image_cleared s =
    let n = s.heap.len in
    let m = s.heap.made in
    let e = rows_ext _ (used no_entry n s.heap.entries) cap (used_twice no_entry n cap (λ j. get_or s.heap.entries j no_entry)) in
    let t = rows_ext _ (used zero_slot m s.heap.slots) cap (used_twice zero_slot m cap (λ j. get_or s.heap.slots j zero_slot)) in
    λ k. header_bytes (header_for s) ++ (blocks entry_bytes (e k) ++ (blocks slot_bytes (t k) ++ timers_bytes s))
