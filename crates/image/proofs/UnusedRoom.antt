-- Room not in use is no part of an image: two sets that differ only there have one image, and a set with that room made zero differs
-- only there.
-- Assumes nothing.
use mathlib.Core.Path.{◌≡◌, refl, ap, ◌∙◌}
use mathlib.Core.List.{List, ◌++◌}
use Prim.Native.Nat.{ℕ, ◌<◌}
use native.Mathlib.Omega.{arith}
use lib.Dec.{ltb}
use lib.ListN.{get_or}
use Rattle.theory.proofs.Tests.{ref_lt}
use Rattle.digits.specs.Rows.{rows, blocks, used}
use Rattle.digits.proofs.Rows.{rows_ext, get_d_any}
use Rattle.heap.specs.Capacity.{cap}
use Rattle.heap.specs.Rules.{no_entry, no_slot}
use Rattle.heap.proofs.UnusedRoom.InUseWalks.{choose_ref}
use Rattle.state.specs.declared.Timer.{Timer}
use Rattle.state.specs.declared.Set.{Set}
use Rattle.state.specs.State.{no_timer}
use Rattle.state.specs.Sound.{Sound}
use Rattle.state.specs.InUse.{Twins}
use Rattle.cells.specs.Cells.{zero_slot, header_bytes, entry_bytes, slot_bytes, timer_bytes}
use Rattle.image.specs.Image.{header_for, entries_bytes, slots_bytes, timers_bytes, image_of, cleared}
use Rattle.image.proofs.Clearing.{cleared_twins}

-- a record in use, of two lists that are the same there
used_same : {A : Type 0} (d : A) (m n : ℕ) (xs ys : List A) (j : ℕ) → m ≡ n → (j < n → get_or xs j d ≡ get_or ys j d) → used d m xs j ≡ used d n ys j
used_same {A} d m n xs ys j e f = choose_ref (λ (x y : A). x ≡ y) (ap (ltb j) e) (ref_lt j n) f (λ _. refl)

module _ {a b : Set} (r : Twins a b) where
  entries_same : entries_bytes a.heap ≡ entries_bytes b.heap
  unfolding entries_bytes
  entries_same =
      ap (blocks entry_bytes)
      (rows_ext (used no_entry a.heap.len a.heap.entries) (used no_entry b.heap.len b.heap.entries) cap
      (λ j _. used_same no_entry a.heap.len b.heap.len a.heap.entries b.heap.entries j r.same.heaps.same_len (r.same.heaps.entries j)))

  -- a slot in use, by what it is
  slot_same : (j : ℕ) → j < cap → j < b.heap.made → get_or a.heap.slots j zero_slot ≡ get_or b.heap.slots j zero_slot
  slot_same j c m =
      get_d_any a.heap.slots j zero_slot no_slot (omega (arith, r.left.slots_long))
      ∙ (λ t. record { state = r.same.heaps.slots j m t })
      ∙ get_d_any b.heap.slots j no_slot zero_slot (omega (arith, r.right.slots_long))

  slots_same : slots_bytes a.heap ≡ slots_bytes b.heap
  unfolding slots_bytes
  slots_same =
      ap (blocks slot_bytes)
      (rows_ext (used zero_slot a.heap.made a.heap.slots) (used zero_slot b.heap.made b.heap.slots) cap
      (λ j c. used_same zero_slot a.heap.made b.heap.made a.heap.slots b.heap.slots j r.same.heaps.same_made (slot_same j c)))

  timers_same : timers_bytes a ≡ timers_bytes b
  unfolding timers_bytes
  timers_same = ap (λ (l : List Timer). blocks timer_bytes (rows (λ j. get_or l j no_timer) cap)) r.same.same_timers

  header_same : header_bytes (header_for a) ≡ header_bytes (header_for b)
  header_same = λ t. header_bytes (record {
    closed = r.same.same_closed t;
    first = r.same.same_first t;
    len = r.same.heaps.same_len t;
    made = r.same.heaps.same_made t;
    free = r.same.heaps.same_free t;
  })

  -- two sets that differ only there have one image
  pub image_same : image_of a ≡ image_of b
  unfolding image_of
  image_same = λ t. header_same t ++ (entries_same t ++ (slots_same t ++ timers_same t))

-- a sound set with that room made zero differs only there
pub sound_cleared : (s : Set) → Sound s → Twins (cleared s) s
sound_cleared s ok =
    cleared_twins s ok.heap_sound.len_in ok.heap_sound.made_in
    (record { entries_long = ok.heap_sound.entries_long; slots_long = ok.heap_sound.slots_long })
