-- A push adds its entry and a removal takes its entry away; every other entry stays, as often as it was there. No order is needed.
-- Assumes nothing.
use mathlib.Core.Path.{◌≡◌, ap}
use Prim.Native.Nat.{ℕ, ◌+◌, ◌≤◌, ◌<◌}
use native.Mathlib.Omega.{arith}
use lib.ListN.{length}
use Rattle.theory.specs.Weights.{total}
use Rattle.theory.proofs.Entries.{push_total, remove_total}
use Rattle.heap.specs.declared.Slot.{Slot}
use Rattle.heap.specs.declared.Pos.{Pos}
use Rattle.heap.specs.declared.Place.{Place}
use Rattle.heap.specs.declared.Entry.{Entry}
use Rattle.heap.specs.declared.Heap.{Heap}
use Rattle.heap.specs.Rules.{no_entry, entry_at, items, key, new_entry, pushed_of, removed_of}
use Rattle.heap.proofs.AsList.Items.{items_length, items_at}
use Rattle.heap.proofs.AsList.ItemsCalls.{push_walked, remove_walked}

module _ (w : Entry → ℕ) (h : Heap) where
  -- by every weight, a push adds that of its entry
  pub push_adds : (at g : ℕ) (place : Place) → h.len < length h.entries
      → total w (items (pushed_of h at g place).heap) ≡ total w (items h) + w (new_entry h at g place)
  push_adds at g place room = rw (push_walked h at g place room).listed (push_total key no_entry w (items h) (new_entry h at g place))

  -- by every weight, a removal takes that of its entry away
  pub remove_takes : (s : Slot) (p : Pos) → h.len ≤ length h.entries → p.0 < h.len
      → total w (items (removed_of h s p).heap) + w (entry_at h p.0) ≡ total w (items h)
  remove_takes s p fits b =
      rw (remove_walked h s p fits b).listed
      (omega (arith, remove_total key no_entry w (items h) p.0 (omega (arith, items_length h fits)), ap w (items_at h p.0 b)))
