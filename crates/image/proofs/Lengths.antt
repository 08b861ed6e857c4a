-- How long the parts of an image are.
-- Assumes nothing.
use mathlib.Core.Path.{◌≡◌, ap, ◌∙◌}
use mathlib.Core.List.{List, ◌++◌}
use Prim.Native.Nat.{ℕ, ◌*◌}
use native.Mathlib.Omega.{arith}
use lib.ListN.{length, get_or, length-append}
use Rattle.heap.specs.Capacity.{cap}
use Rattle.heap.specs.Rules.{no_entry}
use Rattle.heap.specs.declared.Heap.{Heap}
use Rattle.state.specs.State.{no_timer}
use Rattle.state.specs.declared.Set.{Set}
use Rattle.digits.specs.Rows.{rows, blocks, used}
use Rattle.digits.proofs.Rows.{length_rows, blocks_long}
use Rattle.cells.specs.Cells.{zero_slot, header_bytes, entry_bytes, slot_bytes, timer_bytes}
use Rattle.cells.proofs.Lengths.{header_long, entry_long, slot_long, timer_long}
use Rattle.image.specs.Image.{header_for, entries_bytes, slots_bytes, timers_bytes, image_of, size}

rows_long : {A : Type 0} (f : A → List ℕ) (w : ℕ) → ((x : A) → length (f x) ≡ w) → (g : ℕ → A) (n : ℕ) → length (blocks f (rows g n)) ≡ n * w
rows_long f w h g n = blocks_long f w h (rows g n) ∙ ap (λ (k : ℕ). k * w) (length_rows g n)

pub entries_long : (h : Heap) → length (entries_bytes h) ≡ cap * 14
unfolding entries_bytes
entries_long h = rows_long entry_bytes 14 entry_long (used no_entry h.len h.entries) cap

pub slots_long : (h : Heap) → length (slots_bytes h) ≡ cap * 2
unfolding slots_bytes
slots_long h = rows_long slot_bytes 2 slot_long (used zero_slot h.made h.slots) cap

pub timers_long : (s : Set) → length (timers_bytes s) ≡ cap * 19
unfolding timers_bytes
timers_long s = rows_long timer_bytes 19 timer_long (λ j. get_or s.timers j no_timer) cap

pub image_long : (s : Set) → length (image_of s) ≡ size
unfolding image_of
image_long s =
    length-append (header_bytes (header_for s)) (entries_bytes s.heap ++ (slots_bytes s.heap ++ timers_bytes s))
    ∙ omega (arith, header_long (header_for s), length-append (entries_bytes s.heap) (slots_bytes s.heap ++ timers_bytes s), entries_long s.heap, length-append (slots_bytes s.heap) (timers_bytes s), slots_long s.heap, timers_long s)
