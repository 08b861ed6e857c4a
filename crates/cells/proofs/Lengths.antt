-- How many bytes each kind takes.
-- Assumes nothing.
use mathlib.Core.Path.{◌≡◌, refl}
use lib.ListN.{length}
use Rattle.heap.specs.declared.Entry.{Entry}
use Rattle.heap.specs.declared.SlabSlot.{SlabSlot}
use Rattle.state.specs.declared.Timer.{Timer}
use Rattle.cells.specs.declared.Header.{Header}
use Rattle.cells.specs.Cells.{header_bytes, entry_bytes, slot_bytes, timer_bytes}

pub header_long : (h : Header) → length (header_bytes h) ≡ 9
unfolding header_bytes
header_long h = refl

pub entry_long : (e : Entry) → length (entry_bytes e) ≡ 14
unfolding entry_bytes
entry_long e = refl

pub slot_long : (s : SlabSlot) → length (slot_bytes s) ≡ 2
unfolding slot_bytes
slot_long s = refl

pub timer_long : (t : Timer) → length (timer_bytes t) ≡ 19
unfolding timer_bytes
timer_long t = refl
