-- What each builder promises of its answer r: it is what the rule gives.
-- Assumes nothing.
use Rattle.std.specs.Prelude.{◌≡◌, ℕ}
use Rattle.heap.specs.declared.Entry.{Entry}
use Rattle.heap.specs.declared.SlabSlot.{SlabSlot}
use Rattle.heap.specs.declared.Heap.{Heap}
use Rattle.handmade.specs.Heaps.{full_of, empty_of, entry_of, freed_of, slab_of, holding_of, holding_two_of, one_of, two_of, vacated_of, left_over_of, full_heap_of, one_more_of, one_slot_more_of}

abbrev pub Filled : ℕ → SlabSlot → Type 0
Filled i r = r ≡ full_of i

abbrev pub Emptied : ℕ → SlabSlot → Type 0
Emptied n r = r ≡ empty_of n

abbrev pub Entered : (at place slot : ℕ) → Entry → Type 0
Entered at place slot r = r ≡ entry_of at place slot

abbrev pub Freed : Heap → ℕ → Heap → Type 0
Freed h n r = r ≡ freed_of h n

abbrev pub Slabbed : (x y : SlabSlot) (made free : ℕ) → Heap → Type 0
Slabbed x y made free r = r ≡ slab_of x y made free

abbrev pub Holding : Heap → Entry → Heap → Type 0
Holding h e r = r ≡ holding_of h e

abbrev pub HoldingTwo : Heap → (e f : Entry) → Heap → Type 0
HoldingTwo h e f r = r ≡ holding_two_of h e f

abbrev pub One : Entry → Heap → Type 0
One e r = r ≡ one_of e

abbrev pub Two : (e f : Entry) → Heap → Type 0
Two e f r = r ≡ two_of e f

abbrev pub Vacated : Heap → Type 0
Vacated r = r ≡ vacated_of

abbrev pub LeftOver : Heap → Type 0
LeftOver r = r ≡ left_over_of

abbrev pub FullHeap : Heap → Type 0
FullHeap r = r ≡ full_heap_of

abbrev pub OneMore : Heap → Heap → Type 0
OneMore h r = r ≡ one_more_of h

abbrev pub OneSlotMore : Heap → Type 0
OneSlotMore r = r ≡ one_slot_more_of
