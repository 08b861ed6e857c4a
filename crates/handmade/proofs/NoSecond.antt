-- The builders have no second answer: what each promises is that the answer is what its rule gives.
-- Assumes nothing.
use Prim.Native.Nat.{ℕ}
use Rattle.theory.specs.Promise.{NoSecond}
use Rattle.theory.proofs.Promise.{by_rule, plain_apart}
use Rattle.refusals.specs.Answer.{Nothing}
use Rattle.heap.specs.declared.Entry.{Entry}
use Rattle.heap.specs.declared.SlabSlot.{SlabSlot}
use Rattle.heap.specs.declared.Heap.{Heap}
use Rattle.handmade.specs.Heaps.{full_of, empty_of, entry_of, freed_of, slab_of, holding_of, holding_two_of, one_of, two_of, vacated_of, left_over_of, full_heap_of, one_more_of, one_slot_more_of}
use Rattle.handmade.specs.Promises.{Filled, Emptied, Entered, Freed, Slabbed, Holding, HoldingTwo, One, Two, Vacated, LeftOver, FullHeap, OneMore, OneSlotMore}

pub full_no_second : NoSecond Filled
full_no_second = by_rule (λ (r : SlabSlot). r) (λ (q : ℕ). full_of q) plain_apart

pub empty_no_second : NoSecond Emptied
empty_no_second = by_rule (λ (r : SlabSlot). r) (λ (q : ℕ). empty_of q) plain_apart

pub entry_no_second : NoSecond (λ (q : ℕ × ℕ × ℕ) (r : Entry). Entered q.0 q.1 q.2 r)
entry_no_second = by_rule (λ (r : Entry). r) (λ (q : ℕ × ℕ × ℕ). entry_of q.0 q.1 q.2) plain_apart

pub freed_no_second : NoSecond (λ (q : Heap × ℕ) (r : Heap). Freed q.0 q.1 r)
freed_no_second = by_rule (λ (r : Heap). r) (λ (q : Heap × ℕ). freed_of q.0 q.1) plain_apart

pub slab_no_second : NoSecond (λ (q : SlabSlot × SlabSlot × ℕ × ℕ) (r : Heap). Slabbed q.0 q.1 q.2 q.3 r)
slab_no_second = by_rule (λ (r : Heap). r) (λ (q : SlabSlot × SlabSlot × ℕ × ℕ). slab_of q.0 q.1 q.2 q.3) plain_apart

pub holding_no_second : NoSecond (λ (q : Heap × Entry) (r : Heap). Holding q.0 q.1 r)
holding_no_second = by_rule (λ (r : Heap). r) (λ (q : Heap × Entry). holding_of q.0 q.1) plain_apart

pub holding_two_no_second : NoSecond (λ (q : Heap × Entry × Entry) (r : Heap). HoldingTwo q.0 q.1 q.2 r)
holding_two_no_second = by_rule (λ (r : Heap). r) (λ (q : Heap × Entry × Entry). holding_two_of q.0 q.1 q.2) plain_apart

pub one_no_second : NoSecond One
one_no_second = by_rule (λ (r : Heap). r) (λ (q : Entry). one_of q) plain_apart

pub two_no_second : NoSecond (λ (q : Entry × Entry) (r : Heap). Two q.0 q.1 r)
two_no_second = by_rule (λ (r : Heap). r) (λ (q : Entry × Entry). two_of q.0 q.1) plain_apart

pub vacated_no_second : NoSecond (λ (q : Nothing) (r : Heap). Vacated r)
vacated_no_second = by_rule (λ (r : Heap). r) (λ (q : Nothing). vacated_of) plain_apart

pub left_over_no_second : NoSecond (λ (q : Nothing) (r : Heap). LeftOver r)
left_over_no_second = by_rule (λ (r : Heap). r) (λ (q : Nothing). left_over_of) plain_apart

pub full_heap_no_second : NoSecond (λ (q : Nothing) (r : Heap). FullHeap r)
full_heap_no_second = by_rule (λ (r : Heap). r) (λ (q : Nothing). full_heap_of) plain_apart

pub one_more_no_second : NoSecond OneMore
one_more_no_second = by_rule (λ (r : Heap). r) (λ (q : Heap). one_more_of q) plain_apart

pub one_slot_more_no_second : NoSecond (λ (q : Nothing) (r : Heap). OneSlotMore r)
one_slot_more_no_second = by_rule (λ (r : Heap). r) (λ (q : Nothing). one_slot_more_of) plain_apart
