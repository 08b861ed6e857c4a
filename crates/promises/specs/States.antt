-- Worked sets that hold the test of soundness to RULES.md, section 8. A row is a sound set, an unsound one, and the numbers of the
-- clauses of specs/Clauses.antt that the second breaks. The two sets differ in what those clauses speak of; in rows 2, 3, 4, 30, 31,
-- 54, 71 and 83 something else differs too, so that no further clause is broken. The second breaks one clause alone, but in rows 1, 4,
-- 39 and 40, where that cannot be, and in rows 58, 59 and 69, where two clauses that can each be broken alone are broken together. A row
-- is right where the test says yes of the first set and no of the second, the first breaks no clause, and the second just those. The
-- heap of each is a heap used alone: its test says yes where no clause of it is broken.
-- Assumes nothing.
use Rattle.std.specs.Prelude.{Bool, true, false, cond, ◌&&◌, List, [], ◌∷◌, ◌++◌, ℕ, zero, suc, ◌+◌, ◌-◌, ◌^◌, ltb, eqb, length, replicate, Option, Some, None}
use Rattle.heap.specs.declared.Place.{Place}
use Rattle.heap.specs.declared.Slot.{Slot}
use Rattle.theory.specs.Tests.{bit}
use Rattle.heap.specs.Capacity.{cap}
use Rattle.heap.specs.declared.Entry.{Entry}
use Rattle.heap.specs.declared.SlotState.TheVariants.{Full, Empty}
use Rattle.heap.specs.declared.SlabSlot.{SlabSlot}
use Rattle.heap.specs.declared.Heap.{Heap}
use Rattle.heap.specs.Rules.{no_entry}
use Rattle.heap.specs.Faults.{consistent_of}
use Rattle.state.specs.declared.Life.{Life}
use Rattle.state.specs.declared.Life.TheVariants.{Free, Live, Cancelled, Retired}
use Rattle.state.specs.declared.Waiting.{Waiting}
use Rattle.state.specs.declared.Waiting.TheVariants.{No, Last, Before}
use Rattle.state.specs.declared.Timer.{Timer}
use Rattle.state.specs.declared.Set.{Set}
use Rattle.state.specs.State.{no_timer}
use Rattle.state.specs.Faults.{sound_of}
use Rattle.promises.specs.Bench.{same_numbers}
use Rattle.promises.specs.Clauses.{broken}

-- HOW THE SETS ARE WRITTEN

-- a heap as it is drawn here: its entries by position and its slots by number, how many of each count, and the free head
pub record DrawnHeap : Type 0 where
  pub entries : List Entry
  pub len : ℕ
  pub slots : List SlabSlot
  pub made : ℕ
  pub free : ℕ

-- a set as it is drawn here: its heap, the timers from the place `start` on, the head of its list, and whether it is closed
pub record Drawn : Type 0 where
  pub heap : DrawnHeap
  pub start : ℕ
  pub timers : List Timer
  pub first : Option Place
  pub closed : Bool

-- n elements of an array that are not in use
unfoldable pub spare : {A : Type 0} → A → ℕ → List A
spare d n = replicate n d

-- an array from the number k on: these elements, and after them the rest of the room, which is not in use
abbrev pub in_room : {A : Type 0} → A → ℕ → List A → List A
in_room d k xs = xs ++ spare d (cap - (k + length xs))

-- a slot that is full with a position, and one that is empty and names a slot
abbrev pub full : ℕ → SlabSlot
full i = record { state = Full (record { 0 = i }) }

abbrev pub empty : ℕ → SlabSlot
empty n = record { state = Empty (record { 0 = n }) }

-- the heap, and the set, that is drawn
unfoldable pub heap_of : DrawnHeap → Heap
heap_of h = record {
  entries = in_room no_entry 0 h.entries;
  len = h.len;
  slots = in_room (empty 0) 0 h.slots;
  made = h.made;
  free = record { 0 = h.free };
}

unfoldable pub set_of : Drawn → Set
set_of d = record {
  heap = heap_of d.heap;
  timers = spare no_timer d.start ++ in_room no_timer d.start d.timers;
  first = d.first;
  closed = d.closed;
}

-- an entry of generation 0
abbrev pub entry : (at place slot : ℕ) → Entry
entry d p q = record { at = d; generation = 0; place = record { 0 = p }; slot = record { 0 = q } }

-- a heap with these entries by position, these slots by number, and this free head
abbrev pub heap : List Entry → List SlabSlot → ℕ → DrawnHeap
heap es ss f = record { entries = es; len = length es; slots = ss; made = length ss; free = f }

-- the same with another count of entries, or of slots
abbrev pub with_len : ℕ → DrawnHeap → DrawnHeap
with_len n h = record { entries = h.entries; len = n; slots = h.slots; made = h.made; free = h.free }

abbrev pub with_made : ℕ → DrawnHeap → DrawnHeap
with_made n h = record { entries = h.entries; len = h.len; slots = h.slots; made = n; free = h.free }

-- a heap of one entry, that of place 0 in slot 0; and of none, with one slot made, or none
abbrev pub one : DrawnHeap
one = heap (entry 5 0 0 ∷ []) (full 0 ∷ []) 1

abbrev pub vacated : DrawnHeap
vacated = heap [] (empty 1 ∷ []) 0

abbrev pub bare : DrawnHeap
bare = heap [] [] 0

-- timers by their life, their link and their slot
abbrev pub timer : Life → Waiting → Option Slot → Timer
timer l w h = record { life = l; waiting = w; held = h; uses = 0 }

abbrev pub live : Waiting → Option Slot → Timer
live w h = timer (Live 0 5) w h

abbrev pub cancelled : Waiting → Option Slot → Timer
cancelled w h = timer (Cancelled 0) w h

abbrev pub no_slot : Option Slot
no_slot = None

abbrev pub in_slot : ℕ → Option Slot
in_slot q = Some (record { 0 = q })

abbrev pub before : ℕ → Waiting
before p = Before (record { 0 = p })

-- the head of the list
abbrev pub nobody : Option Place
nobody = None

abbrev pub from : ℕ → Option Place
from p = Some (record { 0 = p })

-- an open set and a closed one: these timers by place, and the rest of the places free
abbrev pub an_open : DrawnHeap → List Timer → Option Place → Drawn
an_open h ts f = record { heap = h; start = 0; timers = ts; first = f; closed = false }

abbrev pub a_closed : DrawnHeap → List Timer → Option Place → Drawn
a_closed h ts f = record { heap = h; start = 0; timers = ts; first = f; closed = true }

-- an open set with this timer at the last place, and the rest of the places free
abbrev pub at_last : DrawnHeap → Timer → Option Place → Drawn
at_last h t f = record { heap = h; start = cap - 1; timers = t ∷ []; first = f; closed = false }

-- ROWS

pub record Row : Type 0 where
  pub number : ℕ
  pub sound : Drawn
  pub unsound : Drawn
  pub breaks : List ℕ

abbrev pub row : ℕ → (sound unsound : Drawn) → (breaks : List ℕ) → Row
row n a b cs = record { number = n; sound = a; unsound = b; breaks = cs }

-- these are clauses of the set's own, and none of them the heap's
abbrev pub of_set : List ℕ → Bool
of_set [] = true
of_set (c ∷ cs) = ltb 19 c && of_set cs

-- the two tests, of the set and of its heap, say yes exactly where they must, and the set breaks just these clauses
abbrev pub tested : Set → Bool → List ℕ → Bool
tested s sound cs =
    eqb (bit (sound_of s)) (bit sound) && (eqb (bit (consistent_of s.heap)) (bit (of_set cs)) && same_numbers (broken s) cs)

abbrev pub right : Row → Bool
right r = tested (set_of r.sound) true [] && tested (set_of r.unsound) false r.breaks

-- the numbers of the rows that are wrong
abbrev pub wrong : List Row → List ℕ
wrong [] = []
wrong (r ∷ rs) = cond (right r) (wrong rs) (r.number ∷ wrong rs)

-- n elements, each made of its number, the first of which is k
unfoldable pub numbered : {A : Type 0} → (ℕ → A) → ℕ → ℕ → List A
numbered f zero k = []
numbered f (suc n) k = f k ∷ numbered f n (suc k)

-- a full heap: entries of one deadline, each in the slot and of the place that have the number of its position
abbrev pub entries_from : ℕ → ℕ → List Entry
entries_from n k = numbered (λ i. entry 5 i i) n k

abbrev pub full_from : ℕ → ℕ → List SlabSlot
full_from n k = numbered full n k

abbrev pub held_from : ℕ → ℕ → List Timer
held_from n k = numbered (λ i. live No (in_slot i)) n k

abbrev pub full_heap : DrawnHeap
full_heap = heap (entries_from cap 0) (full_from cap 0) cap

-- every slot made and empty, each naming the one before it, the first naming the number n; the free head is the last
abbrev pub empty_heap : ℕ → DrawnHeap
empty_heap n = with_made n (heap [] (empty n ∷ numbered empty (cap - 1) 0) (cap - 1))

-- where as many entries or slots as there is room for are drawn
abbrev pub brimful : List Row
brimful =
    -- AN ENTRY TOO MANY. It breaks 13 too: there are then more entries than the slots can be full
    row 1 (an_open full_heap (held_from cap 0) nobody) (an_open (with_len (cap + 1) full_heap) (held_from cap 0) nobody) (11 ∷ 13 ∷ [])
    -- A SLOT TOO MANY
    ∷ row 2 (an_open (empty_heap cap) [] nobody) (an_open (empty_heap (cap + 1)) [] nobody) (12 ∷ [])
    ∷ []

abbrev pub counts : List Row
counts =
    -- A FULL SLOT WITHOUT AN ENTRY
    row 3 (an_open vacated [] nobody) (an_open (heap [] (full 0 ∷ []) 1) [] nobody) (13 ∷ [])
    -- AN ENTRY WITHOUT A FULL SLOT. It breaks 14 too: different entries would need different full slots
    ∷ row 4
    (an_open one (live No (in_slot 0) ∷ []) nobody)
    (an_open (heap (entry 5 0 0 ∷ []) (empty 1 ∷ []) 0) (live No no_slot ∷ []) nobody)
    (13 ∷ 14 ∷ [])
    ∷ []

abbrev pub positions : List Row
positions =
    -- AN ENTRY'S SLOT WAS NEVER MADE. Past the slots one stands that would do
    row 5
    (an_open (with_made 1 (heap (entry 5 0 0 ∷ []) (full 0 ∷ full 0 ∷ []) 1)) (live No (in_slot 0) ∷ []) nobody)
    (an_open (with_made 1 (heap (entry 5 0 1 ∷ []) (full 0 ∷ full 0 ∷ []) 1)) (live No (in_slot 0) ∷ []) nobody)
    (14 ∷ [])
    -- IT IS EMPTY
    ∷ row 6
    (an_open (heap (entry 5 0 0 ∷ []) (full 0 ∷ empty 2 ∷ []) 1) (live No (in_slot 0) ∷ []) nobody)
    (an_open (heap (entry 5 0 1 ∷ []) (full 0 ∷ empty 2 ∷ []) 1) (live No (in_slot 0) ∷ []) nobody)
    (14 ∷ [])
    -- IT NAMES ANOTHER POSITION. Each timer names the slot in which its entry stands
    ∷ row 7
    (an_open (heap (entry 5 0 1 ∷ entry 5 1 0 ∷ []) (full 1 ∷ full 0 ∷ []) 2) (live No (in_slot 1) ∷ live No (in_slot 0) ∷ []) nobody)
    (an_open (heap (entry 5 0 0 ∷ entry 5 1 1 ∷ []) (full 1 ∷ full 0 ∷ []) 2) (live No (in_slot 1) ∷ live No (in_slot 0) ∷ []) nobody)
    (14 ∷ [])
    ∷ []

-- entries of these deadlines, as in a full heap, each with its timer
abbrev pub due : ℕ → List ℕ → List Entry
due k [] = []
due k (d ∷ ds) = entry d k k ∷ due (suc k) ds

abbrev pub standing : List ℕ → Drawn
standing ds = an_open (heap (due 0 ds) (full_from (length ds) 0) (length ds)) (held_from (length ds) 0) nobody

abbrev pub orders : List Row
orders =
    -- A LEFT CHILD SMALLER THAN ITS PARENT. An equal one is not
    row 8 (standing (5 ∷ 5 ∷ [])) (standing (5 ∷ 4 ∷ [])) (15 ∷ [])
    -- A RIGHT CHILD
    ∷ row 9 (standing (5 ∷ 6 ∷ 5 ∷ [])) (standing (5 ∷ 6 ∷ 4 ∷ [])) (15 ∷ [])
    -- A CHILD OF A CHILD, smaller than its parent and not than the head
    ∷ row 10 (standing (1 ∷ 5 ∷ 2 ∷ 5 ∷ [])) (standing (1 ∷ 5 ∷ 2 ∷ 4 ∷ [])) (15 ∷ [])
    ∷ []

abbrev pub chains : List Row
chains =
    -- THE FREE HEAD PAST THE SLOTS
    row 11 (an_open bare [] nobody) (an_open (heap [] [] 1) [] nobody) (16 ∷ [])
    -- AN EMPTY SLOT NOT MET, and none met at all
    ∷ row 12 (an_open vacated [] nobody) (an_open (heap [] (empty 1 ∷ []) 1) [] nobody) (16 ∷ [])
    -- AN EMPTY SLOT NOT MET, after another
    ∷ row 13 (an_open (heap [] (empty 2 ∷ empty 0 ∷ []) 1) [] nobody) (an_open (heap [] (empty 2 ∷ empty 2 ∷ []) 1) [] nobody) (16 ∷ [])
    -- A CHAIN THAT LOOPS
    ∷ row 14 (an_open vacated [] nobody) (an_open (heap [] (empty 0 ∷ []) 0) [] nobody) (16 ∷ [])
    -- A CHAIN THAT ENDS PAST THE SLOTS
    ∷ row 15 (an_open vacated [] nobody) (an_open (heap [] (empty 2 ∷ []) 0) [] nobody) (16 ∷ [])
    -- THE FREE HEAD IS A FULL SLOT
    ∷ row 16
    (an_open one (live No (in_slot 0) ∷ []) nobody)
    (an_open (heap (entry 5 0 0 ∷ []) (full 0 ∷ []) 0) (live No (in_slot 0) ∷ []) nobody)
    (16 ∷ [])
    -- A CHAIN THAT ENDS AT A FULL SLOT
    ∷ row 17
    (an_open (heap (entry 5 0 0 ∷ []) (full 0 ∷ empty 2 ∷ []) 1) (live No (in_slot 0) ∷ []) nobody)
    (an_open (heap (entry 5 0 0 ∷ []) (full 0 ∷ empty 0 ∷ []) 1) (live No (in_slot 0) ∷ []) nobody)
    (16 ∷ [])
    ∷ []

-- a heap without an entry or a slot, past whose counts there are both: a slot that is full, and an entry of place 0
abbrev pub left_over : DrawnHeap
left_over = with_made 0 (with_len 0 (heap (entry 5 0 0 ∷ []) (full 0 ∷ []) 0))

-- one entry, of place 1 in slot 0
abbrev pub another : DrawnHeap
another = heap (entry 5 1 0 ∷ []) (full 0 ∷ []) 1

abbrev pub slots : List Row
slots =
    -- A TIMER NAMES A SLOT THAT WAS NEVER MADE
    row 18 (an_open left_over (live No no_slot ∷ []) nobody) (an_open left_over (live No (in_slot 0) ∷ []) nobody) (21 ∷ [])
    -- ONE THAT IS EMPTY
    ∷ row 19 (an_open vacated (live No no_slot ∷ []) nobody) (an_open vacated (live No (in_slot 0) ∷ []) nobody) (21 ∷ [])
    -- ONE IN WHICH ANOTHER'S ENTRY IS
    ∷ row 20
    (an_open another (live No no_slot ∷ live No (in_slot 0) ∷ []) nobody)
    (an_open another (live No (in_slot 0) ∷ live No (in_slot 0) ∷ []) nobody)
    (21 ∷ [])
    -- A CANCELLED TIMER DOES
    ∷ row 21
    (an_open another (cancelled Last no_slot ∷ live No (in_slot 0) ∷ []) (from 0))
    (an_open another (cancelled Last (in_slot 0) ∷ live No (in_slot 0) ∷ []) (from 0))
    (21 ∷ [])
    -- A FREE PLACE NAMES A SLOT without an entry
    ∷ row 22 (an_open vacated [] nobody) (an_open vacated (timer Free No (in_slot 0) ∷ []) nobody) (21 ∷ [])
    -- A RETIRED ONE DOES
    ∷ row 23
    (an_open vacated (timer Retired No no_slot ∷ []) nobody)
    (an_open vacated (timer Retired No (in_slot 0) ∷ []) nobody)
    (21 ∷ [])
    -- A FREE PLACE AND A RETIRED ONE name a slot in which another's entry is
    ∷ row 24
    (an_open another (timer Free No no_slot ∷ live No (in_slot 0) ∷ []) nobody)
    (an_open another (timer Free No (in_slot 0) ∷ live No (in_slot 0) ∷ []) nobody)
    (21 ∷ [])
    ∷ row 25
    (an_open another (timer Retired No no_slot ∷ live No (in_slot 0) ∷ []) nobody)
    (an_open another (timer Retired No (in_slot 0) ∷ live No (in_slot 0) ∷ []) nobody)
    (21 ∷ [])
    -- IN A CLOSED SET a timer names a slot
    ∷ row 26 (a_closed vacated (live No no_slot ∷ []) nobody) (a_closed vacated (live No (in_slot 0) ∷ []) nobody) (21 ∷ [])
    -- THE LAST PLACE names a slot
    ∷ row 27 (at_last vacated (live No no_slot) nobody) (at_last vacated (live No (in_slot 0)) nobody) (21 ∷ [])
    -- AN ENTRY WHOSE TIMER DOES NOT NAME ITS SLOT: a live one, and a cancelled one
    ∷ row 28 (an_open one (live No (in_slot 0) ∷ []) nobody) (an_open one (live No no_slot ∷ []) nobody) (22 ∷ [])
    ∷ row 29
    (an_open one (cancelled Last (in_slot 0) ∷ []) (from 0))
    (an_open one (cancelled Last no_slot ∷ []) (from 0))
    (22 ∷ [])
    -- TWO ENTRIES OF ONE TIMER, which names the slot of the first, or of the second
    ∷ row 30
    (an_open (heap (entry 5 0 0 ∷ entry 5 1 1 ∷ []) (full 0 ∷ full 1 ∷ []) 2) (live No (in_slot 0) ∷ live No (in_slot 1) ∷ []) nobody)
    (an_open (heap (entry 5 0 0 ∷ entry 5 0 1 ∷ []) (full 0 ∷ full 1 ∷ []) 2) (live No (in_slot 0) ∷ live No no_slot ∷ []) nobody)
    (22 ∷ [])
    ∷ row 31
    (an_open (heap (entry 5 0 0 ∷ entry 5 1 1 ∷ []) (full 0 ∷ full 1 ∷ []) 2) (live No (in_slot 0) ∷ live No (in_slot 1) ∷ []) nobody)
    (an_open (heap (entry 5 1 0 ∷ entry 5 1 1 ∷ []) (full 0 ∷ full 1 ∷ []) 2) (live No no_slot ∷ live No (in_slot 1) ∷ []) nobody)
    (22 ∷ [])
    ∷ []

abbrev pub lists : List Row
lists =
    -- A TIMER WAITS AND IS NOT IN THE LIST, which is empty
    row 32 (an_open bare (live Last no_slot ∷ []) (from 0)) (an_open bare (live Last no_slot ∷ []) nobody) (31 ∷ [])
    -- WHICH GOES PAST IT
    ∷ row 33
    (an_open bare (live (before 1) no_slot ∷ live (before 2) no_slot ∷ live Last no_slot ∷ []) (from 0))
    (an_open bare (live (before 2) no_slot ∷ live (before 2) no_slot ∷ live Last no_slot ∷ []) (from 0))
    (31 ∷ [])
    -- WHICH ENDS BEFORE IT
    ∷ row 34
    (an_open bare (live (before 1) no_slot ∷ live Last no_slot ∷ []) (from 0))
    (an_open bare (live Last no_slot ∷ live Last no_slot ∷ []) (from 0))
    (31 ∷ [])
    -- THE LAST PLACE
    ∷ row 35 (at_last bare (live Last no_slot) (from (cap - 1))) (at_last bare (live Last no_slot) nobody) (31 ∷ [])
    -- IN A CLOSED SET
    ∷ row 36 (a_closed bare (live No no_slot ∷ []) nobody) (a_closed bare (live Last no_slot ∷ []) nobody) (31 ∷ [])
    -- A TIMER THAT DOES NOT WAIT IS IN THE LIST, as its head, or after another
    ∷ row 37 (an_open bare (live Last no_slot ∷ []) (from 0)) (an_open bare (live No no_slot ∷ []) (from 0)) (32 ∷ [])
    ∷ row 38
    (an_open bare (live (before 1) no_slot ∷ live Last no_slot ∷ []) (from 0))
    (an_open bare (live (before 1) no_slot ∷ live No no_slot ∷ []) (from 0))
    (32 ∷ [])
    -- A PLACE OUT OF RANGE IS IN IT, as its head, or after another. It breaks 82 too: such a place has no timer that could wait
    ∷ row 39 (an_open bare [] nobody) (an_open bare [] (from cap)) (32 ∷ 82 ∷ [])
    ∷ row 40
    (an_open bare (live Last no_slot ∷ []) (from 0))
    (an_open bare (live (before cap) no_slot ∷ []) (from 0))
    (32 ∷ 82 ∷ [])
    -- A TIMER IS IN IT TWICE: the list loops, through one timer, or through two
    ∷ row 41 (an_open bare (live Last no_slot ∷ []) (from 0)) (an_open bare (live (before 0) no_slot ∷ []) (from 0)) (33 ∷ [])
    ∷ row 42
    (an_open bare (live (before 1) no_slot ∷ live Last no_slot ∷ []) (from 0))
    (an_open bare (live (before 1) no_slot ∷ live (before 0) no_slot ∷ []) (from 0))
    (33 ∷ [])
    ∷ []

-- a heap of one entry, of the last place in slot 0
abbrev pub of_last : DrawnHeap
of_last = heap (entry 5 (cap - 1) 0 ∷ []) (full 0 ∷ []) 1

abbrev pub closings : List Row
closings =
    -- AN INVALID MARK ON A LIVE TIMER OF AN OPEN SET. Without it, and in a closed set, the set is sound
    row 43 (an_open bare (timer (Live 0 5) No no_slot ∷ []) nobody) (an_open bare (timer (Live 2 5) No no_slot ∷ []) nobody) (41 ∷ [])
    ∷ row 44 (a_closed bare (timer (Live 2 5) No no_slot ∷ []) nobody) (an_open bare (timer (Live 2 5) No no_slot ∷ []) nobody) (41 ∷ [])
    -- AND ON A FIRED ONE, on one that waits, on one that has an entry, and at the last place
    ∷ row 45 (an_open bare (timer (Live 1 5) No no_slot ∷ []) nobody) (an_open bare (timer (Live 3 5) No no_slot ∷ []) nobody) (41 ∷ [])
    ∷ row 46 (an_open bare (timer (Live 4 5) Last no_slot ∷ []) (from 0)) (an_open bare (timer (Live 6 5) Last no_slot ∷ []) (from 0)) (41 ∷ [])
    ∷ row 47
    (an_open one (timer (Live 0 5) No (in_slot 0) ∷ []) nobody)
    (an_open one (timer (Live 2 5) No (in_slot 0) ∷ []) nobody)
    (41 ∷ [])
    ∷ row 48 (at_last bare (timer (Live 0 5) No no_slot) nobody) (at_last bare (timer (Live 2 5) No no_slot) nobody) (41 ∷ [])
    -- AN INVALID MARK ON A CANCELLED TIMER OF AN OPEN SET; and on one that has fired, with the last generation
    ∷ row 49
    (an_open bare (timer (Cancelled 0) Last no_slot ∷ []) (from 0))
    (an_open bare (timer (Cancelled 2) Last no_slot ∷ []) (from 0))
    (42 ∷ [])
    ∷ row 50
    (an_open one (timer (Cancelled 4294967293) Last (in_slot 0) ∷ []) (from 0))
    (an_open one (timer (Cancelled 4294967295) Last (in_slot 0) ∷ []) (from 0))
    (42 ∷ [])
    -- A CLOSED SET WITH A TIMER IN ITS LIST, live or cancelled
    ∷ row 51 (an_open bare (live Last no_slot ∷ []) (from 0)) (a_closed bare (live Last no_slot ∷ []) (from 0)) (43 ∷ [])
    ∷ row 52 (an_open bare (cancelled Last no_slot ∷ []) (from 0)) (a_closed bare (cancelled Last no_slot ∷ []) (from 0)) (43 ∷ [])
    -- A CLOSED SET WITH AN ENTRY, of a live timer or of a cancelled one
    ∷ row 53 (an_open one (live No (in_slot 0) ∷ []) nobody) (a_closed one (live No (in_slot 0) ∷ []) nobody) (44 ∷ [])
    ∷ row 54 (a_closed vacated (cancelled No no_slot ∷ []) nobody) (a_closed one (cancelled No (in_slot 0) ∷ []) nobody) (44 ∷ [])
    ∷ []

abbrev pub unused : List Row
unused =
    -- AN ENTRY HELD FOR A FREE PLACE, for a retired one, and for the last place, each of which names its slot
    row 55 (an_open one (live No (in_slot 0) ∷ []) nobody) (an_open one (timer Free No (in_slot 0) ∷ []) nobody) (51 ∷ [])
    ∷ row 56 (an_open one (live No (in_slot 0) ∷ []) nobody) (an_open one (timer Retired No (in_slot 0) ∷ []) nobody) (52 ∷ [])
    ∷ row 57 (at_last of_last (live No (in_slot 0)) nobody) (at_last of_last (timer Free No (in_slot 0)) nobody) (51 ∷ [])
    -- WHICH DOES NOT NAME IT. Then 22 is broken too
    ∷ row 58 (an_open one (live No (in_slot 0) ∷ []) nobody) (an_open one [] nobody) (22 ∷ 51 ∷ [])
    ∷ row 59 (an_open one (live No (in_slot 0) ∷ []) nobody) (an_open one (timer Retired No no_slot ∷ []) nobody) (22 ∷ 52 ∷ [])
    -- A FREE PLACE IN THE LIST, a retired one, and the last place
    ∷ row 60 (an_open bare (live Last no_slot ∷ []) (from 0)) (an_open bare (timer Free Last no_slot ∷ []) (from 0)) (53 ∷ [])
    ∷ row 61 (an_open bare (live Last no_slot ∷ []) (from 0)) (an_open bare (timer Retired Last no_slot ∷ []) (from 0)) (54 ∷ [])
    ∷ row 62 (at_last bare (live Last no_slot) (from (cap - 1))) (at_last bare (timer Free Last no_slot) (from (cap - 1))) (53 ∷ [])
    -- ONE THAT IS MARKED WAITING and is not in the list: that is broken, and this is not
    ∷ row 63 (an_open bare [] nobody) (an_open bare (timer Free Last no_slot ∷ []) nobody) (31 ∷ [])
    ∷ row 64 (an_open bare (timer Retired No no_slot ∷ []) nobody) (an_open bare (timer Retired Last no_slot ∷ []) nobody) (31 ∷ [])
    ∷ []

abbrev pub cancels : List Row
cancels =
    -- A CANCELLED TIMER OF AN OPEN SET THAT DOES NOT WAIT. One that waits is sound, and so is one of a closed set
    row 65 (an_open bare (cancelled Last no_slot ∷ []) (from 0)) (an_open bare (cancelled No no_slot ∷ []) nobody) (61 ∷ [])
    ∷ row 66 (a_closed bare (cancelled No no_slot ∷ []) nobody) (an_open bare (cancelled No no_slot ∷ []) nobody) (61 ∷ [])
    -- ONE THAT HAS AN ENTRY, and the last place
    ∷ row 67 (an_open one (cancelled Last (in_slot 0) ∷ []) (from 0)) (an_open one (cancelled No (in_slot 0) ∷ []) nobody) (61 ∷ [])
    ∷ row 68 (at_last bare (cancelled Last no_slot) (from (cap - 1))) (at_last bare (cancelled No no_slot) nobody) (61 ∷ [])
    -- ONE THAT IS MARKED WAITING and is not in the list. It breaks 31 too
    ∷ row 69 (an_open bare (cancelled Last no_slot ∷ []) (from 0)) (an_open bare (cancelled Last no_slot ∷ []) nobody) (31 ∷ 61 ∷ [])
    ∷ []

-- an entry of place 0 in slot 0 with this generation
abbrev pub of_generation : ℕ → DrawnHeap
of_generation g = heap (record { at = 5; generation = g; place = record { 0 = 0 }; slot = record { 0 = 0 } } ∷ []) (full 0 ∷ []) 1

abbrev pub ranges : List Row
ranges =
    -- A GENERATION OUT OF RANGE IN AN ENTRY. The last in range is sound, and it need not be that of the timer's word
    row 70
    (an_open (of_generation (2 ^ 30 - 1)) (live No (in_slot 0) ∷ []) nobody)
    (an_open (of_generation (2 ^ 30)) (live No (in_slot 0) ∷ []) nobody)
    (81 ∷ [])
    -- A PLACE OUT OF RANGE IN AN ENTRY. The last in range, which names the slot, is sound
    ∷ row 71
    (at_last of_last (live No (in_slot 0)) nobody)
    (at_last (heap (entry 5 cap 0 ∷ []) (full 0 ∷ []) 1) (live No no_slot) nobody)
    (82 ∷ [])
    ∷ []

-- two entries, each in the slot and of the place that have the number of its position, the second of this generation
abbrev pub two : ℕ → DrawnHeap
two g = heap (entry 5 0 0 ∷ record { at = 5; generation = g; place = record { 0 = 1 }; slot = record { 0 = 1 } } ∷ []) (full 0 ∷ full 1 ∷ []) 2

-- where nothing is wrong at the head of the heap or of the list, or at place 0
abbrev pub later : List Row
later =
    -- THE SLOT OF THE SECOND ENTRY NAMES ANOTHER POSITION
    row 72
    (an_open (two 0) (live No (in_slot 0) ∷ live No (in_slot 1) ∷ []) nobody)
    (an_open (heap (entry 5 0 0 ∷ entry 5 1 0 ∷ []) (full 0 ∷ full 1 ∷ []) 2) (live No (in_slot 0) ∷ live No (in_slot 1) ∷ []) nobody)
    (14 ∷ [])
    -- A RIGHT CHILD OF A CHILD, smaller than its parent and not than the head
    ∷ row 73 (standing (1 ∷ 5 ∷ 2 ∷ 5 ∷ 5 ∷ [])) (standing (1 ∷ 5 ∷ 2 ∷ 5 ∷ 4 ∷ [])) (15 ∷ [])
    -- THE THIRD OF THE LIST DOES NOT WAIT
    ∷ row 74
    (an_open bare (live (before 1) no_slot ∷ live (before 2) no_slot ∷ live Last no_slot ∷ []) (from 0))
    (an_open bare (live (before 1) no_slot ∷ live (before 2) no_slot ∷ live No no_slot ∷ []) (from 0))
    (32 ∷ [])
    -- AN INVALID MARK ON A CANCELLED TIMER at the last place
    ∷ row 75
    (at_last bare (timer (Cancelled 0) Last no_slot) (from (cap - 1)))
    (at_last bare (timer (Cancelled 2) Last no_slot) (from (cap - 1)))
    (42 ∷ [])
    -- THE SECOND ENTRY IS HELD FOR A FREE PLACE, or for a retired one
    ∷ row 76
    (an_open (two 0) (live No (in_slot 0) ∷ live No (in_slot 1) ∷ []) nobody)
    (an_open (two 0) (live No (in_slot 0) ∷ timer Free No (in_slot 1) ∷ []) nobody)
    (51 ∷ [])
    ∷ row 77
    (an_open (two 0) (live No (in_slot 0) ∷ live No (in_slot 1) ∷ []) nobody)
    (an_open (two 0) (live No (in_slot 0) ∷ timer Retired No (in_slot 1) ∷ []) nobody)
    (52 ∷ [])
    -- THE HEAD OF THE LIST IS THE LAST PLACE, which is retired
    ∷ row 78 (at_last bare (live Last no_slot) (from (cap - 1))) (at_last bare (timer Retired Last no_slot) (from (cap - 1))) (54 ∷ [])
    -- THE SECOND OF THE LIST IS A FREE PLACE, or a retired one
    ∷ row 79
    (an_open bare (live (before 1) no_slot ∷ live Last no_slot ∷ []) (from 0))
    (an_open bare (live (before 1) no_slot ∷ timer Free Last no_slot ∷ []) (from 0))
    (53 ∷ [])
    ∷ row 80
    (an_open bare (live (before 1) no_slot ∷ live Last no_slot ∷ []) (from 0))
    (an_open bare (live (before 1) no_slot ∷ timer Retired Last no_slot ∷ []) (from 0))
    (54 ∷ [])
    -- THE SECOND OF THE LIST COMES AGAIN, and the first does not
    ∷ row 81
    (an_open bare (live (before 1) no_slot ∷ live Last no_slot ∷ []) (from 0))
    (an_open bare (live (before 1) no_slot ∷ live (before 1) no_slot ∷ []) (from 0))
    (33 ∷ [])
    -- THE GENERATION OF THE SECOND ENTRY IS OUT OF RANGE
    ∷ row 82
    (an_open (two (2 ^ 30 - 1)) (live No (in_slot 0) ∷ live No (in_slot 1) ∷ []) nobody)
    (an_open (two (2 ^ 30)) (live No (in_slot 0) ∷ live No (in_slot 1) ∷ []) nobody)
    (81 ∷ [])
    -- ITS PLACE IS
    ∷ row 83
    (an_open (two 0) (live No (in_slot 0) ∷ live No (in_slot 1) ∷ []) nobody)
    (an_open (heap (entry 5 0 0 ∷ entry 5 cap 1 ∷ []) (full 0 ∷ full 1 ∷ []) 2) (live No (in_slot 0) ∷ live No no_slot ∷ []) nobody)
    (82 ∷ [])
    ∷ []

-- where few are drawn
abbrev pub few : List Row
few = counts ++ positions ++ orders ++ chains ++ slots ++ lists ++ closings ++ unused ++ cancels ++ ranges ++ later

abbrev pub rows : List Row
rows = brimful ++ few
