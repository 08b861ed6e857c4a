-- The clauses of soundness, RULES.md, section 8, and of the heap's test, section 3: each a test of its own, written from the words of
-- the rules. With the test that the calls make (`sound_of`) they share the capacity, the parent of a position (`parent`), the invalid bit
-- of a word (`invalid_in`), how a link and the list's head are read (`is_waiting`, `next_in`, `head_of`), and nothing of the test itself.
-- proofs/Clauses.antt shows that the two say the same of every set, and specs/States.antt has worked sets for each clause. A clause with
-- two halves is two tests. Clause 7 has none: only a live timer of the type `Life` has a deadline. Nor has a number that its type keeps
-- in range: a word, a use number, a time.
-- Assumes nothing.
use Rattle.std.specs.Prelude.{Bool, true, false, not, cond, ◌&&◌, ◌||◌, List, [], ◌∷◌, ℕ, zero, suc, ◌+◌, ◌^◌, ltb, leb, eqb, take, Some, None}
use Rattle.std.specs.Prelude as Code
use Rattle.heap.specs.declared.Slot.{Slot}
use Rattle.std.proofs.Math.Option.{Option, none, some}
use Rattle.theory.specs.Order.{parent}
use Rattle.theory.specs.Chain.{nodes}
use Rattle.heap.specs.Capacity.{cap}
use Rattle.heap.specs.declared.Entry.{Entry}
use Rattle.heap.specs.declared.SlotState.{SlotState}
use Rattle.heap.specs.declared.SlotState.TheVariants.{Full, Empty}
use Rattle.heap.specs.declared.SlabSlot.{SlabSlot}
use Rattle.heap.specs.declared.Heap.{Heap}
use Rattle.heap.specs.Rules.{items}
use Rattle.word.specs.Rules.{invalid_in}
use Rattle.state.specs.declared.Life.{Life}
use Rattle.state.specs.declared.Life.TheVariants.{Free, Live, Cancelled, Retired}
use Rattle.state.specs.declared.Set.{Set}
use Rattle.state.specs.State.{is_waiting, next_in, head_of}

-- LISTS

-- every element passes; each comes with its number, and the first has the number k
abbrev pub each : {A : Type 0} → ℕ → (ℕ → A → Bool) → List A → Bool
each k f [] = true
each k f (x ∷ xs) = f k x && each (suc k) f xs

-- the element with the number n, if there is one
abbrev pub element : {A : Type 0} → List A → ℕ → Option A
element [] n = none
element (x ∷ xs) zero = some x
element (x ∷ xs) (suc n) = element xs n

-- f of what there is, and `nothing` where there is none
abbrev pub there : {A B : Type 0} → B → (A → B) → Option A → B
there nothing f none = nothing
there nothing f (some x) = f x

-- how often a number stands in a list
abbrev pub times : ℕ → List ℕ → ℕ
times x [] = 0
times x (y ∷ ys) = cond (eqb x y) 1 0 + times x ys

-- the last of a list is this number
abbrev pub ends_in : ℕ → List ℕ → Bool
ends_in x [] = false
ends_in x (y ∷ []) = eqb x y
ends_in x (y ∷ z ∷ zs) = ends_in x (z ∷ zs)

abbrev pub is_empty : {A : Type 0} → List A → Bool
is_empty [] = true
is_empty (x ∷ xs) = false

-- THE HEAP'S TEST

-- the slots that were made. `items` are the entries: what stands past the last of either is not state
abbrev pub slab : Heap → List SlabSlot
slab h = take h.made h.slots

-- the position that a slot names, where it is full; the slot that it names, where it is empty
abbrev pub position_in : SlotState → Option ℕ
position_in (Full i) = some i.0
position_in (Empty n) = none

abbrev pub next_free : SlotState → Option ℕ
next_free (Full i) = none
next_free (Empty n) = some n.0

-- how many slots are full
abbrev pub fulls : List SlabSlot → ℕ
fulls [] = 0
fulls (x ∷ xs) = there 0 (λ i. 1) (position_in x.state) + fulls xs

-- 11, 12, 13. COUNT: at most `cap` entries, at most `cap` slots, and as many entries as full slots
abbrev pub entries_fit : Set → Bool
entries_fit s = leb s.heap.len cap

abbrev pub slots_fit : Set → Bool
slots_fit s = leb s.heap.made cap

abbrev pub counted : Set → Bool
counted s = eqb s.heap.len (fulls (slab s.heap))

-- what a slot that was made is
abbrev pub slot_in : Heap → ℕ → Option SlotState
slot_in h q = there none (λ x. some x.state) (element (slab h) q)

-- 14. POSITION: each entry's slot was made, is full, and names the position of that entry
abbrev pub positioned : Set → Bool
positioned s =
    each 0 (λ i e. there false (λ x. there false (λ j. eqb j i) (position_in x)) (slot_in s.heap e.slot.0)) (items s.heap)

-- 15. ORDER: no entry is smaller than its parent; the head has none
abbrev pub ordered : Set → Bool
ordered s =
    each 0 (λ i e. eqb i 0 || there true (λ f. leb f.at e.at) (element (items s.heap) (parent i))) (items s.heap)

-- the numbers met from the free head on, along the empty slots
abbrev pub met_free : Heap → List ℕ
met_free h = nodes (λ q. there none next_free (slot_in h q)) (suc (suc cap)) (some h.free.0)

-- 16. FREE CHAIN: every empty slot is met exactly one time, and last the number of slots so far
abbrev pub chained : Set → Bool
chained s =
    let met = met_free s.heap in
    each 0 (λ q x. there true (λ n. eqb (times q met) 1) (next_free x.state)) (slab s.heap) && ends_in s.heap.made met

-- THE CLAUSES OF A SET. Clauses 2, 3 and 5 are read of every place, since in the code each has room for a slot and a waiting mark

-- the slot that a place names
abbrev pub slot_of : Code.Option Slot → Option ℕ
slot_of None = none
slot_of (Some q) = some q.0

-- the entry in a slot: the slot was made, is full, and an entry stands at the position that it names
abbrev pub entry_in : Heap → ℕ → Option Entry
entry_in h q = there none (λ x. there none (element (items h)) (position_in x)) (slot_in h q)

-- 21. SLOTS: a timer that names a slot finds an entry there, and that holds the timer's place
abbrev pub own_slots : Set → Bool
own_slots s =
    each 0 (λ p t. there true (λ q. there false (λ e. eqb e.place.0 p) (entry_in s.heap q)) (slot_of t.held)) s.timers

-- 22. and where an entry in a slot holds a timer's place, the timer names that slot
abbrev pub own_entries : Set → Bool
own_entries s =
    each 0
    (λ q x. there true (λ e. there true (λ t. there false (eqb q) (slot_of t.held)) (element s.timers e.place.0)) (entry_in s.heap q))
    (slab s.heap)

-- the places met from the list's head on
abbrev pub listed : Set → List ℕ
listed s = nodes (λ p. there none (λ t. next_in t.waiting) (element s.timers p)) (suc cap) (head_of s.first)

-- 31. LIST: every timer marked waiting is in the list
abbrev pub waiters_listed : Set → Bool
waiters_listed s = let l = listed s in each 0 (λ p t. not (is_waiting t.waiting) || ltb 0 (times p l)) s.timers

-- 32. nothing else is in it
abbrev pub only_waiters : Set → Bool
only_waiters s = each 0 (λ k p. there false (λ t. is_waiting t.waiting) (element s.timers p)) (listed s)

-- 33. and nothing is in it twice
abbrev pub listed_once : Set → Bool
listed_once s = let l = listed s in each 0 (λ k p. eqb (times p l) 1) l

-- the word of a live timer, and of a cancelled one
abbrev pub live_word : Life → Option ℕ
live_word Free = none
live_word (Live w d) = some w
live_word (Cancelled w) = none
live_word Retired = none

abbrev pub cancelled_word : Life → Option ℕ
cancelled_word Free = none
cancelled_word (Live w d) = none
cancelled_word (Cancelled w) = some w
cancelled_word Retired = none

-- 41, 42. CLOSING: in an open set no live timer's word has its invalid bit set, and no cancelled one's
abbrev pub live_unmarked : Set → Bool
live_unmarked s = s.closed || each 0 (λ p t. there true (λ w. not (invalid_in w)) (live_word t.life)) s.timers

abbrev pub cancelled_unmarked : Set → Bool
cancelled_unmarked s = s.closed || each 0 (λ p t. there true (λ w. not (invalid_in w)) (cancelled_word t.life)) s.timers

-- 43, 44. the list of a closed set is empty, and so is its heap
abbrev pub closed_list : Set → Bool
closed_list s = not s.closed || is_empty (listed s)

abbrev pub closed_heap : Set → Bool
closed_heap s = not s.closed || is_empty (items s.heap)

abbrev pub is_free : Life → Bool
is_free Free = true
is_free (Live w d) = false
is_free (Cancelled w) = false
is_free Retired = false

abbrev pub is_retired : Life → Bool
is_retired Free = false
is_retired (Live w d) = false
is_retired (Cancelled w) = false
is_retired Retired = true

-- no entry is held for a place of this kind; no place of this kind is in the list
abbrev pub none_held : (Life → Bool) → Set → Bool
none_held kind s = each 0 (λ i e. there true (λ t. not (kind t.life)) (element s.timers e.place.0)) (items s.heap)

abbrev pub none_listed : (Life → Bool) → Set → Bool
none_listed kind s = each 0 (λ k p. there true (λ t. not (kind t.life)) (element s.timers p)) (listed s)

-- 61. CANCELLED: while the set is open, every cancelled timer is in the list
abbrev pub cancelled_listed : Set → Bool
cancelled_listed s =
    let l = listed s in
    s.closed || each 0 (λ p t. there true (λ w. ltb 0 (times p l)) (cancelled_word t.life)) s.timers

-- 81. RANGES: the generations in entries are below 2^30
abbrev pub generations_fit : Set → Bool
generations_fit s = each 0 (λ i e. ltb e.generation (2 ^ 30)) (items s.heap)

-- 82. the places, in entries and in the list, are below `cap`
abbrev pub places_fit : Set → Bool
places_fit s = each 0 (λ i e. ltb e.place.0 cap) (items s.heap) && each 0 (λ k p. ltb p cap) (listed s)

-- a clause, or half of one, by its number: the tens are the clause of section 8, the ones tell its parts apart
pub record Clause : Type 0 where
  pub number : ℕ
  pub holds : Set → Bool

abbrev pub clause : ℕ → (Set → Bool) → Clause
clause n f = record { number = n; holds = f }

-- all of them. 51 and 53 are of free places, 52 and 54 of retired ones: PLACES OUT OF USE
abbrev pub clauses : List Clause
clauses =
    clause 11 entries_fit
    ∷ clause 12 slots_fit
    ∷ clause 13 counted
    ∷ clause 14 positioned
    ∷ clause 15 ordered
    ∷ clause 16 chained
    ∷ clause 21 own_slots
    ∷ clause 22 own_entries
    ∷ clause 31 waiters_listed
    ∷ clause 32 only_waiters
    ∷ clause 33 listed_once
    ∷ clause 41 live_unmarked
    ∷ clause 42 cancelled_unmarked
    ∷ clause 43 closed_list
    ∷ clause 44 closed_heap
    ∷ clause 51 (none_held is_free)
    ∷ clause 52 (none_held is_retired)
    ∷ clause 53 (none_listed is_free)
    ∷ clause 54 (none_listed is_retired)
    ∷ clause 61 cancelled_listed
    ∷ clause 81 generations_fit
    ∷ clause 82 places_fit
    ∷ []

-- the numbers of those that a set breaks
abbrev pub broken_of : Set → List Clause → List ℕ
broken_of s [] = []
broken_of s (c ∷ cs) = cond (c.holds s) (broken_of s cs) (c.number ∷ broken_of s cs)

abbrev pub broken : Set → List ℕ
broken s = broken_of s clauses
