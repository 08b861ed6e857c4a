-- The conditions of the table of refusals, RULES.md section 9, each as a test of what a call is given: those of a set first, in the
-- order in which they are asked, then those of a heap, of a clock and of a record. They are written from RULES.md anew; only
-- the tests of soundness, of lateness and of the fired bit, and how a place, a slot and a record's fields are read, are those of the rules.
-- Which call asks for which is Table.antt.
-- Assumes nothing.
use Rattle.std.specs.Prelude.{Bool, true, false, not, cond, ◌&&◌, ◌||◌, List, [], ◌∷◌, ℕ, ◌+◌, ◌-◌, ◌^◌, ltb, leb, eqb, length}
use Rattle.theory.specs.Counting.{count}
use Rattle.heap.specs.Capacity.{cap}
use Rattle.heap.specs.declared.Slot.{Slot}
use Rattle.heap.specs.declared.SlotState.{SlotState}
use Rattle.heap.specs.declared.SlotState.TheVariants as Slab
use Rattle.heap.specs.declared.Heap.{Heap}
use Rattle.heap.specs.Rules.{state_at}
use Rattle.heap.specs.Faults.{consistent_of}
use Rattle.word.specs.Rules.{fired_in}
use Rattle.clock.specs.declared.Clock.{Clock}
use Rattle.clock.specs.declared.Clock.TheVariants.{Running, Paused}
use Rattle.interval.specs.declared.Policy.{Policy}
use Rattle.interval.specs.declared.Policy.TheVariants.{Burst, Delay, Skip}
use Rattle.interval.specs.Rules.{late_at}
use Rattle.state.specs.declared.Life.{Life}
use Rattle.state.specs.declared.Life.TheVariants.{Free, Live, Cancelled, Retired}
use Rattle.state.specs.declared.Set.{Set}
use Rattle.state.specs.declared.Handle.{Handle}
use Rattle.state.specs.State.{timer_at}
use Rattle.state.specs.Faults.{sound_of}
use Rattle.moves.specs.Rules.{is_free}
use Rattle.records.specs.declared.fields.Fields.{Fields}

-- OF A SET

-- 1 Unsound: the state handed in is not sound
abbrev pub damaged : Set → Bool
damaged s = not (sound_of s)

-- 2 Closed: the set is closed
abbrev pub shut : Set → Bool
shut s = s.closed

-- whose place it is that a handle names
abbrev pub life_at : Set → Handle → Life
life_at s h = (timer_at s h.place.0).life

-- free, retired or cancelled
abbrev pub not_live : Life → Bool
not_live Free = true
not_live (Live w d) = false
not_live (Cancelled w) = true
not_live Retired = true

-- 3 DeadHandle: the handle's place is the capacity or more, or is free, retired or cancelled, or has another use number
abbrev pub dead : Set → Handle → Bool
dead s h = leb cap h.place.0 || (not_live (life_at s h) || not (eqb (timer_at s h.place.0).uses h.uses))

-- 4 Full, of an add: no place is free. A retired place is not free
abbrev pub free_at : Set → ℕ → Bool
free_at s p = is_free (timer_at s p).life

abbrev pub full : Set → Bool
full s = eqb (count (free_at s) cap) 0

-- 5 ShortList: the report list has fewer words than the capacity
abbrev pub short : List ℕ → Bool
short l = ltb (length l) cap

-- a timer's word and deadline. Only a live timer is asked for them: of a dead handle row 3 holds, which is earlier
abbrev pub word_in : Life → ℕ
word_in Free = 0
word_in (Live w d) = w
word_in (Cancelled w) = w
word_in Retired = 0

abbrev pub due_in : Life → ℕ
due_in Free = 0
due_in (Live w d) = d
due_in (Cancelled w) = 0
due_in Retired = 0

-- 10 NotFired: the timer's fired bit is not set
abbrev pub not_fired : Set → Handle → Bool
not_fired s h = not (fired_in (word_in (life_at s h)))

abbrev pub is_skip : Policy → Bool
is_skip Burst = false
is_skip Delay = false
is_skip Skip = true

-- 9 ZeroPeriod: the tick is late, the policy is Skip and the period is 0
abbrev pub zero_period : Set → Handle → Policy → ℕ → ℕ → Bool
zero_period s h p period N = late_at (due_in (life_at s h)) N && (is_skip p && eqb period 0)

-- 6 TimeOverflow: the sum is above 2^64-1. For a late Skip it is the sum before the subtraction
abbrev pub above : ℕ → Bool
above t = ltb (2 ^ 64 - 1) t

abbrev pub late_sum : Policy → ℕ → ℕ → ℕ → ℕ
late_sum Burst T period N = T + period
late_sum Delay T period N = N + period
late_sum Skip T period N = N + period

abbrev pub tick_sum : Policy → ℕ → ℕ → ℕ → ℕ
tick_sum p T period N = cond (late_at T N) (late_sum p T period N) (T + period)

-- 6 TimeOverflow, of a time left: the deadline minus the reading is above 2^63-1, or below -2^63
abbrev pub far_ahead : ℕ → ℕ → Bool
far_ahead d N = leb (N + 2 ^ 63) d

abbrev pub far_behind : ℕ → ℕ → Bool
far_behind d N = ltb (d + 2 ^ 63) N

abbrev pub far : ℕ → ℕ → Bool
far d N = far_behind d N || far_ahead d N

-- 6 TimeOverflow, of the least time left: of the live timers that have not fired one is far behind, or there is one and all are far ahead
abbrev pub unfired_at : Set → ℕ → Bool
unfired_at s p = not (not_live (timer_at s p).life) && not (fired_in (word_in (timer_at s p).life))

abbrev pub anywhere : (ℕ → Bool) → Bool
anywhere f = ltb 0 (count f cap)

abbrev pub least_far : Set → ℕ → Bool
least_far s N =
    anywhere (λ p. unfired_at s p && far_behind (due_in (timer_at s p).life) N)
    || (anywhere (unfired_at s) && not (anywhere (λ p. unfired_at s p && not (far_ahead (due_in (timer_at s p).life) N))))

-- OF A HEAP

-- 1 Unsound: the heap does not pass its test
abbrev pub inconsistent : Heap → Bool
inconsistent h = not (consistent_of h)

-- 4 Full, of a push: the heap holds as many entries as the capacity says. One that holds more is not sound
abbrev pub holds_all : Heap → Bool
holds_all h = eqb h.len cap

-- 11 VacantSlot: the slot was never made, or is empty
abbrev pub is_empty : SlotState → Bool
is_empty (Slab.Full p) = false
is_empty (Slab.Empty n) = true

abbrev pub vacant : Heap → Slot → Bool
vacant h s = leb h.made s.0 || is_empty (state_at h s.0)

-- OF A CLOCK

-- 8 WrongMode: a pause while paused; a resume or an advance while running
abbrev pub stopped : Clock → Bool
stopped (Running base start) = false
stopped (Paused base) = true

abbrev pub runs : Clock → Bool
runs (Running base start) = true
runs (Paused base) = false

-- 7 CounterBehind: the clock runs and the raw counter is below its start
abbrev pub behind : Clock → ℕ → Bool
behind (Running base start) raw = ltb raw start
behind (Paused base) raw = false

-- 6 TimeOverflow, of a reading and of a pause: the clock runs and base + (raw - start) is above 2^64-1
abbrev pub read_above : Clock → ℕ → Bool
read_above (Running base start) raw = above (base + (raw - start))
read_above (Paused base) raw = false

-- 6 TimeOverflow, of an advance: base + duration is above 2^64-1. Of a running clock row 8 holds, which is earlier
abbrev pub base_in : Clock → ℕ
base_in (Running base start) = base
base_in (Paused base) = base

abbrev pub sum_above : Clock → ℕ → Bool
sum_above c d = above (base_in c + d)

-- OF A RECORD

-- the number is one of the list's, as a test
abbrev pub is_in : ℕ → List ℕ → Bool
is_in n [] = false
is_in n (m ∷ l) = eqb n m || is_in n l

-- RULES.md section 10: reset, cancel and poll use place and use; add, reset, advance and turn use the value
abbrev pub uses_handle : ℕ → Bool
uses_handle o = is_in o (1 ∷ 2 ∷ 7 ∷ [])

abbrev pub uses_value : ℕ → Bool
uses_value o = is_in o (0 ∷ 1 ∷ 4 ∷ 5 ∷ [])

-- a field that is not used, and not zero
abbrev pub stray : Bool → ℕ → Bool
stray u n = not u && not (eqb n 0)

-- 12 BadRecord: the operation is 9 or more, or a field that the operation does not use is not zero
abbrev pub bad : Fields → Bool
bad f =
    leb 9 f.operation
    || (stray (uses_handle f.operation) f.place.0
    || (stray (uses_handle f.operation) f.uses || stray (uses_value f.operation) f.value))
