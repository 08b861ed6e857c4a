-- The rules of the timers, as functions on the very values that the code holds: what one update, one drain, one pop, one close
-- does to a set. The calls with their refusals are in `timers`.
-- Assumes nothing.
use Rattle.std.specs.Prelude.{Bool, true, false, Some, None, not, cond, ◌&&◌, List, ℕ, zero, suc, ◌+◌, ltb, leb, eqb, set}
use Rattle.std.specs.Prelude as Code
use Rattle.std.proofs.Math.Option.{Option, none, some}
use Rattle.theory.specs.First.{first_bad}
use Rattle.refusals.specs.Answer.{Answer, accepted, refused, unsound}
use Rattle.heap.specs.Capacity.{cap}
use Rattle.heap.specs.declared.Slot.{Slot}
use Rattle.heap.specs.declared.Place.{Place}
use Rattle.heap.specs.declared.Entry.{Entry}
use Rattle.heap.specs.declared.Heap.{Heap}
use Rattle.heap.specs.Rules.{entry_at}
use Rattle.heap.specs.Calls.{push_sound, remove_sound, pop_sound}
use Rattle.word.specs.Rules.{generation_of, fired_of, invalid_of, matches_in}
use Rattle.state.specs.declared.Life.{Life}
use Rattle.state.specs.declared.Life.TheVariants.{Free, Live, Cancelled, Retired}
use Rattle.state.specs.declared.Waiting.{Waiting}
use Rattle.state.specs.declared.Waiting.TheVariants.{No, Last, Before}
use Rattle.state.specs.declared.Timer.{Timer}
use Rattle.state.specs.declared.Set.{Set}
use Rattle.state.specs.State.{timer_at, is_waiting, head_after}
use Rattle.state.specs.Handles.{handle_word}

-- a set with another timer at a place, heap or list head
abbrev pub with_timer : Set → ℕ → Timer → Set
with_timer s p t = record { heap = s.heap; timers = set s.timers p t; first = s.first; closed = s.closed }

abbrev pub with_heap : Set → Heap → Set
with_heap s h = record { heap = h; timers = s.timers; first = s.first; closed = s.closed }

abbrev pub with_first : Set → Code.Option Place → Set
with_first s f = record { heap = s.heap; timers = s.timers; first = f; closed = s.closed }

-- THE WAITING LIST

-- the link of a timer that goes in front of the list
abbrev pub link_to : Code.Option Place → Waiting
link_to None = Last
link_to (Some q) = Before q

-- the timer at p gets a new life and is pushed on the list. One that waits already stays where it is
abbrev pub waiting_by : Bool → Timer → Code.Option Place → Waiting
waiting_by true t f = t.waiting
waiting_by false t f = link_to f

abbrev pub head_by : Bool → ℕ → Code.Option Place → Code.Option Place
head_by true p f = f
head_by false p f = Some (record { 0 = p })

unfoldable pub touched_of : Set → ℕ → Life → Set
touched_of s p l =
    let t = timer_at s p in
    let b = is_waiting t.waiting in
    with_first
    (with_timer s p (record { life = l; waiting = waiting_by b t s.first; held = t.held; uses = t.uses }))
    (head_by b p s.first)

-- the lowest free place
abbrev pub is_free : Life → Bool
is_free Free = true
is_free (Live w d) = false
is_free (Cancelled w) = false
is_free Retired = false

unfoldable pub taken : Set → ℕ → Bool
taken s p = not (is_free (timer_at s p).life)

unfoldable pub lowest_free : Set → Option ℕ
lowest_free s = first_bad (taken s) cap 0

-- what the code's search for one finds
abbrev pub spot_of : Code.Option Place → Option ℕ
spot_of None = none
spot_of (Some p) = some p.0

-- THE DRAIN

-- the heap without the entry that a timer holds
abbrev pub dropped_of : Heap → Code.Option Slot → Heap
dropped_of h None = h
dropped_of h (Some q) = (remove_sound h q).state

-- the slot that a push answers
abbrev pub held_by : Answer (Slot × ℕ) → Code.Option Slot
held_by (accepted v) = Some v.0
held_by (refused n) = None
held_by (unsound f) = None

-- a place that a drain frees: nothing of the old timer is left but the use number, one higher; retired where that is used up
abbrev pub freed_of : ℕ → Timer
freed_of u =
    cond (eqb u 4294967295)
    (record { life = Retired; waiting = No; held = None; uses = u })
    (record { life = Free; waiting = No; held = None; uses = u + 1 })

-- the update of the timer t at p, taken off the list already, by whose place it is. With a deadline: the old entry is removed, a
-- new one pushed with the deadline and generation of now. Without: any entry is removed, and the place is freed
abbrev pub settled_by : Set → ℕ → Timer → Life → Set
settled_by s p t (Live w d) =
    let o = push_sound (dropped_of s.heap t.held) d (generation_of w) (record { 0 = p }) in
    with_timer (with_heap s o.state) p (record { life = Live w d; waiting = No; held = held_by o.answer; uses = t.uses })
settled_by s p t (Cancelled w) = with_timer (with_heap s (dropped_of s.heap t.held)) p (freed_of t.uses)
settled_by s p t Free = with_timer s p (record { life = Free; waiting = No; held = t.held; uses = t.uses })
settled_by s p t Retired = with_timer s p (record { life = Retired; waiting = No; held = t.held; uses = t.uses })

-- the timer at p, first in the list, is taken off it and its update made
unfoldable pub settled_of : Set → ℕ → Set
settled_of s p = settled_by (with_first s (head_after (timer_at s p).waiting)) p (timer_at s p) (timer_at s p).life

-- the rest of a walk along the list: nothing where it has ended, else what `more` makes of the timer at its head
abbrev pub list_turn : Set → Code.Option Place → (ℕ → Set) → Set
list_turn s None more = s
list_turn s (Some p) more = more p.0

-- the updates in list order, in at most as many turns as the first number says
unfoldable pub drain_from : ℕ → Set → Set
drain_from zero s = s
drain_from (suc k) s = list_turn s s.first (λ p. drain_from k (settled_of s p))

-- drain: a list is no longer than there are places
abbrev pub drained_of : Set → Set
drained_of s = drain_from cap s

-- ADVANCE

-- a set in the middle of an advance: the list of reports, how many there are, and how many entries were popped
pub record Ring : Type 0 where
  pub set : Set
  pub list : List ℕ
  pub reported : ℕ
  pub popped : ℕ

-- the head's deadline is at or before the reading
unfoldable pub due_by : Heap → ℕ → Bool
due_by h N = ltb 0 h.len && leb (entry_at h 0).at N

-- the word as a firing leaves it: the fired bit is set where the whole word is the entry's generation times four
abbrev pub rung_word : ℕ → ℕ → ℕ
rung_word w g = cond (matches_in w g) (fired_of w) w

-- a popped entry's timer forgets its slot, and fires where its word matches
abbrev pub rung_life : ℕ → Life → Life
rung_life g Free = Free
rung_life g (Live w d) = Live (rung_word w g) d
rung_life g (Cancelled w) = Cancelled (rung_word w g)
rung_life g Retired = Retired

-- it is reported where it is live and fires; a cancelled timer is not
abbrev pub reports : ℕ → Life → Bool
reports g Free = false
reports g (Live w d) = matches_in w g
reports g (Cancelled w) = false
reports g Retired = false

abbrev pub rung_timer : ℕ → Timer → Timer
rung_timer g t = record { life = rung_life g t.life; waiting = t.waiting; held = None; uses = t.uses }

-- one pop: the head e comes off, and its timer rings
abbrev pub rung_by : Ring → Entry → Ring
rung_by r e =
    let s = with_heap r.set (pop_sound r.set.heap).state in
    let p = e.place.0 in
    let t = timer_at s p in
    let b = reports e.generation t.life in
    record {
      set = with_timer s p (rung_timer e.generation t);
      list = cond b (set r.list r.reported (handle_word (record { place = e.place; uses = t.uses }))) r.list;
      reported = cond b (r.reported + 1) r.reported;
      popped = r.popped + 1;
    }

unfoldable pub rung_of : Ring → Ring
rung_of r = rung_by r (entry_at r.set.heap 0)

-- pops while the head is due, at most as many as the first number says
unfoldable pub ring_from : ℕ → Ring → ℕ → Ring
ring_from zero r N = r
ring_from (suc k) r N = cond (due_by r.set.heap N) (ring_from k (rung_of r) N) r

-- advance: no more can be popped than the heap holds
unfoldable pub advanced_of : Set → ℕ → List ℕ → Ring
advanced_of s N l = ring_from s.heap.len (record { set = s; list = l; reported = 0; popped = 0 }) N

-- CLOSE

-- the invalid mark
abbrev pub marked_life : Life → Life
marked_life Free = Free
marked_life (Live w d) = Live (invalid_of w) d
marked_life (Cancelled w) = Cancelled (invalid_of w)
marked_life Retired = Retired

-- a timer met in the list is taken off it, marked, and forgets its slot
unfoldable pub unlisted_of : Set → ℕ → Set
unlisted_of s p =
    let t = timer_at s p in
    with_first
    (with_timer s p (record { life = marked_life t.life; waiting = No; held = None; uses = t.uses }))
    (head_after t.waiting)

unfoldable pub unlist_from : ℕ → Set → Set
unlist_from zero s = s
unlist_from (suc k) s = list_turn s s.first (λ p. unlist_from k (unlisted_of s p))

-- a timer met in the heap is marked, and forgets its slot
abbrev pub popped_by : Set → Entry → Set
popped_by s e =
    let g = with_heap s (pop_sound s.heap).state in
    let t = timer_at g e.place.0 in
    with_timer g e.place.0 (record { life = marked_life t.life; waiting = t.waiting; held = None; uses = t.uses })

unfoldable pub popped_of : Set → Set
popped_of s = popped_by s (entry_at s.heap 0)

-- the heap is emptied by pops
unfoldable pub empty_from : ℕ → Set → Set
empty_from zero s = s
empty_from (suc k) s = empty_from k (popped_of s)

abbrev pub sealed : Set → Set
sealed s = record { heap = s.heap; timers = s.timers; first = s.first; closed = true }

-- close: the list is emptied, then the heap, and the set is closed
unfoldable pub closed_of : Set → Set
closed_of s = let u = unlist_from cap s in sealed (empty_from u.heap.len u)
