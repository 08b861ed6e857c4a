-- What a sound set is, clause by clause. The test says yes exactly of these (proofs/Test.antt). Nothing of room not in use is in
-- it, nor anything that merely holds of the sets that calls lead to.
-- Assumes nothing.
use Rattle.std.specs.Prelude.{◌≡◌, true, false, ℕ, ◌<◌, ◌^◌, length, None, Some}
use Rattle.theory.specs.Chain.{chain_okb}
use Rattle.heap.specs.Capacity.{cap}
use Rattle.heap.specs.declared.Slot.{Slot}
use Rattle.heap.specs.declared.Pos.{Pos}
use Rattle.heap.specs.declared.SlotState.TheVariants.{Full}
use Rattle.heap.specs.Rules.{entry_at, state_at}
use Rattle.heap.specs.Sound as Heap
use Rattle.word.specs.Rules.{invalid_in}
use Rattle.state.specs.declared.Life.TheVariants.{Free, Live, Cancelled, Retired}
use Rattle.state.specs.declared.Waiting.TheVariants.{No}
use Rattle.state.specs.declared.Timer.{Timer}
use Rattle.state.specs.declared.Set.{Set}
use Rattle.state.specs.State.{timer_at, is_waiting, head_of}
use Rattle.state.specs.Faults.{waits_at, after_at}

-- nobody's place is not waiting and has no entry
pub record Unused (t : Timer) : Type 0 where
  pub still : t.waiting ≡ No
  pub bare : t.held ≡ None

-- the slot q was made, and its entry holds the place p
pub record Owns (s : Set) (p : ℕ) (q : Slot) : Type 0 where
  pub made : q.0 < s.heap.made
  pub where_it_stands : Pos
  pub full : state_at s.heap q.0 ≡ Full where_it_stands
  pub own : (entry_at s.heap where_it_stands.0).place.0 ≡ p

pub record Sound (s : Set) : Type 0 where
  -- there are as many places as the code's type says
  pub timers_long : length s.timers ≡ cap
  -- the heap test says yes
  pub heap_sound : Heap.Sound s.heap
  -- the list holds exactly the waiting timers, each once
  pub listed : chain_okb (waits_at s) (after_at s) cap (head_of s.first) ≡ true
  -- a timer names a slot exactly when that slot's entry is its own; places and generations of entries are in range
  pub slot_own : (p : ℕ) (q : Slot) → p < cap → (timer_at s p).held ≡ Some q → Owns s p q
  pub entry_place : (i : ℕ) → i < s.heap.len → (entry_at s.heap i).place.0 < cap
  pub entry_own : (i : ℕ) → i < s.heap.len → (timer_at s (entry_at s.heap i).place.0).held ≡ Some (entry_at s.heap i).slot
  pub generations : (i : ℕ) → i < s.heap.len → (entry_at s.heap i).generation < 2 ^ 30
  -- a free or retired place has no entry and is not waiting
  pub free_unused : (p : ℕ) → p < cap → (timer_at s p).life ≡ Free → Unused (timer_at s p)
  pub retired_unused : (p : ℕ) → p < cap → (timer_at s p).life ≡ Retired → Unused (timer_at s p)
  -- an invalid mark stands only in a closed set, whose list and heap are empty
  pub live_unmarked : (p w d : ℕ) → p < cap → s.closed ≡ false → (timer_at s p).life ≡ Live w d → invalid_in w ≡ false
  pub cancelled_unmarked : (p w : ℕ) → p < cap → s.closed ≡ false → (timer_at s p).life ≡ Cancelled w → invalid_in w ≡ false
  pub list_empty : s.closed ≡ true → s.first ≡ None
  pub heap_empty : s.closed ≡ true → s.heap.len ≡ 0
  -- a cancelled timer of an open set is waiting
  pub cancelled_waits : (p w : ℕ) → p < cap → s.closed ≡ false → (timer_at s p).life ≡ Cancelled w → is_waiting (timer_at s p).waiting ≡ true
