-- WHAT A NAMED FAULT OF A SET MEANS: every kind before it is in order, of its own kind nothing lower is at fault, and what is named
-- is (proofs/FirstFault.antt). On the clauses of Sound.antt, and not on the scans that find it.
-- Assumes nothing.
use Rattle.std.specs.Prelude.{◌≡◌, ◌⊎◌, Bool, true, false, ℕ, ◌<◌, ◌^◌, Some}
use Rattle.theory.specs.Chain.{chain_okb}
use Rattle.theory.specs.WrongStep.{WrongAt}
use Rattle.refusals.specs.declared.fault.Fault.{Fault}
use Rattle.refusals.specs.declared.fault.Fault.TheVariants.{Count, Position, Order, FreeChain, List, Place}
use Rattle.heap.specs.Capacity.{cap}
use Rattle.heap.specs.declared.Slot.{Slot}
use Rattle.heap.specs.Rules.{entry_at}
use Rattle.heap.specs.Sound as Heap
use Rattle.heap.specs.Named as HeapNamed
use Rattle.word.specs.Rules.{invalid_in}
use Rattle.state.specs.declared.Life.{Life}
use Rattle.state.specs.declared.Life.TheVariants.{Free, Live, Cancelled, Retired}
use Rattle.state.specs.declared.Timer.{Timer}
use Rattle.state.specs.declared.Set.{Set}
use Rattle.state.specs.State.{timer_at, is_waiting, head_of}
use Rattle.state.specs.Faults.{waits_at, after_at}
use Rattle.state.specs.Sound.{Unused, Owns}

-- how a timer's parts go with whose place it is
abbrev pub Goes : Bool → Timer → Life → Type 0
Goes closed t Free = Unused t
Goes closed t (Live w d) = closed ≡ false → invalid_in w ≡ false
Goes closed t (Cancelled w) = closed ≡ false → (invalid_in w ≡ false) × (is_waiting t.waiting ≡ true)
Goes closed t Retired = Unused t

-- a place is in order by itself: its timer's parts go with whose place it is, in a closed set it neither waits nor names a slot, and
-- the slot that it names has its own entry
pub record PlaceRight (s : Set) (p : ℕ) : Type 0 where
  pub goes : Goes s.closed (timer_at s p) (timer_at s p).life
  pub idle : s.closed ≡ true → Unused (timer_at s p)
  pub owns : (q : Slot) → (timer_at s p).held ≡ Some q → Owns s p q

-- an entry is in order: its place and its generation are in range, and its place names its slot
pub record EntryRight (s : Set) (i : ℕ) : Type 0 where
  pub place : (entry_at s.heap i).place.0 < cap
  pub generation : (entry_at s.heap i).generation < 2 ^ 30
  pub own : (timer_at s (entry_at s.heap i).place.0).held ≡ Some (entry_at s.heap i).slot

-- something is wrong at a place: with it by itself, or with an entry that holds its number, however large
abbrev pub WrongPlace : Set → ℕ → Type 0
WrongPlace s p = ((p < cap) × ¬ PlaceRight s p) ⊎ ((i : ℕ) × (i < s.heap.len) × ((entry_at s.heap i).place.0 ≡ p) × ¬ EntryRight s i)

-- the list is right
abbrev pub Listed : Set → Type 0
Listed s = chain_okb (waits_at s) (after_at s) cap (head_of s.first) ≡ true

abbrev pub Named : Set → Fault → Type 0
Named s Count = HeapNamed.Named s.heap Count
Named s (Position i) = HeapNamed.Named s.heap (Position i)
Named s (Order i) = HeapNamed.Named s.heap (Order i)
Named s (FreeChain k) = HeapNamed.Named s.heap (FreeChain k)
Named s (List k) = Heap.Sound s.heap × WrongAt (waits_at s) (after_at s) cap (head_of s.first) k
Named s (Place p) = Heap.Sound s.heap × Listed s × WrongPlace s p × ((q : ℕ) → q < p → ¬ WrongPlace s q)
