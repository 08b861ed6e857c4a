-- The heap's entry for a place, and what it must be for the timer there to go off (proofs/Entries/EntryOf*.antt).
-- Assumes nothing.
use Rattle.std.specs.Prelude.{◌≡◌, Bool, ℕ, Some, None}
use Rattle.std.specs.Prelude as Code
use Rattle.heap.specs.declared.Slot.{Slot}
use Rattle.std.proofs.Math.Option.{Option, none, some}
use Rattle.heap.specs.declared.Entry.{Entry}
use Rattle.heap.specs.declared.Heap.{Heap}
use Rattle.heap.specs.Lookup.{lookup}
use Rattle.state.specs.declared.Set.{Set}
use Rattle.state.specs.State.{timer_at, is_waiting}

-- the entry in the slot that a timer names
abbrev pub held_entry : Heap → Code.Option Slot → Option Entry
held_entry h None = none
held_entry h (Some q) = lookup h q.0

-- the entry of the place p
abbrev pub entry_of : Set → ℕ → Option Entry
entry_of s p = held_entry s.heap (timer_at s p).held

-- whether the timer at p waits for a drain
abbrev pub waiting : Set → ℕ → Bool
waiting s p = is_waiting (timer_at s p).waiting

-- an entry with this deadline and this generation
pub record Armed (o : Option Entry) (at generation : ℕ) : Type 0 where
  pub it : Entry
  pub found : o ≡ some it
  pub same_at : it.at ≡ at
  pub same_generation : it.generation ≡ generation
