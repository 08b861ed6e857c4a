-- A set in which one place, the heap and the head of the list have changed: what is read of it there and elsewhere.
-- Assumes nothing.
use mathlib.Core.Path.{◌≡◌, sym}
use Prim.Native.Nat.{ℕ, ◌<◌}
use native.Mathlib.Omega.{arith}
use lib.ListN.{length, set}
use Rattle.std.specs.Prelude.{Option}
use Rattle.heap.specs.declared.Place.{Place}
use Rattle.heap.specs.declared.Slot.{Slot}
use Rattle.theory.proofs.Stores.{sees_other, sees_here}
use Rattle.heap.specs.Capacity.{cap}
use Rattle.heap.specs.declared.Heap.{Heap}
use Rattle.state.specs.declared.Timer.{Timer}
use Rattle.state.specs.declared.Set.{Set}
use Rattle.state.specs.State.{no_timer, timer_at}

-- the slot that the place p names
abbrev pub held_at : Set → ℕ → Option Slot
held_at s p = (timer_at s p).held

-- a set with another heap, list head and timer at p
abbrev pub changed : Set → Heap → ℕ → Timer → Option Place → Set
changed s h p t f = record { heap = h; timers = set s.timers p t; first = f; closed = s.closed }

module _ (s : Set) (h : Heap) (p : ℕ) (t : Timer) (f : Option Place) where
  -- the other places name the slots that they named
  pub held_there : (x : ℕ) → (x ≡ p → ⊥) → held_at (changed s h p t f) x ≡ held_at s x
  held_there x n = sym (sees_other (λ (u : Timer). u.held) no_timer s.timers p t x n)

  -- the timer at p is the new one
  pub timer_here : length s.timers ≡ cap → p < cap → timer_at (changed s h p t f) p ≡ t
  timer_here long b = let l : p < length s.timers = omega arith in sees_here (λ (u : Timer). u) no_timer s.timers p t l
