-- What a touch does to the entries and the timers: no entry changes, and no timer but the touched one, which waits then.
-- Assumes nothing.
use mathlib.Core.Path.{◌≡◌, refl, sym, ◌∙◌, ap}
use mathlib.Core.Bool.{true}
use Prim.Native.Nat.{ℕ, ◌<◌}
use lib.ListN.{length}
use Rattle.theory.proofs.Stores.{sees, sees_other}
use Rattle.heap.specs.Capacity.{cap}
use Rattle.state.specs.declared.Life.{Life}
use Rattle.state.specs.declared.Timer.{Timer}
use Rattle.state.specs.declared.Set.{Set}
use Rattle.state.specs.State.{no_timer, timer_at}
use Rattle.moves.specs.Rules.{touched_of}
use Rattle.laws.specs.EntryOf.{held_entry, entry_of, waiting}
use Rattle.laws.proofs.Parts.ListChange.{waits_in}
use Rattle.laws.proofs.Soundness.Touch.{touched_waits}

module _ (s : Set) (p : ℕ) (l : Life) where
  -- every place keeps its entry
  pub touched_entry : (x : ℕ) → entry_of (touched_of s p l) x ≡ entry_of s x
  unfolding touched_of
  touched_entry x = ap (held_entry s.heap) (sym (sees (λ (t : Timer). t.held) no_timer s.timers p _ refl x))

  -- the other places keep their timers
  pub touched_other : (x : ℕ) → (x ≡ p → ⊥) → timer_at (touched_of s p l) x ≡ timer_at s x
  unfolding touched_of
  touched_other x n = sym (sees_other (λ (t : Timer). t) no_timer s.timers p _ x n)

  -- the touched timer waits
  pub touched_waiting : length s.timers ≡ cap → p < cap → waiting (touched_of s p l) p ≡ true
  touched_waiting long b = sym (waits_in (touched_of s p l) p b) ∙ touched_waits s p l long b
