-- A close, turn by turn: one timer off the list, one entry off the heap, where each walk ends, and what they keep.
-- Assumes nothing.
use mathlib.Core.Path.{◌≡◌, refl, ap, ◌∙◌}
use Prim.Native.Nat.{ℕ, zero, suc, ◌≤◌}
use lib.ListN.{length, length-set, get_or-eq_default}
use lib.Seq.{set_out}
use Rattle.std.specs.Prelude.{Option, Some, None}
use Rattle.heap.specs.declared.Place.{Place}
use Rattle.heap.specs.Rules.{entry_at}
use Rattle.heap.specs.Sound.{Sound}
use Rattle.heap.specs.Calls.{pop_sound}
use Rattle.heap.proofs.Soundness.SoundKept.{pop_sound_lem}
use Rattle.state.specs.declared.Waiting.TheVariants.{No}
use Rattle.state.specs.declared.Set.{Set}
use Rattle.state.specs.State.{no_timer}
use Rattle.moves.specs.Rules.{with_heap, with_first, list_turn, marked_life, unlisted_of, unlist_from, popped_of, empty_from}

-- THE LIST

-- the timer at the head is taken off, and one turn fewer is left
pub unlist_goes : (k : ℕ) (s : Set) (p : Place) → s.first ≡ Some p → unlist_from (suc k) s ≡ unlist_from k (unlisted_of s p.0)
unfolding unlist_from
unlist_goes k s p e = ap (λ (f : Option Place). list_turn s f (λ q. unlist_from k (unlisted_of s q))) e

-- at the end of the list nothing more is done
pub unlist_ends : (n : ℕ) (s : Set) → s.first ≡ None → unlist_from n s ≡ s
unfolding unlist_from
unlist_ends zero s e = refl
unlist_ends (suc k) s e = ap (λ (f : Option Place). list_turn s f (λ q. unlist_from k (unlisted_of s q))) e

-- nor where no turn is left
pub unlist_done : {n : ℕ} (s : Set) → n ≡ 0 → unlist_from n s ≡ s
unfolding unlist_from
unlist_done s e = rw e

-- a place out of range ends the list, and nothing is stored
unlisted_out : (s : Set) (p : ℕ) → length s.timers ≤ p → unlisted_of s p ≡ with_first s None
unfolding unlisted_of
unlisted_out s p b =
    rw (get_or-eq_default s.timers no_timer b, set_out s.timers p (record { life = marked_life no_timer.life; waiting = No; held = None; uses = 0 }) b)

-- so the walk along the list stops there
pub unlist_out : (k : ℕ) (s : Set) (p : Place) → s.first ≡ Some p → length s.timers ≤ p.0 → unlist_from (suc k) s ≡ with_first s None
unlist_out k s p e o =
    unlist_goes k s p e ∙ ap (unlist_from k) (unlisted_out s p.0 o) ∙ unlist_ends k (with_first s None) refl

-- what taking a timer off keeps, emptying the list keeps
unlist_keeps : (P : Set → Type 0) → ((s : Set) (p : ℕ) → P s → P (unlisted_of s p)) → (n : ℕ) (s : Set) → P s → P (unlist_from n s)
unfolding unlist_from
unlist_keeps P step zero s x = x
unlist_keeps P step (suc k) s x = go s.first (λ p. unlist_keeps P step k (unlisted_of s p) (step s p x))
  where
    go : (f : Option Place) → ((p : ℕ) → P (unlist_from k (unlisted_of s p))) → P (list_turn s f (λ p. unlist_from k (unlisted_of s p)))
    go None h = x
    go (Some p) h = h p.0

-- the heap is left as it is
pub unlist_heap : (n : ℕ) (s : Set) → (unlist_from n s).heap ≡ s.heap
unfolding unlisted_of
unlist_heap n s = unlist_keeps (λ x. x.heap ≡ s.heap) (λ x p e. e) n s refl

-- THE HEAP

-- the head is popped, and one turn fewer is left
pub empty_goes : (k : ℕ) (s : Set) → empty_from (suc k) s ≡ empty_from k (popped_of s)
unfolding empty_from
empty_goes k s = refl

-- with no turn left nothing more is done
pub empty_done : {n : ℕ} (s : Set) → n ≡ 0 → empty_from n s ≡ s
unfolding empty_from
empty_done s e = rw e

-- the pop of an entry whose place is out of range stores nothing
pub popped_out : (s : Set) → length s.timers ≤ (entry_at s.heap 0).place.0 → popped_of s ≡ with_heap s (pop_sound s.heap).state
unfolding popped_of
popped_out s b = rw (set_out s.timers (entry_at s.heap 0).place.0 _ b)

-- a pop keeps the heap sound
pub popped_heap : (s : Set) → Sound s.heap → Sound (popped_of s).heap
unfolding popped_of
popped_heap s h = pop_sound_lem s.heap h

-- and the number of places
pub popped_timers : (s : Set) → length (popped_of s).timers ≡ length s.timers
unfolding popped_of
popped_timers s = simp length-set
