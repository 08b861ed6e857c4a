-- The first half of a close: the list is emptied, timer by timer. A timer taken off forgets its slot while its entry is in the heap
-- still, so the set is not sound in between; what is kept is that a slot that is named holds an entry for the place.
-- Assumes nothing.
use mathlib.Core.Path.{◌≡◌, refl, ◌∙◌}
use mathlib.Core.Bool.{true}
use mathlib.Core.Option.{some}
use Prim.Native.Nat.{ℕ, zero, suc, ◌≤◌, ◌<◌}
use native.Mathlib.Omega.{arith}
use lib.ListN.{length-set}
use Rattle.std.specs.Prelude.{Option, Some, None}
use Rattle.heap.specs.declared.Place.{Place}
use Rattle.theory.specs.Counting.{count}
use Rattle.theory.proofs.Stores.{set_all}
use Rattle.heap.specs.Capacity.{cap}
use Rattle.heap.specs.declared.Slot.{Slot}
use Rattle.heap.specs.declared.Entry.{Entry}
use Rattle.heap.specs.Lookup.{lookup}
use Rattle.state.specs.declared.Waiting.TheVariants.{No}
use Rattle.state.specs.declared.Timer.{Timer}
use Rattle.state.specs.declared.Set.{Set}
use Rattle.state.specs.State.{no_timer, timer_at, head_after}
use Rattle.state.specs.Faults.{waits_at}
use Rattle.moves.specs.Rules.{list_turn, marked_life, unlisted_of, unlist_from}
use Rattle.laws.proofs.Parts.OpenSlots.{nothing_at}
use Rattle.laws.proofs.Parts.ListChange.{waits_below, first_waits, list_empty, list_popped, waits_fall}
use Rattle.laws.proofs.Parts.Ties.{Fine}
use Rattle.laws.proofs.Soundness.Closing.{Closing, marked_fine}

-- the timer at p is at the head of the list
module _ (s : Set) (c : Closing s) (p : ℕ) (at : s.first ≡ Some (record { 0 = p })) where
  -- its place is in range
  head_below : p < cap
  head_below = waits_below s p (first_waits s (record { 0 = p }) c.listed at)

  -- the timer once it is taken off
  taken_off : Timer
  taken_off = record { life = marked_life (timer_at s p).life; waiting = No; held = None; uses = (timer_at s p).uses }

  -- what it has then, and all other timers have, all timers have
  unlisted_all : (P : ℕ → Timer → Type 0) → P p taken_off → ((x : ℕ) → (x ≡ p → ⊥) → P x (timer_at s x)) → (x : ℕ) → P x (timer_at (unlisted_of s p) x)
  unfolding unlisted_of taken_off
  unlisted_all P here there x = set_all no_timer s.timers p taken_off (omega (arith, head_below, c.tied.timers_long)) P here there x

  -- one timer fewer waits
  unlisted_count : count (waits_at s) cap ≡ suc (count (waits_at (unlisted_of s p)) cap)
  unfolding unlisted_of taken_off
  unlisted_count = waits_fall s s.heap p taken_off (head_after (timer_at s p).waiting) c.tied.timers_long head_below at refl refl c.listed

  -- the set is in the middle of a close still
  unlisted_closing : Closing (unlisted_of s p)
  unfolding unlisted_of taken_off
  unlisted_closing = record {
    tied = record {
      timers_long = length-set s.timers p taken_off ∙ c.tied.timers_long;
      heap_sound = c.tied.heap_sound;
      names = unlisted_all
          (λ x y. (q : Slot) → x < cap → y.held ≡ Some q → (e : Entry) × (lookup s.heap q.0 ≡ some e) × (e.place.0 ≡ x))
          (λ q b e. absurd (nothing_at refl e)) (λ x n q b e. c.tied.names x q b e);
      ranges = c.tied.ranges;
    };
    listed = list_popped s s.heap p taken_off (head_after (timer_at s p).waiting) c.tied.timers_long head_below at refl refl c.listed;
    fine = unlisted_all (λ x y. x < cap → Fine true y) (λ b. marked_fine (timer_at s p) No (λ _. refl) (c.fine p b)) (λ x n. c.fine x);
  }

-- after as many turns as timers wait the list is empty
pub unlist_all : (k : ℕ) (s : Set) → Closing s → count (waits_at s) cap ≤ k → Closing (unlist_from k s) × ((unlist_from k s).first ≡ None)
unfolding unlist_from
unlist_all zero s c b = (c, list_empty s c.listed (omega arith))
unlist_all (suc k) s c b = go s.first refl (λ p. unlist_all k (unlisted_of s p))
  where
    go : (f : Option Place) → s.first ≡ f
        → ((p : ℕ) → Closing (unlisted_of s p) → count (waits_at (unlisted_of s p)) cap ≤ k
        → Closing (unlist_from k (unlisted_of s p)) × ((unlist_from k (unlisted_of s p)).first ≡ None))
        → Closing (list_turn s f (λ p. unlist_from k (unlisted_of s p))) × ((list_turn s f (λ p. unlist_from k (unlisted_of s p))).first ≡ None)
    go None e next = (c, e)
    go (Some x) e next =
        next x.0 (unlisted_closing s c x.0 e) (omega (arith, unlisted_count s c x.0 e))
