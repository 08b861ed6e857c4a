-- What an advance and a close leave: the counts and the list of an advance (proofs/Soundness/AdvancedSound.antt, proofs/Reporting/AdvancedList.antt), and
-- a set that is closed for good (proofs/Soundness/ClosedSound.antt).
-- Assumes nothing.
use Rattle.std.specs.Prelude.{◌≡◌, true, List, ℕ, ◌+◌, ◌≤◌, ◌<◌, length, get_or, None}
use Rattle.heap.specs.Capacity.{cap}
use Rattle.state.specs.declared.Life.TheVariants.{Live}
use Rattle.state.specs.declared.Timer.{Timer}
use Rattle.state.specs.declared.Set.{Set}
use Rattle.state.specs.State.{timer_at}
use Rattle.state.specs.Handles.{handle_word}
use Rattle.state.specs.Sound.{Unused, Sound}
use Rattle.moves.specs.Rules.{Ring}

-- the counts of an advance: no more are reported than popped, and what is popped is missing from the heap's n entries
pub record Counts (n : ℕ) (r : Ring) : Type 0 where
  pub set_sound : Sound r.set
  pub reported_in : r.reported ≤ r.popped
  pub popped_in : r.popped ≤ n
  pub left_over : r.set.heap.len + r.popped ≡ n

-- a word that stands for the handle of a live timer of the set
pub record Handled (s : Set) (word : ℕ) : Type 0 where
  pub at : ℕ
  pub in_range : at < cap
  pub state_word : ℕ
  pub due : ℕ
  pub live : (timer_at s at).life ≡ Live state_word due
  pub is_word : word ≡ handle_word (record { place = record { 0 = at }; uses = (timer_at s at).uses })

-- a timer has the use number that another one had, and where it is live that one was, with the same deadline
pub record Stays (from : Timer) (t : Timer) : Type 0 where
  pub same_uses : t.uses ≡ from.uses
  pub was_live : (w d : ℕ) → t.life ≡ Live w d → (v : ℕ) × (from.life ≡ Live v d)

-- the list in the middle of an advance of the set s, which began as l
pub record Rest (s : Set) (l : List ℕ) (r : Ring) : Type 0 where
  pub set_sound : Sound r.set
  pub stays : (p : ℕ) → Stays (timer_at s p) (timer_at r.set p)
  pub same_length : length r.list ≡ length l
  pub untouched : (i : ℕ) → r.reported ≤ i → get_or r.list i 0 ≡ get_or l i 0
  pub written : (i : ℕ) → i < r.reported → i < length l → Handled s (get_or r.list i 0)

-- a set that is closed for good: its list and its heap are empty, no timer waits, and none names a slot
pub record Shut (s : Set) : Type 0 where
  pub is_closed : s.closed ≡ true
  pub no_first : s.first ≡ None
  pub none_left : s.heap.len ≡ 0
  pub unused : (p : ℕ) → p < cap → Unused (timer_at s p)
