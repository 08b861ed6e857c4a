-- One turn of a drain keeps an open set sound: the timer's own entry goes, a slot that no timer names takes the new one, and the
-- list is its tail.
-- Assumes nothing.
use mathlib.Core.Path.{◌≡◌, refl, sym, ◌∙◌, ap}
use mathlib.Core.Bool.{true, false}
use mathlib.Core.List.{◌∷◌}
use Prim.Native.Nat.{ℕ, suc, ◌<◌, ◌^◌}
use native.Mathlib.Decide.{ℕ_discrete}
use native.Mathlib.Omega.{arith}
use Rattle.std.specs.Prelude.{Option, Some, None}
use Rattle.heap.specs.declared.Slot.{Slot}
use Rattle.theory.specs.Counting.{count}
use Rattle.theory.specs.Update.{upd}
use Rattle.theory.proofs.Update.{upd_same, upd_other}
use Rattle.theory.proofs.Tests.{true_false}
use Rattle.heap.specs.Capacity.{cap}
use Rattle.heap.specs.declared.Heap.{Heap}
use Rattle.heap.specs.Calls.{push_sound}
use Rattle.word.specs.Rules.{generation_of}
use Rattle.state.specs.declared.Life.{Life}
use Rattle.state.specs.declared.Life.TheVariants.{Free, Live, Cancelled, Retired}
use Rattle.state.specs.declared.Waiting.TheVariants.{No}
use Rattle.state.specs.declared.Timer.{Timer}
use Rattle.state.specs.declared.Set.{Set}
use Rattle.state.specs.State.{timer_at, is_waiting, head_after}
use Rattle.state.specs.Faults.{waits_at}
use Rattle.state.specs.Sound.{Unused}
use Rattle.moves.specs.Rules.{with_first, dropped_of, held_by, freed_of, settled_by, settled_of}
use Rattle.laws.specs.Words.{Words}
use Rattle.laws.proofs.Parts.OpenSlots.{Slots, slots_dropped, slots_pushed}
use Rattle.laws.proofs.Parts.Room.{room}
use Rattle.laws.proofs.Parts.Lives.{Lives, lives_live}
use Rattle.laws.proofs.Parts.Freed.{freed_held, freed_waiting, freed_lives}
use Rattle.laws.proofs.Parts.Change.{held_at, changed, held_there, timer_here}
use Rattle.laws.proofs.Parts.OpenSet.{Open, open_changed}
use Rattle.laws.proofs.Parts.ListChange.{list_of, waits_in, waits_below, first_waits, list_popped, list_pop, waits_fall}

-- what one turn with the timer at p makes of s
pub record Settles (s : Set) (p : ℕ) (r : Set) : Type 0 where
  pub is_open : Open r
  -- the list is the tail of the list before
  pub tail : list_of s ≡ p ∷ list_of r
  -- one timer less waits
  pub fewer : count (waits_at s) cap ≡ suc (count (waits_at r) cap)

-- an unused place does not wait
unused_waits : {A : Type 0} {t : Timer} → Unused t → is_waiting t.waiting ≡ true → A
unused_waits u e = true_false e (ap is_waiting u.still)

module _ (s : Set) (o : Open s) (words : Words s) (p : ℕ) (at : s.first ≡ Some (record { 0 = p })) where
  -- the first timer's place is in range
  pub first_in : p < cap
  first_in = waits_below s p (first_waits s (record { 0 = p }) o.listed at)

  -- it waits
  pub first_waiting : is_waiting (timer_at s p).waiting ≡ true
  first_waiting = sym (waits_in s p first_in) ∙ first_waits s (record { 0 = p }) o.listed at

  -- the set after the turn: another heap, another timer at p, and the next timer at the head of the list
  abbrev after : Heap → Timer → Set
  after h t = changed s h p t (head_after (timer_at s p).waiting)

  settles : (h : Heap) (t : Timer) → is_waiting t.waiting ≡ false → Slots h (held_at (after h t)) → Lives t
      → Settles s p (after h t)
  settles h t off slots lives = record {
    is_open =
        open_changed s h p t (head_after (timer_at s p).waiting) o first_in slots lives
        (list_popped s h p t (head_after (timer_at s p).waiting) o.timers_long first_in at off refl o.listed);
    tail = list_pop s h p t (head_after (timer_at s p).waiting) o.timers_long first_in at off refl o.listed;
    fewer = waits_fall s h p t (head_after (timer_at s p).waiting) o.timers_long first_in at off refl o.listed;
  }

  -- what the places name once the timer has dropped its entry
  abbrev pub bare : ℕ → Option Slot
  bare = upd ℕ_discrete (held_at s) p None

  -- the heap then
  abbrev pub less : Heap
  less = dropped_of s.heap (timer_at s p).held

  -- the two name each other
  pub less_slots : Slots less bare
  less_slots =
      slots_dropped s.heap (held_at s) bare p o.slots (upd_other ℕ_discrete (held_at s) p None) first_in
      (upd_same ℕ_discrete (held_at s) p None)

  -- there is room for an entry
  pub less_room : less.len < cap
  less_room = room less bare less_slots p first_in (upd_same ℕ_discrete (held_at s) p None)

  -- the new entry of a live timer
  module _ (w d : ℕ) where
    abbrev more : Heap
    more = (push_sound less d (generation_of w) (record { 0 = p })).state

    abbrev live : Timer
    live = record {
      life = Live w d;
      waiting = No;
      held = held_by (push_sound less d (generation_of w) (record { 0 = p })).answer;
      uses = (timer_at s p).uses;
    }

    more_slots : w < 2 ^ 32 → Slots more (held_at (after more live))
    more_slots b =
        let young : generation_of w < 2 ^ 30 = omega arith in
        slots_pushed less bare (held_at (after more live)) p less_slots
        (λ x n. held_there s more p live (head_after (timer_at s p).waiting) x n ∙ sym (upd_other ℕ_discrete (held_at s) p None x n))
        d (generation_of w) first_in less_room young
        (upd_same ℕ_discrete (held_at s) p None)
        (ap (λ (u : Timer). u.held) (timer_here s more p live (head_after (timer_at s p).waiting) o.timers_long first_in))

    live_settles : (timer_at s p).life ≡ Live w d → Settles s p (after more live)
    live_settles e =
        settles more live refl (more_slots ((words.small p first_in).bits w d e))
        (lives_live live w d refl ((o.lives p first_in).live_unmarked w d e))

  -- a cancelled timer's place is freed
  freed_slots : Slots less (held_at (after less (freed_of (timer_at s p).uses)))
  freed_slots =
      slots_dropped s.heap (held_at s) (held_at (after less (freed_of (timer_at s p).uses))) p o.slots
      (held_there s less p (freed_of (timer_at s p).uses) (head_after (timer_at s p).waiting)) first_in
      (ap (λ (u : Timer). u.held)
      (timer_here s less p (freed_of (timer_at s p).uses) (head_after (timer_at s p).waiting) o.timers_long first_in)
      ∙ freed_held (timer_at s p).uses)

  -- the turn, by whose place it is; a place that waits is neither free nor retired
  settles_by : (l : Life) → (timer_at s p).life ≡ l
      → Settles s p (settled_by (with_first s (head_after (timer_at s p).waiting)) p (timer_at s p) l)
  settles_by (Live w d) e = live_settles w d e
  settles_by (Cancelled w) e =
      settles less (freed_of (timer_at s p).uses) (freed_waiting (timer_at s p).uses) freed_slots (freed_lives (timer_at s p).uses)
  settles_by Free e = unused_waits ((o.lives p first_in).free_unused e) first_waiting
  settles_by Retired e = unused_waits ((o.lives p first_in).retired_unused e) first_waiting

  -- one turn keeps the parts of a sound set that is open, and takes the first timer off the list
  pub settled_settles : Settles s p (settled_of s p)
  unfolding settled_of
  settled_settles = settles_by (timer_at s p).life refl
