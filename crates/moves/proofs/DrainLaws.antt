-- The drain, turn by turn: what one update makes of a set, by whose place it is, how the updates go on and end, and what they all
-- keep.
-- Assumes nothing.
use mathlib.Core.Logic.{◌⊎◌, ⊎_elim}
use mathlib.Core.Path.{◌≡◌, refl, sym, ap, ◌∙◌}
use mathlib.Core.List.{List}
use Prim.Native.Nat.{ℕ, zero, suc, ◌≤◌}
use native.Mathlib.Omega.{arith}
use lib.ListN.{length, get_or-eq_default}
use lib.Seq.{set_out}
use denote.Enum.Declared.{tag_of}
use Rattle.std.specs.Prelude.{Option, Some, None}
use Rattle.refusals.specs.Answer.{Outcome}
use Rattle.heap.specs.declared.Slot.{Slot}
use Rattle.heap.specs.declared.Heap.{Heap}
use Rattle.heap.specs.declared.Place.{Place}
use Rattle.heap.specs.Calls.{push_sound}
use Rattle.heap.specs.Sound.{Sound}
use Rattle.heap.proofs.Soundness.SoundKept.{push_sound_lem, remove_sound_lem}
use Rattle.word.specs.Rules.{generation_of}
use Rattle.state.specs.declared.Life.{Life}
use Rattle.state.specs.contracts.Life.{the_type}
use Rattle.state.specs.declared.Life.TheVariants.{Free, Live, Cancelled, Retired}
use Rattle.state.specs.declared.Waiting.TheVariants.{No}
use Rattle.state.specs.declared.Timer.{Timer}
use Rattle.state.specs.declared.Set.{Set}
use Rattle.state.specs.State.{no_timer, timer_at, head_after}
use Rattle.moves.specs.Rules.{with_timer, with_heap, with_first, dropped_of, held_by, settled_by, settled_of, list_turn, drain_from}

-- a heap stays sound without the entry that a timer holds
pub dropped_sound : (h : Heap) → Sound h → (d : Option Slot) → Sound (dropped_of h d)
dropped_sound h s None = s
dropped_sound h s (Some q) = remove_sound_lem h s q

-- the set without the first timer of its list, the one at p
abbrev pub without : Set → ℕ → Set
without s p = with_first s (head_after (timer_at s p).waiting)

module _ (s : Set) (p : ℕ) where
  -- the update goes by whose place it is
  pub settled_by_lem : {l : Life} → (timer_at s p).life ≡ l → settled_of s p ≡ settled_by (without s p) p (timer_at s p) l
  unfolding settled_of
  settled_by_lem e = ap (settled_by (without s p) p (timer_at s p)) e

  -- the timer at p, off the list and with the entry that a push makes
  abbrev renewed : Life → Outcome Heap (Slot × ℕ) → Set
  renewed l o = with_timer (with_heap (without s p) o.state) p (record { life = l; waiting = No; held = held_by o.answer; uses = (timer_at s p).uses })

  -- a live timer's old entry goes, and a new one is pushed
  pub settled_live : {w d g : ℕ} {h : Heap} {o : Outcome Heap (Slot × ℕ)} → (timer_at s p).life ≡ Live w d → h ≡ dropped_of s.heap (timer_at s p).held
      → g ≡ generation_of w → o ≡ push_sound h d g (record { 0 = p }) → settled_of s p ≡ renewed (Live w d) o
  settled_live {w} {d} e dropped generation pushed = settled_by_lem e ∙ ap (renewed (Live w d)) (sym (rw (dropped, generation) at pushed))

  -- the timer at p, off the list and otherwise as it was
  abbrev idle : Life → Set
  idle l = with_timer (without s p) p (record { life = l; waiting = No; held = (timer_at s p).held; uses = (timer_at s p).uses })

  -- nobody's place, by its tag of a free or of a retired one, is only taken off the list
  pub settled_idle : (l : Life) → (timer_at s p).life ≡ l → (tag_of the_type l ≡ 0) ⊎ (tag_of the_type l ≡ 3) → settled_of s p ≡ idle l
  settled_idle Free e k = settled_by_lem e
  settled_idle (Live w d) e k = absurd (⊎_elim (λ q. omega arith) (λ q. omega arith) k)
  settled_idle (Cancelled w) e k = absurd (⊎_elim (λ q. omega arith) (λ q. omega arith) k)
  settled_idle Retired e k = settled_by_lem e

  -- a place out of range ends the list
  pub settled_out : length s.timers ≤ p → settled_of s p ≡ with_first s None
  unfolding settled_of
  settled_out out =
      ap (λ (t : Timer). settled_by (with_first s (head_after t.waiting)) p t t.life) (get_or-eq_default s.timers no_timer out)
      ∙ ap (λ (ts : List Timer). record { heap = s.heap; timers = ts; first = None; closed = s.closed }) (set_out s.timers p no_timer out)

  -- an update keeps the heap sound
  pub settled_heap : Sound s.heap → Sound (settled_of s p).heap
  unfolding settled_of
  settled_heap h = go (timer_at s p).life
    where
      go : (l : Life) → Sound (settled_by (without s p) p (timer_at s p) l).heap
      go Free = h
      go (Live w d) = push_sound_lem _ (dropped_sound s.heap h (timer_at s p).held) d (generation_of w) (record { 0 = p })
      go (Cancelled w) = dropped_sound s.heap h (timer_at s p).held
      go Retired = h

-- while the list has a head, its update is made and the drain goes on
pub drain_goes : (k : ℕ) (s : Set) {p : Place} → s.first ≡ Some p → drain_from (suc k) s ≡ drain_from k (settled_of s p.0)
unfolding drain_from
drain_goes k s e = ap (λ (f : Option Place). list_turn s f (λ p. drain_from k (settled_of s p))) e

-- at the end of the list it stops
pub drain_ends : (k : ℕ) (s : Set) → s.first ≡ None → drain_from k s ≡ s
unfolding drain_from
drain_ends zero s e = refl
drain_ends (suc k) s e = ap (λ (f : Option Place). list_turn s f (λ p. drain_from k (settled_of s p))) e

-- what holds of a set and of what any turn makes of it holds after a walk along the list
turn_keeps : (P : Set → Type 0) (s : Set) (f : Option Place) (more : ℕ → Set) → P s → ((p : ℕ) → P (more p)) → P (list_turn s f more)
turn_keeps P s None more h m = h
turn_keeps P s (Some p) more h m = m p.0

-- what every update keeps, a drain keeps
pub drain_keeps : (P : Set → Type 0) → ((s : Set) (p : ℕ) → P s → P (settled_of s p)) → (k : ℕ) (s : Set) → P s → P (drain_from k s)
unfolding drain_from
drain_keeps P one zero s h = h
drain_keeps P one (suc k) s h =
    turn_keeps P s s.first (λ p. drain_from k (settled_of s p)) h (λ p. drain_keeps P one k (settled_of s p) (one s p h))

-- a drain keeps the heap sound
pub drained_heap : (k : ℕ) (s : Set) → Sound s.heap → Sound (drain_from k s).heap
drained_heap = drain_keeps (λ s. Sound s.heap) settled_heap
