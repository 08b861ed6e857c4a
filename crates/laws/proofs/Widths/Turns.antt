-- The widths of a set's numbers are kept turn by turn: a drain pushes the deadline that its timer has, a pop and a removal push none,
-- and the marks of a firing and of a close are bits of the word's 32.
-- Assumes nothing.
use mathlib.Core.Path.{◌≡◌, refl, subst}
use mathlib.Core.Bool.{Bool, true, false, cond}
use mathlib.Core.List.{List}
use Prim.Native.Nat.{ℕ, ◌<◌, ◌^◌}
use native.Mathlib.Omega.{arith}
use Rattle.std.specs.Prelude.{Option, Some, None}
use Rattle.heap.specs.declared.Place.{Place}
use Rattle.heap.specs.declared.Slot.{Slot}
use Rattle.theory.proofs.Tests.{ref_eq, cond-ref}
use Rattle.heap.specs.declared.Entry.{Entry}
use Rattle.heap.specs.declared.Heap.{Heap}
use Rattle.heap.specs.Rules.{entry_at}
use Rattle.heap.specs.Sound.{Sound}
use Rattle.heap.specs.Calls.{push_sound, pop_sound}
use Rattle.heap.proofs.Soundness.SoundKept.{push_sound_lem, remove_sound_lem, pop_sound_lem}
use Rattle.heap.proofs.Soundness.EachEntry.{Each, push_each, remove_each, pop_each}
use Rattle.word.specs.Rules.{generation_of, fired_of, matches_in}
use Rattle.state.specs.declared.Life.{Life}
use Rattle.state.specs.declared.Life.TheVariants.{Free, Live, Cancelled, Retired}
use Rattle.state.specs.declared.Timer.{Timer}
use Rattle.state.specs.declared.Set.{Set}
use Rattle.state.specs.State.{timer_at, is_waiting, head_after}
use Rattle.state.specs.Widths.{LifeWidths, TimerWidths}
use Rattle.moves.specs.Rules.{with_first, waiting_by, head_by, touched_of, dropped_of, freed_of, settled_by, settled_of, drained_of, Ring, rung_word, rung_life, rung_timer, rung_of, advanced_of, marked_life, unlisted_of, popped_of, closed_of}
use Rattle.laws.specs.Widths.{IsTime}
use Rattle.laws.proofs.Parts.Change.{changed}
use Rattle.laws.proofs.Handles.Naming.{store_rel}
use Rattle.laws.proofs.AnyCall.Walks.{drain_walk, advance_walk, close_walk}

-- the deadline of an entry is a time
abbrev pub Timed : Entry → Type 0
Timed e = IsTime e.at

-- a sound heap, the deadlines of whose entries in use are times
pub record TimedHeap (h : Heap) : Type 0 where
  pub sound : Sound h
  pub each : Each Timed h

-- a set with such a heap whose timers have their widths, in range and out of it
pub record Wide (s : Set) : Type 0 where
  pub heap_timed : TimedHeap s.heap
  pub each_timer : (p : ℕ) → TimerWidths (timer_at s p)

-- THE HEAP

-- without the entry that a timer holds
dropped_timed : (h : Heap) (d : Option Slot) → TimedHeap h → TimedHeap (dropped_of h d)
dropped_timed h None t = t
dropped_timed h (Some q) t = record { sound = remove_sound_lem h t.sound q; each = remove_each Timed h t.each t.sound q }

-- with a new one
pushed_timed : (h : Heap) (d g p : ℕ) → TimedHeap h → IsTime d → TimedHeap (push_sound h d g (record { 0 = p })).state
pushed_timed h d g p t b = record {
  sound = push_sound_lem h t.sound d g (record { 0 = p });
  each = push_each Timed h t.each t.sound d g (record { 0 = p }) b;
}

-- without its head
popped_timed : (h : Heap) → TimedHeap h → TimedHeap (pop_sound h).state
popped_timed h t = record { sound = pop_sound_lem h t.sound; each = pop_each Timed h t.each t.sound }

-- THE TIMERS

-- a place that is freed: a use number below the last goes up by one
freed_widths : (u : ℕ) → u < 2 ^ 32 → TimerWidths (freed_of u)
freed_widths u b =
    cond-ref TimerWidths (ref_eq u 4294967295)
    (λ e. record { uses_in = b; life_in = tt })
    (λ n. record { uses_in = omega arith; life_in = tt })

rung_word_lem : (w g : ℕ) → w < 2 ^ 32 → rung_word w g < 2 ^ 32
rung_word_lem w g b = go (matches_in w g)
  where
    go : (t : Bool) → cond t (fired_of w) w < 2 ^ 32
    go true = omega arith
    go false = b

-- a firing
rung_widths : (g : ℕ) (l : Life) → LifeWidths l → LifeWidths (rung_life g l)
rung_widths g Free b = tt
rung_widths g (Live w d) b = (rung_word_lem w g b.0, b.1)
rung_widths g (Cancelled w) b = rung_word_lem w g b
rung_widths g Retired b = tt

-- the invalid mark
marked_widths : (l : Life) → LifeWidths l → LifeWidths (marked_life l)
marked_widths Free b = tt
marked_widths (Live w d) b = let c : w < 2 ^ 32 = b.0 in (omega arith, b.1)
marked_widths (Cancelled w) b = omega arith
marked_widths Retired b = tt

-- THE TURNS

-- another heap, list head and timer at a place, in range or not
wide_changed : (s : Set) (h : Heap) (p : ℕ) (t : Timer) (f : Option Place) → Wide s → TimedHeap h → TimerWidths t → Wide (changed s h p t f)
wide_changed s h p t f w heap new = record {
  heap_timed = heap;
  each_timer = λ x. store_rel (λ _ a b. TimerWidths a → TimerWidths b) (λ _ _ y. y) s.timers p t (λ _. new) x (w.each_timer x);
}

module _ (s : Set) (w : Wide s) where
  -- a touch
  pub touched_wide : (p : ℕ) (l : Life) → LifeWidths l → Wide (touched_of s p l)
  unfolding touched_of
  touched_wide p l b =
      wide_changed s s.heap p (record {
        life = l;
        waiting = waiting_by (is_waiting (timer_at s p).waiting) (timer_at s p) s.first;
        held = (timer_at s p).held;
        uses = (timer_at s p).uses;
      }) (head_by (is_waiting (timer_at s p).waiting) p s.first) w w.heap_timed
      (record { uses_in = (w.each_timer p).uses_in; life_in = b })

  module _ (p : ℕ) where
    -- the heap without the entry of the timer at p
    less_timed : TimedHeap (dropped_of s.heap (timer_at s p).held)
    less_timed = dropped_timed s.heap (timer_at s p).held w.heap_timed

    -- an update of a drain, by whose place it is
    settled_by_lem : (l : Life) → (timer_at s p).life ≡ l → Wide (settled_by (with_first s (head_after (timer_at s p).waiting)) p (timer_at s p) l)
    settled_by_lem (Live v d) e =
        let b = subst LifeWidths e (w.each_timer p).life_in in
        wide_changed s _ p _ (head_after (timer_at s p).waiting) w
        (pushed_timed (dropped_of s.heap (timer_at s p).held) d (generation_of v) p less_timed b.1)
        (record { uses_in = (w.each_timer p).uses_in; life_in = b })
    settled_by_lem (Cancelled v) e =
        wide_changed s _ p _ (head_after (timer_at s p).waiting) w less_timed (freed_widths (timer_at s p).uses (w.each_timer p).uses_in)
    settled_by_lem Free e =
        wide_changed s _ p _ (head_after (timer_at s p).waiting) w w.heap_timed (record { uses_in = (w.each_timer p).uses_in; life_in = tt })
    settled_by_lem Retired e =
        wide_changed s _ p _ (head_after (timer_at s p).waiting) w w.heap_timed (record { uses_in = (w.each_timer p).uses_in; life_in = tt })

settled_wide : (s : Set) (p : ℕ) → Wide s → Wide (settled_of s p)
unfolding settled_of
settled_wide s p w = settled_by_lem s w p (timer_at s p).life refl

-- a pop of an advance
rung_wide : (r : Ring) → Wide r.set → Wide (rung_of r).set
unfolding rung_of
rung_wide r w =
    let e = entry_at r.set.heap 0 in
    let t = timer_at r.set e.place.0 in
    wide_changed r.set (pop_sound r.set.heap).state e.place.0 (rung_timer e.generation t) r.set.first w
    (popped_timed r.set.heap w.heap_timed)
    (record { uses_in = (w.each_timer e.place.0).uses_in; life_in = rung_widths e.generation t.life (w.each_timer e.place.0).life_in })

-- a timer that a close marks
marked_timer : (s : Set) (p : ℕ) → Wide s → LifeWidths (marked_life (timer_at s p).life)
marked_timer s p w = marked_widths (timer_at s p).life (w.each_timer p).life_in

-- a turn of a close along the list
unlisted_wide : (s : Set) (p : ℕ) → Wide s → Wide (unlisted_of s p)
unfolding unlisted_of
unlisted_wide s p w =
    wide_changed s s.heap p _ (head_after (timer_at s p).waiting) w w.heap_timed
    (record { uses_in = (w.each_timer p).uses_in; life_in = marked_timer s p w })

-- a pop of a close
popped_wide : (s : Set) → Wide s → Wide (popped_of s)
unfolding popped_of
popped_wide s w =
    let p = (entry_at s.heap 0).place.0 in
    wide_changed s (pop_sound s.heap).state p _ s.first w (popped_timed s.heap w.heap_timed)
    (record { uses_in = (w.each_timer p).uses_in; life_in = marked_timer s p w })

-- THE WALKS

-- a drain
pub drained_wide : (s : Set) → Wide s → Wide (drained_of s)
drained_wide = drain_walk Wide settled_wide

-- an advance
pub advanced_wide : (s : Set) (N : ℕ) (l : List ℕ) → Wide s → Wide (advanced_of s N l).set
advanced_wide = advance_walk Wide rung_wide

-- a close
pub closed_wide : (s : Set) → Wide s → Wide (closed_of s)
closed_wide = close_walk Wide unlisted_wide popped_wide (λ s w. record { heap_timed = w.heap_timed; each_timer = w.each_timer })
