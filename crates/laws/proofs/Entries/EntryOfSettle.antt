-- What one turn of a drain does to the entries and the timers: the timer taken off the list, if it is live, has an entry with its
-- deadline and its generation, and every other place keeps its entry and its timer.
-- Assumes nothing.
use mathlib.Core.Path.{◌≡◌, refl, sym, ◌∙◌, ap}
use mathlib.Core.Bool.{false}
use Prim.Native.Nat.{ℕ, ◌<◌}
use native.Mathlib.Decide.{ℕ_discrete}
use native.Mathlib.Omega.{arith}
use lib.ListN.{length}
use Rattle.std.specs.Prelude.{Option, Some, None}
use Rattle.theory.proofs.Update.{upd_other}
use Rattle.theory.proofs.Tests.{none_some}
use Rattle.theory.proofs.Stores.{sees_other, sees_here}
use Rattle.refusals.specs.Answer.{Outcome}
use Rattle.heap.specs.Capacity.{cap}
use Rattle.heap.specs.declared.Slot.{Slot}
use Rattle.heap.specs.declared.Heap.{Heap}
use Rattle.heap.specs.Rules.{new_entry}
use Rattle.heap.specs.Lookup.{lookup}
use Rattle.heap.specs.Calls.{push_sound}
use Rattle.heap.specs.Slab.{Slab}
use Rattle.heap.proofs.Slots.Slab.{sound_slab}
use Rattle.heap.proofs.Slots.BySlot.{free_none, push_new, push_other, remove_found}
use Rattle.word.specs.Rules.{generation_of}
use Rattle.state.specs.declared.Life.{Life}
use Rattle.state.specs.declared.Life.TheVariants.{Free, Live, Cancelled, Retired}
use Rattle.state.specs.declared.Timer.{Timer}
use Rattle.state.specs.declared.Set.{Set}
use Rattle.state.specs.State.{no_timer, timer_at, is_waiting, head_after}
use Rattle.moves.specs.Rules.{with_first, dropped_of, held_by, freed_of, settled_by, settled_of}
use Rattle.laws.specs.Words.{Words}
use Rattle.laws.specs.EntryOf.{held_entry, entry_of, waiting, Armed}
use Rattle.laws.proofs.Parts.OpenSlots.{stands_one, push_gives_lem}
use Rattle.laws.proofs.Parts.Freed.{freed_waiting}
use Rattle.laws.proofs.Parts.Change.{held_at}
use Rattle.laws.proofs.Parts.OpenSet.{Open}
use Rattle.laws.proofs.Soundness.Settle.{first_in, less, less_slots, less_room}

-- THE TIMERS

module _ (s : Set) (p : ℕ) where
  -- the set after the turn, by whose place p is
  abbrev after : Life → Set
  after l = settled_by (with_first s (head_after (timer_at s p).waiting)) p (timer_at s p) l

  -- the other places keep their timers
  pub settled_other : (x : ℕ) → (x ≡ p → ⊥) → timer_at (settled_of s p) x ≡ timer_at s x
  unfolding settled_of
  settled_other x n = go (timer_at s p).life
    where
      go : (l : Life) → timer_at (after l) x ≡ timer_at s x
      go Free = sym (sees_other (λ (t : Timer). t) no_timer s.timers p _ x n)
      go (Live w d) = sym (sees_other (λ (t : Timer). t) no_timer s.timers p _ x n)
      go (Cancelled w) = sym (sees_other (λ (t : Timer). t) no_timer s.timers p _ x n)
      go Retired = sym (sees_other (λ (t : Timer). t) no_timer s.timers p _ x n)

  module _ (long : length s.timers ≡ cap) (b : p < cap) where
    -- p is one of the set's places
    inside : p < length s.timers
    inside = omega arith

    -- the timer taken off the list stays live, if it is live
    pub settled_live : (w d : ℕ) → (timer_at s p).life ≡ Live w d → (timer_at (settled_of s p) p).life ≡ Live w d
    unfolding settled_of
    settled_live w d e = rw e (sees_here (λ (t : Timer). t.life) no_timer s.timers p _ inside)

    -- it waits no more
    pub settled_still : waiting (settled_of s p) p ≡ false
    unfolding settled_of
    settled_still = go (timer_at s p).life
      where
        go : (l : Life) → waiting (after l) p ≡ false
        go Free = sees_here (λ (t : Timer). is_waiting t.waiting) no_timer s.timers p _ inside
        go (Live w d) = sees_here (λ (t : Timer). is_waiting t.waiting) no_timer s.timers p _ inside
        go (Cancelled w) =
            sees_here (λ (t : Timer). is_waiting t.waiting) no_timer s.timers p (freed_of (timer_at s p).uses) inside
            ∙ freed_waiting (timer_at s p).uses
        go Retired = sees_here (λ (t : Timer). is_waiting t.waiting) no_timer s.timers p _ inside

-- THE ENTRIES

module _ (s : Set) (o : Open s) (words : Words s) (p : ℕ) (at : s.first ≡ Some (record { 0 = p })) where
  -- the heap without the entry of p
  abbrev left : Heap
  left = less s o words p at

  -- its slots and entries fit
  left_slab : Slab left
  left_slab = sound_slab left (less_slots s o words p at).sound

  module _ (x : ℕ) (b : x < cap) (n : x ≡ p → ⊥) where
    -- without the entry of p, another place has the entry that it had
    dropped_entry : held_entry left (held_at s x) ≡ entry_of s x
    dropped_entry = go (held_at s x) refl (held_at s p) refl
      where
        go : (y : Option Slot) → held_at s x ≡ y → (z : Option Slot) → held_at s p ≡ z → held_entry (dropped_of s.heap z) y ≡ held_entry s.heap y
        go None e z f = refl
        go (Some t) e None f = refl
        go (Some t) e (Some q) f =
            let mine = o.slots.own p q (first_in s o words p at) f in
            (remove_found s.heap (sound_slab s.heap o.slots.sound) q mine.it mine.found).3 t.0
            (λ k. n (stands_one s.heap t.0 q.0 x p (o.slots.own x t b e) mine k))

    -- a push then leaves it
    pushed_entry : (a g : ℕ) → held_entry (push_sound left a g (record { 0 = p })).state (held_at s x) ≡ held_entry left (held_at s x)
    pushed_entry a g = go (held_at s x) refl
      where
        go : (y : Option Slot) → held_at s x ≡ y → held_entry (push_sound left a g (record { 0 = p })).state y ≡ held_entry left y
        go None e = refl
        go (Some t) e =
            let it = (less_slots s o words p at).own x t b (upd_other ℕ_discrete (held_at s) p None x n ∙ e) in
            rw (push_gives_lem left a g p (less_room s o words p at))
            (push_other left left_slab a g (record { 0 = p }) (less_room s o words p at) t.0
            (λ k. none_some (free_none left left_slab) (ap (lookup left) (sym k) ∙ it.found)))

    -- the other places keep their entries
    pub settled_entry_other : entry_of (settled_of s p) x ≡ entry_of s x
    unfolding settled_of
    settled_entry_other =
        ap (λ (t : Timer). held_entry (settled_of s p).heap t.held) (settled_other s p x n) ∙ go (timer_at s p).life
      where
        go : (l : Life) → held_entry (after s p l).heap (held_at s x) ≡ entry_of s x
        go Free = refl
        go (Live w d) = pushed_entry d (generation_of w) ∙ dropped_entry
        go (Cancelled w) = dropped_entry
        go Retired = refl

  -- the timer taken off the list, if it is live, has an entry with its deadline and its generation
  pub settled_armed : (w d : ℕ) → (timer_at s p).life ≡ Live w d → Armed (entry_of (settled_of s p) p) d (generation_of w)
  unfolding settled_of
  settled_armed w d e = rw e (record {
    it = new_entry left d (generation_of w) (record { 0 = p });
    found =
        ap (held_entry _) (sees_here (λ (t : Timer). t.held) no_timer s.timers p _ (inside s p o.timers_long (first_in s o words p at)))
        ∙ ap (λ (r : Outcome Heap (Slot × ℕ)). held_entry r.state (held_by r.answer))
        (push_gives_lem left d (generation_of w) p (less_room s o words p at))
        ∙ push_new left left_slab d (generation_of w) (record { 0 = p }) (less_room s o words p at);
    same_at = refl;
    same_generation = refl;
  })
