-- An open set is sound exactly where its heap and places name each other, its list is right and each place is right by itself. So
-- a change of one place, with the heap and the list, is shown in those three parts.
-- Assumes nothing.
use mathlib.Core.Path.{◌≡◌, ◌∙◌, ap, subst}
use mathlib.Core.Bool.{true, false}
use Prim.Native.Nat.{ℕ, ◌<◌}
use native.Mathlib.Omega.{arith}
use lib.ListN.{length, length-set}
use Rattle.std.specs.Prelude.{Option, Some}
use Rattle.heap.specs.declared.Place.{Place}
use Rattle.theory.specs.Chain.{chain_okb}
use Rattle.theory.proofs.Tests.{true_false}
use Rattle.theory.proofs.Stores.{set_all}
use Rattle.heap.specs.Capacity.{cap}
use Rattle.heap.specs.declared.Slot.{Slot}
use Rattle.heap.specs.declared.Entry.{Entry}
use Rattle.heap.specs.declared.Heap.{Heap}
use Rattle.heap.specs.Rules.{entry_at}
use Rattle.heap.proofs.Slots.Slab.{sound_slab}
use Rattle.heap.proofs.Slots.Lookup.{lookup_full, lookup_state, lookup_some}
use Rattle.state.specs.declared.Timer.{Timer}
use Rattle.state.specs.declared.Set.{Set}
use Rattle.state.specs.State.{no_timer, timer_at, head_of}
use Rattle.state.specs.Faults.{waits_at, after_at}
use Rattle.state.specs.Sound.{Owns, Sound}
use Rattle.laws.proofs.Parts.OpenSlots.{Stands, Fits, Slots}
use Rattle.laws.proofs.Parts.Room.{fits_at}
use Rattle.laws.proofs.Parts.Lives.{Lives}
use Rattle.laws.proofs.Parts.Change.{held_at, changed}

-- the parts of a sound set that is open
pub record Open (s : Set) : Type 0 where
  pub not_closed : s.closed ≡ false
  pub timers_long : length s.timers ≡ cap
  pub slots : Slots s.heap (held_at s)
  pub listed : chain_okb (waits_at s) (after_at s) cap (head_of s.first) ≡ true
  pub lives : (p : ℕ) → p < cap → Lives (timer_at s p)

module _ (s : Set) (o : Sound s) where
  slots_own : (p : ℕ) (q : Slot) → p < cap → held_at s p ≡ Some q → Stands s.heap q.0 p
  slots_own p q b e =
      let w = o.slot_own p q b e in
      record {
        it = entry_at s.heap w.where_it_stands.0;
        found = lookup_full s.heap q.0 w.where_it_stands w.made w.full;
        mine = w.own;
      }

  sound_slots : Slots s.heap (held_at s)
  sound_slots = record {
    sound = o.heap_sound;
    own = slots_own;
    fits = λ k e l.
        let r = lookup_some s.heap (sound_slab s.heap o.heap_sound) k e l in
        subst (λ (x : Entry). Fits (held_at s) x) r.2
        (record { place_in = o.entry_place r.0 r.1; named = o.entry_own r.0 r.1; young = o.generations r.0 r.1 });
  }

  -- a sound set that is open has the parts
  pub sound_open : s.closed ≡ false → Open s
  sound_open c = record {
    not_closed = c;
    timers_long = o.timers_long;
    slots = sound_slots;
    listed = o.listed;
    lives = λ p b. record {
      free_unused = o.free_unused p b;
      retired_unused = o.retired_unused p b;
      live_unmarked = λ w d e. o.live_unmarked p w d b c e;
      cancelled_unmarked = λ w e. o.cancelled_unmarked p w b c e;
      cancelled_waits = λ w e. o.cancelled_waits p w b c e;
    };
  }

module _ (s : Set) (o : Open s) where
  open_owns : (p : ℕ) (q : Slot) → p < cap → held_at s p ≡ Some q → Owns s p q
  open_owns p q b e =
      let w = o.slots.own p q b e in
      let r = lookup_state s.heap q.0 w.it w.found in
      record { made = r.1; where_it_stands = r.0; full = r.2; own = ap (λ (x : Entry). x.place.0) r.3 ∙ w.mine }

  -- the parts make a set sound
  pub open_sound : Sound s
  open_sound = record {
    timers_long = o.timers_long;
    heap_sound = o.slots.sound;
    listed = o.listed;
    slot_own = open_owns;
    entry_place = λ i b. (fits_at s.heap (held_at s) o.slots i b).place_in;
    entry_own = λ i b. (fits_at s.heap (held_at s) o.slots i b).named;
    generations = λ i b. (fits_at s.heap (held_at s) o.slots i b).young;
    free_unused = λ p b. (o.lives p b).free_unused;
    retired_unused = λ p b. (o.lives p b).retired_unused;
    live_unmarked = λ p w d b _ e. (o.lives p b).live_unmarked w d e;
    cancelled_unmarked = λ p w b _ e. (o.lives p b).cancelled_unmarked w e;
    list_empty = λ c. true_false c o.not_closed;
    heap_empty = λ c. true_false c o.not_closed;
    cancelled_waits = λ p w b _ e. (o.lives p b).cancelled_waits w e;
  }

module _ (s : Set) (h : Heap) (p : ℕ) (t : Timer) (f : Option Place) where
  -- the three parts make the changed set an open one
  pub open_changed : Open s → p < cap → Slots h (held_at (changed s h p t f)) → Lives t
      → chain_okb (waits_at (changed s h p t f)) (after_at (changed s h p t f)) cap (head_of f) ≡ true → Open (changed s h p t f)
  open_changed o b slots lives listed =
      let l : p < length s.timers = omega (arith, o.timers_long) in
      record {
        not_closed = o.not_closed;
        timers_long = length-set s.timers p t ∙ o.timers_long;
        slots = slots;
        listed = listed;
        lives = set_all no_timer s.timers p t l (λ (y : ℕ) (u : Timer). y < cap → Lives u) (λ _. lives) (λ y _. o.lives y);
      }
