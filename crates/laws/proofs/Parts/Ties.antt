-- What ties the places of a set to its heap, told by slots: a slot that a timer names holds an entry for its place, and each entry
-- is in range. That holds in the middle of a close too. A sound set besides has each entry's place name the entry's slot.
-- Assumes nothing.
use mathlib.Core.Path.{◌≡◌, ◌∙◌, ap, subst}
use mathlib.Core.Bool.{Bool, true, false}
use mathlib.Core.Option.{some}
use Prim.Native.Nat.{ℕ, ◌<◌, ◌^◌}
use lib.ListN.{length}
use Rattle.std.specs.Prelude.{Some, None}
use Rattle.theory.specs.Chain.{chain_okb}
use Rattle.heap.specs.Capacity.{cap}
use Rattle.heap.specs.declared.Slot.{Slot}
use Rattle.heap.specs.declared.Entry.{Entry}
use Rattle.heap.specs.Rules.{entry_at, slot_at}
use Rattle.heap.specs.Lookup.{lookup}
use Rattle.heap.specs.Sound as Heap
use Rattle.heap.proofs.Slots.Slab.{sound_slab}
use Rattle.heap.proofs.Slots.Lookup.{lookup_full, lookup_state, lookup_at, lookup_some}
use Rattle.word.specs.Rules.{invalid_in}
use Rattle.state.specs.declared.Life.TheVariants.{Free, Live, Cancelled, Retired}
use Rattle.state.specs.declared.Timer.{Timer}
use Rattle.state.specs.declared.Set.{Set}
use Rattle.state.specs.State.{timer_at, is_waiting, head_of}
use Rattle.state.specs.Faults.{waits_at, after_at}
use Rattle.state.specs.Sound.{Unused, Sound}

-- the slots that the timers name, and the entries' ranges
pub record Tied (s : Set) : Type 0 where
  pub timers_long : length s.timers ≡ cap
  pub heap_sound : Heap.Sound s.heap
  pub names : (p : ℕ) (q : Slot) → p < cap → (timer_at s p).held ≡ Some q
      → (e : Entry) × (lookup s.heap q.0 ≡ some e) × (e.place.0 ≡ p)
  pub ranges : (k : ℕ) (e : Entry) → lookup s.heap k ≡ some e → (e.place.0 < cap) × (e.generation < 2 ^ 30)

-- each entry's place names the entry's slot
abbrev pub Owned : Set → Type 0
Owned s = (k : ℕ) (e : Entry) → lookup s.heap k ≡ some e → (timer_at s e.place.0).held ≡ Some e.slot

-- the list holds exactly the waiting timers, each once
abbrev pub Listed : Set → Type 0
Listed s = chain_okb (waits_at s) (after_at s) cap (head_of s.first) ≡ true

-- what a sound set says of one place by itself
pub record Fine (closed : Bool) (t : Timer) : Type 0 where
  pub free_unused : t.life ≡ Free → Unused t
  pub retired_unused : t.life ≡ Retired → Unused t
  pub live_unmarked : (w d : ℕ) → closed ≡ false → t.life ≡ Live w d → invalid_in w ≡ false
  pub cancelled_unmarked : (w : ℕ) → closed ≡ false → t.life ≡ Cancelled w → invalid_in w ≡ false
  pub cancelled_waits : (w : ℕ) → closed ≡ false → t.life ≡ Cancelled w → is_waiting t.waiting ≡ true

module _ (s : Set) (ok : Sound s) where
  -- a sound set is tied to its heap
  pub sound_tied : Tied s
  sound_tied = record {
    timers_long = ok.timers_long;
    heap_sound = ok.heap_sound;
    names = λ p q b e. let o = ok.slot_own p q b e in
        (entry_at s.heap o.where_it_stands.0, lookup_full s.heap q.0 o.where_it_stands o.made o.full, o.own);
    ranges = λ k e l. let r = lookup_some s.heap (sound_slab s.heap ok.heap_sound) k e l in
        subst (λ (x : Entry). (x.place.0 < cap) × (x.generation < 2 ^ 30)) r.2 (ok.entry_place r.0 r.1, ok.generations r.0 r.1);
  }

  -- each entry's place names its slot
  pub sound_owned : Owned s
  sound_owned k e l =
      let r = lookup_some s.heap (sound_slab s.heap ok.heap_sound) k e l in
      subst (λ (x : Entry). (timer_at s x.place.0).held ≡ Some x.slot) r.2 (ok.entry_own r.0 r.1)

  -- and each place is fine by itself
  pub sound_fine : (p : ℕ) → p < cap → Fine s.closed (timer_at s p)
  sound_fine p b = record {
    free_unused = ok.free_unused p b;
    retired_unused = ok.retired_unused p b;
    live_unmarked = λ w d. ok.live_unmarked p w d b;
    cancelled_unmarked = λ w. ok.cancelled_unmarked p w b;
    cancelled_waits = λ w. ok.cancelled_waits p w b;
  }

-- together they make a sound set
pub tied_sound : (s : Set) → Tied s → Owned s → Listed s → ((p : ℕ) → p < cap → Fine s.closed (timer_at s p))
    → (s.closed ≡ true → s.first ≡ None) → (s.closed ≡ true → s.heap.len ≡ 0) → Sound s
tied_sound s t o l f first_none none_left =
    let slab = sound_slab s.heap t.heap_sound in
    record {
      timers_long = t.timers_long;
      heap_sound = t.heap_sound;
      listed = l;
      slot_own = λ p q b e. let n = t.names p q b e in
          let w = lookup_state s.heap q.0 n.0 n.1 in
          record { made = w.1; where_it_stands = w.0; full = w.2; own = ap (λ (x : Entry). x.place.0) w.3 ∙ n.2 };
      entry_place = λ i b. (t.ranges (slot_at s.heap i) (entry_at s.heap i) (lookup_at s.heap slab i b)).0;
      entry_own = λ i b. o (slot_at s.heap i) (entry_at s.heap i) (lookup_at s.heap slab i b);
      generations = λ i b. (t.ranges (slot_at s.heap i) (entry_at s.heap i) (lookup_at s.heap slab i b)).1;
      free_unused = λ p b. (f p b).free_unused;
      retired_unused = λ p b. (f p b).retired_unused;
      live_unmarked = λ p w d b. (f p b).live_unmarked w d;
      cancelled_unmarked = λ p w b. (f p b).cancelled_unmarked w;
      list_empty = first_none;
      heap_empty = none_left;
      cancelled_waits = λ p w b. (f p b).cancelled_waits w;
    }
