-- One pop, whose timer forgets its slot: of the entries the head alone goes, and of the timers only the head's changes. So what ties
-- the places to the heap holds after it as before.
-- Assumes nothing.
use mathlib.Core.Path.{◌≡◌, sym, ◌∙◌, ap}
use mathlib.Core.Bool.{◌&&◌}
use mathlib.Core.Option.{some}
use Prim.Native.Nat.{ℕ, ◌-◌, ◌<◌}
use native.Mathlib.Omega.{arith}
use lib.Dec.{ltb}
use lib.ListN.{length-set}
use lib.Seq.{get_or-set_other}
use Rattle.std.specs.Prelude.{Option, Some, None}
use Rattle.theory.proofs.Tests.{none_some}
use Rattle.theory.proofs.Stores.{set_all, sees}
use Rattle.theory.proofs.ChainChange.{chain_same}
use Rattle.refusals.specs.Answer.{Outcome}
use Rattle.heap.specs.Capacity.{cap}
use Rattle.heap.specs.declared.Slot.{Slot}
use Rattle.heap.specs.declared.Entry.{Entry}
use Rattle.heap.specs.declared.Heap.{Heap}
use Rattle.heap.specs.Rules.{entry_at, slot_at}
use Rattle.heap.specs.Lookup.{lookup}
use Rattle.heap.specs.Slab.{Slab}
use Rattle.heap.specs.Calls.{Off, pop_sound}
use Rattle.heap.proofs.Slots.Slab.{sound_slab}
use Rattle.heap.proofs.Slots.Kept.{pop_head, remove_len}
use Rattle.heap.proofs.Soundness.SoundKept.{pop_sound_lem}
use Rattle.heap.proofs.Slots.Lookup.{lookup_head, lookup_some}
use Rattle.heap.proofs.Slots.BySlot.{pop_gone, pop_other}
use Rattle.state.specs.declared.Waiting.{Waiting}
use Rattle.state.specs.declared.Timer.{Timer}
use Rattle.state.specs.declared.Set.{Set}
use Rattle.state.specs.State.{no_timer, timer_at, is_waiting, next_in, head_of}
use Rattle.state.specs.Faults.{waits_at, after_at}
use Rattle.moves.specs.Rules.{with_timer, with_heap}
use Rattle.laws.proofs.Parts.OpenSlots.{nothing_at}
use Rattle.laws.proofs.Parts.Ties.{Tied, Owned, Listed}

-- a pop of a heap that is not empty takes one entry
pub pop_len : (h : Heap) → Slab h → 0 < h.len → (pop_sound h).state.len ≡ h.len - 1
pop_len h s b =
    ap (λ (o : Outcome Heap Off). o.state.len) (pop_head h s b)
    ∙ remove_len h s (entry_at h 0).slot (record { 0 = 0 }) (s.forth 0 b).0 (s.forth 0 b).1

-- a set with its head popped, and another timer at the head's place
abbrev pub headless : Set → Timer → Set
headless s t = with_timer (with_heap s (pop_sound s.heap).state) (entry_at s.heap 0).place.0 t

-- an entry that a pop leaves stood there before, and in another slot than the head's
pop_left : (h : Heap) → Slab h → 0 < h.len → (k : ℕ) (e : Entry) → lookup (pop_sound h).state k ≡ some e
    → (k ≡ slot_at h 0 → ⊥) × (lookup h k ≡ some e)
pop_left h s b k e l =
    let n : k ≡ slot_at h 0 → ⊥ = λ x. none_some (ap (lookup (pop_sound h).state) x ∙ pop_gone h s b) l in
    (n, sym (pop_other h s b k n) ∙ l)

-- a place names one slot
one_slot : {x : Option Slot} {q r : Slot} → x ≡ Some q → x ≡ Some r → q.0 ≡ r.0
one_slot {q = q} {r = r} a b = let e : q ≡ r = cc in ap (λ (y : Slot). y.0) e

module _ (s : Set) (ties : Tied s) (b : 0 < s.heap.len) (t : Timer) where
  slab : Slab s.heap
  slab = sound_slab s.heap ties.heap_sound

  -- the head's place is one of the set's
  pub head_place : (entry_at s.heap 0).place.0 < cap
  head_place = (ties.ranges (slot_at s.heap 0) (entry_at s.heap 0) (lookup_head s.heap slab b)).0

  -- what the new timer has at the head's place, and every timer at another place, every timer has
  pub headless_all : (P : ℕ → Timer → Type 0) → P (entry_at s.heap 0).place.0 t
      → ((p : ℕ) → (p ≡ (entry_at s.heap 0).place.0 → ⊥) → P p (timer_at s p)) → (p : ℕ) → P p (timer_at (headless s t) p)
  headless_all P here there p =
      set_all no_timer s.timers (entry_at s.heap 0).place.0 t (omega (arith, head_place, ties.timers_long)) P here there p

  -- a timer that forgets its slot leaves the set tied
  pub headless_tied : t.held ≡ None → Tied (headless s t)
  headless_tied bare = record {
    timers_long = length-set s.timers (entry_at s.heap 0).place.0 t ∙ ties.timers_long;
    heap_sound = pop_sound_lem s.heap ties.heap_sound;
    names = λ p q c e. headless_all
        (λ p y. (q : Slot) → p < cap → y.held ≡ Some q → (e : Entry) × (lookup (pop_sound s.heap).state q.0 ≡ some e) × (e.place.0 ≡ p))
        (λ q c e. absurd (nothing_at bare e))
        (λ p n q c e. let r = ties.names p q c e in
        (r.0, pop_other s.heap slab b q.0 (λ x. n (sym r.2 ∙ ap (λ (y : Entry). y.place.0) (same p q r.0 r.1 x))) ∙ r.1, r.2))
        p q c e;
    ranges = λ k e l. ties.ranges k e (pop_left s.heap slab b k e l).1;
  }
    where
      same : (p : ℕ) (q : Slot) (e : Entry) → lookup s.heap q.0 ≡ some e → q.0 ≡ slot_at s.heap 0 → e ≡ entry_at s.heap 0
      same p q e l x =
          let m : lookup s.heap q.0 ≡ some (entry_at s.heap 0) = ap (lookup s.heap) x ∙ lookup_head s.heap slab b in
          cc

  -- where each entry's place named the entry's slot, those of the entries left still do
  pub headless_owned : Owned s → Owned (headless s t)
  headless_owned o k e l =
      let w = pop_left s.heap slab b k e l in
      let h = o k e w.1 in
      let g = o (slot_at s.heap 0) (entry_at s.heap 0) (lookup_head s.heap slab b) in
      let n : e.place.0 ≡ (entry_at s.heap 0).place.0 → ⊥ = λ x.
      w.0 (sym (lookup_some s.heap slab k e w.1).3 ∙ one_slot h (ap (λ (i : ℕ). (timer_at s i).held) x ∙ g)) in
      ap (λ (y : Timer). y.held) (get_or-set_other s.timers (entry_at s.heap 0).place.0 e.place.0 t no_timer n) ∙ h

  -- a timer that stays in the list, or out of it, leaves the list as it was
  pub headless_listed : t.waiting ≡ (timer_at s (entry_at s.heap 0).place.0).waiting → Listed s → Listed (headless s t)
  unfolding waits_at after_at
  headless_listed e l = sym (chain_same (waits_at s) (waits_at (headless s t)) (after_at s) (after_at (headless s t))
      (λ y. ap (λ (w : Waiting). ltb y cap && is_waiting w) (seen y)) (λ y _. ap next_in (seen y)) cap (head_of s.first)) ∙ l
    where
      seen : (y : ℕ) → (timer_at s y).waiting ≡ (timer_at (headless s t) y).waiting
      seen = sees (λ (x : Timer). x.waiting) no_timer s.timers (entry_at s.heap 0).place.0 t e
