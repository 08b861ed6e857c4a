-- The entry of a place under the pops of an advance: the head is the least of all the entries, a pop takes the entry and rings the
-- timer of the head's place, and every other place keeps its entry and its timer.
-- Assumes nothing.
use mathlib.Core.Path.{◌≡◌, refl, sym, ◌∙◌, ap, subst}
use mathlib.Core.Bool.{Bool, true, false, ◌&&◌}
use mathlib.Core.Option.{Option, none, some}
use mathlib.Core.List.{List}
use Prim.Native.Nat.{ℕ, ◌≤◌, ◌<◌}
use native.Mathlib.Omega.{arith}
use lib.Dec.{ltb, leb}
use lib.Seq.{get_or-set_same, get_or-set_other}
use borrow.Author.Tests.{lt-ltb, leb-true, leb-false}
use Rattle.std.specs.Prelude as Code
use Rattle.std.specs.Prelude.{Some, None}
use Rattle.theory.proofs.Tests.{none_some, and_right}
use Rattle.theory.proofs.Stores.{sees}
use Rattle.heap.specs.Capacity.{cap}
use Rattle.heap.specs.declared.Slot.{Slot}
use Rattle.heap.specs.declared.Entry.{Entry}
use Rattle.heap.specs.declared.Heap.{Heap}
use Rattle.heap.specs.Rules.{entry_at}
use Rattle.heap.specs.Lookup.{lookup}
use Rattle.heap.specs.Slab.{Slab}
use Rattle.heap.specs.Calls.{pop_sound}
use Rattle.heap.proofs.Slots.Slab.{sound_slab}
use Rattle.heap.proofs.Slots.Lookup.{lookup_head, lookup_some}
use Rattle.heap.proofs.AsList.Ordered.{head_key}
use Rattle.heap.proofs.Slots.BySlot.{pop_other}
use Rattle.state.specs.declared.Timer.{Timer}
use Rattle.state.specs.declared.Set.{Set}
use Rattle.state.specs.State.{no_timer, timer_at, is_waiting}
use Rattle.state.specs.Sound.{Sound}
use Rattle.moves.specs.Rules.{Ring, due_by, rung_timer, rung_of, advanced_of}
use Rattle.laws.specs.EntryOf.{held_entry, entry_of, waiting}
use Rattle.laws.proofs.Parts.Ties.{sound_tied}
use Rattle.laws.proofs.Soundness.AdvancedSound.{ring_by, from_start}

-- a place that has an entry names a slot, in which the entry stands
held_slot : (h : Heap) (x : Code.Option Slot) (e : Entry) → held_entry h x ≡ some e → (q : Slot) × (lookup h q.0 ≡ some e)
held_slot h None e l = absurd (none_some refl l)
held_slot h (Some q) e l = (q, l)

-- a head that is due has its deadline at or before the reading
pub due_head : (h : Heap) (N : ℕ) → due_by h N ≡ true → (entry_at h 0).at ≤ N
unfolding due_by
due_head h N e = leb-true (entry_at h 0).at N (and_right (ltb 0 h.len) (leb (entry_at h 0).at N) e)

-- a head that is there and is not due has it after the reading
head_late : (h : Heap) (N : ℕ) → 0 < h.len → due_by h N ≡ false → N < (entry_at h 0).at
unfolding due_by
head_late h N b e =
    leb-false (entry_at h 0).at N (sym (ap (λ (c : Bool). c && leb (entry_at h 0).at N) (lt-ltb 0 h.len b)) ∙ e)

module _ (s : Set) (ok : Sound s) where
  slab : Slab s.heap
  slab = sound_slab s.heap ok.heap_sound

  -- the entry of the head's place is the head
  pub head_entry : 0 < s.heap.len → entry_of s (entry_at s.heap 0).place.0 ≡ some (entry_at s.heap 0)
  head_entry b = ap (held_entry s.heap) (ok.entry_own 0 b) ∙ lookup_head s.heap slab b

  -- the entry of any place is no earlier than the head
  pub head_least : (x : ℕ) (e : Entry) → x < cap → entry_of s x ≡ some e → (0 < s.heap.len) × ((entry_at s.heap 0).at ≤ e.at)
  head_least x e _ l =
      let q = held_slot s.heap (timer_at s x).held e l in
      let p = lookup_some s.heap slab q.0.0 e q.1 in
      (omega (arith, p.1), subst (λ (y : Entry). (entry_at s.heap 0).at ≤ y.at) p.2 (head_key s.heap ok.heap_sound.ordered p.0 p.1))

  -- where the heap is empty no place has an entry
  pub no_entry_lem : s.heap.len ≡ 0 → (x : ℕ) → x < cap → entry_of s x ≡ none
  no_entry_lem z x b = go (entry_of s x) refl
    where
      go : (o : Option Entry) → entry_of s x ≡ o → o ≡ none
      go none e = refl
      go (some y) e = absurd (omega (arith, (head_least x y b e).0))

  -- where the head is not due, no place's entry is
  pub not_due : (N : ℕ) → due_by s.heap N ≡ false → (x : ℕ) (e : Entry) → x < cap → entry_of s x ≡ some e → N < e.at
  not_due N d x e b l =
      let h = head_least x e b l in
      omega (arith, h.1, head_late s.heap N h.0 d)

  -- after a pop, what stood in the slot of a place that is not the head's stands there still
  pop_held : 0 < s.heap.len → (x : ℕ) → x < cap → (x ≡ (entry_at s.heap 0).place.0 → ⊥)
      → held_entry (pop_sound s.heap).state (timer_at s x).held ≡ entry_of s x
  pop_held b x c n = go (timer_at s x).held refl
    where
      go : (y : Code.Option Slot) → (timer_at s x).held ≡ y → held_entry (pop_sound s.heap).state y ≡ held_entry s.heap y
      go None e = refl
      go (Some q) e =
          let w = (sound_tied s ok).names x q c e in
          pop_other s.heap slab b q.0 (λ z.
          let m : lookup s.heap q.0 ≡ some (entry_at s.heap 0) = ap (lookup s.heap) z ∙ lookup_head s.heap slab b in
          let t : w.0 ≡ entry_at s.heap 0 = cc (m, w.1) in
          n (sym w.2 ∙ ap (λ (y : Entry). y.place.0) t))

module _ (r : Ring) (ok : Sound r.set) (b : 0 < r.set.heap.len) where
  -- a pop leaves the timer of every place but the head's
  pub rung_timer_other : (x : ℕ) → (x ≡ (entry_at r.set.heap 0).place.0 → ⊥) → timer_at (rung_of r).set x ≡ timer_at r.set x
  unfolding rung_of
  rung_timer_other x n = get_or-set_other r.set.timers (entry_at r.set.heap 0).place.0 x _ no_timer n

  -- the timer of the head's place rings
  pub rung_timer_head : timer_at (rung_of r).set (entry_at r.set.heap 0).place.0
      ≡ rung_timer (entry_at r.set.heap 0).generation (timer_at r.set (entry_at r.set.heap 0).place.0)
  unfolding rung_of
  rung_timer_head =
      get_or-set_same r.set.timers (entry_at r.set.heap 0).place.0 _ no_timer (omega (arith, ok.entry_place 0 b, ok.timers_long))

  -- a pop leaves the entry of every place but the head's
  pub rung_entry_other : (x : ℕ) → x < cap → (x ≡ (entry_at r.set.heap 0).place.0 → ⊥) → entry_of (rung_of r).set x ≡ entry_of r.set x
  unfolding rung_of
  rung_entry_other x c n =
      ap (λ (t : Timer). held_entry (pop_sound r.set.heap).state t.held) (rung_timer_other x n) ∙ pop_held r.set ok b x c n

  -- the head's place has no entry then
  pub rung_entry_head : entry_of (rung_of r).set (entry_at r.set.heap 0).place.0 ≡ none
  unfolding rung_of
  rung_entry_head = ap (λ (t : Timer). held_entry (pop_sound r.set.heap).state t.held) rung_timer_head

-- an advance lets every timer wait that waited, and no other
pub advanced_waiting : (s : Set) (N : ℕ) (l : List ℕ) (x : ℕ) → waiting (advanced_of s N l).set x ≡ waiting s x
unfolding advanced_of rung_of
advanced_waiting s N l x =
    ring_by (λ r. waiting r.set x ≡ waiting s x) N
    (λ r _ h. sym (sees (λ (t : Timer). is_waiting t.waiting) no_timer r.set.timers (entry_at r.set.heap 0).place.0 _ refl x) ∙ h) s.heap.len (from_start s l) refl
