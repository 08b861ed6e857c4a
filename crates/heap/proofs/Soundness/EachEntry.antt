-- What every entry in use has, a push keeps where its own entry has it, and a removal and a pop keep it in any case.
-- Assumes nothing.
use mathlib.Core.Path.{◌≡◌, refl}
use Prim.Native.Nat.{ℕ, ◌-◌, ◌<◌, ◌≤◌}
use native.Mathlib.Omega.{arith}
use lib.ListN.{length, set, length-set}
use Rattle.theory.proofs.Tests.{ref_lt, ref_eq, cond-ref}
use Rattle.theory.proofs.Stores.{set_all}
use Rattle.refusals.specs.Answer.{Outcome}
use Rattle.heap.specs.Capacity.{cap}
use Rattle.heap.specs.declared.Slot.{Slot}
use Rattle.heap.specs.declared.Pos.{Pos}
use Rattle.heap.specs.declared.Place.{Place}
use Rattle.heap.specs.declared.Entry.{Entry}
use Rattle.heap.specs.declared.SlotState.{SlotState}
use Rattle.heap.specs.declared.SlotState.TheVariants.{Full, Empty}
use Rattle.heap.specs.declared.Heap.{Heap}
use Rattle.heap.specs.Rules.{no_entry, entry_at, state_at, put_at, swap_at, taken_of, added_of, new_entry, pushed_of, vacated_of, removed_of}
use Rattle.heap.specs.Sound.{Sound}
use Rattle.heap.specs.Calls.{Off, remove_by, push_sound, remove_sound, pop_sound}
use Rattle.heap.proofs.Walking.Steps.{Swaps, push_by, remove_by_lem}
use Rattle.heap.proofs.Soundness.SoundFacts.{full_back}

module _ (P : Entry → Type 0) where
  -- every entry in use has the property
  abbrev pub Each : Heap → Type 0
  Each h = (i : ℕ) → i < h.len → P (entry_at h i)

  -- and there is room for as many entries as there are
  record Roomy (h : Heap) : Type 0 where
    pub each : Each h
    pub room : h.len ≤ length h.entries

  -- two entries change places
  swaps_roomy : Swaps Roomy
  unfolding swap_at put_at
  swaps_roomy g i j r a b =
      let c : i < length g.entries = omega (arith, r.room) in
      let l = set g.entries i (entry_at g j) in
      let d : j < length l = omega (arith, r.room, length-set g.entries i (entry_at g j)) in
      record {
        each =
            set_all no_entry l j (entry_at g i) d (λ (k : ℕ) (e : Entry). k < g.len → P e) (λ _. r.each i a)
            (λ k _. set_all no_entry g.entries i (entry_at g j) c (λ (m : ℕ) (e : Entry). m < g.len → P e) (λ _. r.each j b) (λ m _. r.each m) k);
        room = omega (arith, r.room, length-set l j (entry_at g i), length-set g.entries i (entry_at g j));
      }

  module _ (h : Heap) (all : Each h) where
    pushed_each : (at g : ℕ) (place : Place) → h.len < length h.entries → P (new_entry h at g place) → Each (pushed_of h at g place).heap
    unfolding added_of taken_of put_at
    pushed_each at g place more new =
        let e = new_entry h at g place in
        (push_by Roomy swaps_roomy h at g place
        (record {
          each =
              set_all no_entry h.entries h.len e more (λ (k : ℕ) (x : Entry). k < (added_of (taken_of h) e).len → P x) (λ _. new)
              (λ k n b. all k (omega arith));
          room = omega (arith, length-set h.entries h.len e);
        })
        ).each

    removed_each : (t : Slot) (p : Pos) → p.0 < h.len → h.len ≤ length h.entries → Each (removed_of h t p).heap
    unfolding vacated_of put_at
    removed_each t p b fits =
        let last = entry_at h (h.len - 1) in
        (remove_by_lem Roomy swaps_roomy h t p b
        (λ _. record { each = λ k c. all k (omega arith); room = omega arith })
        (λ _. record {
          each =
              set_all no_entry h.entries p.0 last (omega arith) (λ (k : ℕ) (e : Entry). k < h.len - 1 → P e) (λ _. all (h.len - 1) (omega arith))
              (λ k _ c. all k (omega arith));
          room = omega (arith, length-set h.entries p.0 last);
        })
        ).each

    -- a push onto a sound heap, refused or not
    pub push_each : Sound h → (at g : ℕ) (place : Place) → P (new_entry h at g place) → Each (push_sound h at g place).state
    unfolding push_sound
    push_each s at g place new =
        cond-ref (λ (o : Outcome Heap (Slot × ℕ)). Each o.state) (ref_lt h.len cap)
        (λ room. pushed_each at g place (omega (arith, s.entries_long)) new)
        (λ full. all)

    removed_by_lem : Sound h → (t : Slot) → t.0 < h.made → (x : SlotState) → state_at h t.0 ≡ x → Each (remove_by h t x).state
    removed_by_lem s t b (Full p) e = removed_each t p (full_back h s t.0 p b e).0 (omega (arith, s.len_in, s.entries_long))
    removed_by_lem s t b (Empty n) e = all

    -- a removal from it, of whatever slot
    pub remove_each : Sound h → (t : Slot) → Each (remove_sound h t).state
    unfolding remove_sound
    remove_each s t =
        cond-ref (λ (o : Outcome Heap Off). Each o.state) (ref_lt t.0 h.made)
        (λ b. removed_by_lem s t b (state_at h t.0) refl)
        (λ n. all)

    -- a pop
    pub pop_each : Sound h → Each (pop_sound h).state
    unfolding pop_sound
    pop_each s =
        cond-ref (λ (o : Outcome Heap Off). Each o.state) (ref_eq h.len 0) (λ e. all) (λ n. remove_each s (entry_at h 0).slot)
