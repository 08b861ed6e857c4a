-- An advance keeps a sound set sound, as each of its pops does; it goes on until the head is not due, and every pop takes one entry
-- and reports one timer at most.
-- Assumes nothing.
use mathlib.Core.Path.{◌≡◌, refl, ap}
use mathlib.Core.Bool.{Bool, true, false, cond, ◌&&◌}
use mathlib.Core.List.{List}
use Prim.Native.Nat.{ℕ, zero, suc, ◌+◌, ◌-◌, ◌≤◌, ◌<◌}
use native.Mathlib.Omega.{arith}
use lib.Dec.{leb}
use borrow.Author.Tests.{le-ltb}
use Rattle.heap.specs.declared.Heap.{Heap}
use Rattle.heap.specs.Rules.{entry_at}
use Rattle.heap.proofs.Slots.Slab.{sound_slab}
use Rattle.state.specs.declared.Set.{Set}
use Rattle.state.specs.State.{timer_at}
use Rattle.state.specs.Sound.{Sound}
use Rattle.moves.specs.Rules.{Ring, due_by, reports, rung_of, ring_from, advanced_of}
use Rattle.laws.specs.Advanced.{Counts}
use Rattle.laws.proofs.Soundness.Popping.{pop_len}
use Rattle.laws.proofs.Soundness.RungSound.{due_some, rung_sound}

-- what each pop of a due head keeps, a run of pops keeps
pub ring_by : (P : Ring → Type 0) (N : ℕ) → ((r : Ring) → due_by r.set.heap N ≡ true → P r → P (rung_of r))
    → (k : ℕ) (r : Ring) → P r → P (ring_from k r N)
unfolding ring_from
ring_by P N step zero r h = h
ring_by P N step (suc k) r h = go (due_by r.set.heap N) refl (ring_by P N step k (rung_of r))
  where
    go : (b : Bool) → due_by r.set.heap N ≡ b → (P (rung_of r) → P (ring_from k (rung_of r) N)) → P (cond b (ring_from k (rung_of r) N) r)
    go true e next = next (step r e h)
    go false e next = h

-- an advance before its first pop
abbrev pub from_start : Set → List ℕ → Ring
from_start s l = record { set = s; list = l; reported = 0; popped = 0 }

-- after any run of pops the set is sound
ring_sound : (k : ℕ) (r : Ring) (N : ℕ) → Sound r.set → Sound (ring_from k r N).set
ring_sound k r N = ring_by (λ x. Sound x.set) N (λ x e ok. rung_sound x ok (due_some x.set.heap N e)) k r

-- after an advance the set is sound
pub advanced_sound : (s : Set) (N : ℕ) (l : List ℕ) → Sound s → Sound (advanced_of s N l).set
unfolding advanced_of
advanced_sound s N l = ring_sound s.heap.len (from_start s l) N

-- an advance leaves the head of the list and the closed mark
pub advanced_keeps : (s : Set) (N : ℕ) (l : List ℕ) → ((advanced_of s N l).set.first ≡ s.first) × ((advanced_of s N l).set.closed ≡ s.closed)
unfolding advanced_of rung_of
advanced_keeps s N l =
    ring_by (λ x. (x.set.first ≡ s.first) × (x.set.closed ≡ s.closed)) N (λ x _ h. h) s.heap.len (from_start s l) (refl, refl)

-- a pop takes one entry
pub rung_len : (r : Ring) → Sound r.set → 0 < r.set.heap.len → (rung_of r).set.heap.len ≡ r.set.heap.len - 1
unfolding rung_of
rung_len r ok b = pop_len r.set.heap (sound_slab r.set.heap ok.heap_sound) b

-- of an empty heap nothing is due
empty_not_due : (h : Heap) (N : ℕ) → h.len ≡ 0 → due_by h N ≡ false
unfolding due_by
empty_not_due h N e = ap (λ (b : Bool). b && leb (entry_at h 0).at N) (le-ltb 0 h.len (omega arith))

-- after as many pops as there are entries the head is not due
ring_not_due : (k : ℕ) (r : Ring) (N : ℕ) → Sound r.set → r.set.heap.len ≤ k → due_by (ring_from k r N).set.heap N ≡ false
unfolding ring_from
ring_not_due zero r N ok b = empty_not_due r.set.heap N (omega arith)
ring_not_due (suc k) r N ok b = go (due_by r.set.heap N) refl (ring_not_due k (rung_of r) N)
  where
    go : (d : Bool) → due_by r.set.heap N ≡ d
        → (Sound (rung_of r).set → (rung_of r).set.heap.len ≤ k → due_by (ring_from k (rung_of r) N).set.heap N ≡ false)
        → due_by (cond d (ring_from k (rung_of r) N) r).set.heap N ≡ false
    go true e next =
        let c : 0 < r.set.heap.len = due_some r.set.heap N e in
        next (rung_sound r ok c) (omega (arith, rung_len r ok c))
    go false e next = e

-- after an advance the head is not due
pub advanced_not_due : (s : Set) (N : ℕ) (l : List ℕ) → Sound s → due_by (advanced_of s N l).set.heap N ≡ false
unfolding advanced_of
advanced_not_due s N l ok = ring_not_due s.heap.len (from_start s l) N ok (omega arith)

-- a pop keeps them
rung_counts : (n N : ℕ) (r : Ring) → due_by r.set.heap N ≡ true → Counts n r → Counts n (rung_of r)
unfolding rung_of
rung_counts n N r e c =
    let b : 0 < r.set.heap.len = due_some r.set.heap N e in
    let l = rung_len r c.set_sound b in
    record {
      set_sound = rung_sound r c.set_sound b;
      reported_in = go (reports (entry_at r.set.heap 0).generation (timer_at r.set (entry_at r.set.heap 0).place.0).life);
      popped_in = omega arith;
      left_over = omega arith;
    }
  where
    go : (b : Bool) → cond b (r.reported + 1) r.reported ≤ r.popped + 1
    go true = omega (arith, c.reported_in)
    go false = omega (arith, c.reported_in)

-- the counts of an advance
pub advanced_counts : (s : Set) (N : ℕ) (l : List ℕ) → Sound s → Counts s.heap.len (advanced_of s N l)
unfolding advanced_of
advanced_counts s N l ok =
    ring_by (Counts s.heap.len) N (rung_counts s.heap.len N) s.heap.len (from_start s l)
    (record { set_sound = ok; reported_in = omega arith; popped_in = omega arith; left_over = omega arith })
