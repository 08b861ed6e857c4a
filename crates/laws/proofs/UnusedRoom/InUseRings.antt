-- The advance and the close on two sets that differ only in room not in use: a pop reads the head, which is in use while the heap has
-- an entry, so the same timer rings or is marked, and the same reports are written.
-- Assumes nothing.
use mathlib.Core.Path.{◌≡◌, refl, sym, ◌∙◌, ap, subst}
use mathlib.Core.Bool.{◌&&◌}
use mathlib.Core.List.{List}
use Prim.Native.Nat.{ℕ, zero, suc, ◌-◌, ◌<◌, ◌≤◌}
use native.Mathlib.Omega.{arith}
use lib.Dec.{ltb, leb}
use Rattle.theory.specs.Tests.{Ref}
use Rattle.theory.proofs.Tests.{ref_lt, ref_le, ref_and}
use Rattle.refusals.specs.Answer.{Outcome}
use Rattle.heap.specs.Capacity.{cap}
use Rattle.heap.specs.declared.Entry.{Entry}
use Rattle.heap.specs.declared.Heap.{Heap}
use Rattle.heap.specs.Rules.{entry_at}
use Rattle.heap.specs.Sound.{Sound}
use Rattle.heap.specs.Calls.{Off, pop_sound}
use Rattle.heap.proofs.AsList.Items.{and_same}
use Rattle.heap.proofs.Slots.Slab.{sound_slab}
use Rattle.heap.proofs.Slots.Kept.{pop_head, remove_len}
use Rattle.heap.proofs.Soundness.SoundKept.{pop_sound_lem}
use Rattle.heap.specs.InUse as Heap
use Rattle.heap.proofs.UnusedRoom.InUseWalks.{choose_ref}
use Rattle.heap.proofs.UnusedRoom.InUse.{pop_sound_in_use}
use Rattle.state.specs.declared.Set.{Set}
use Rattle.state.proofs.InUse.{over, as_over, heap_twins}
use Rattle.moves.specs.Rules.{Ring, due_by, rung_by, rung_of, ring_from, advanced_of, unlisted_of, unlist_from, popped_by, popped_of, empty_from, sealed, closed_of}
use Rattle.laws.proofs.UnusedRoom.InUseDrain.{Alike, alike, by_alike, turn_alike}

-- two advances under way: sets that differ only in room not in use, the same list and the same counts
pub record SameRing (q r : Ring) : Type 0 where
  pub sets : Alike q.set r.set
  pub lists : q.list ≡ r.list
  pub reported : q.reported ≡ r.reported
  pub popped : q.popped ≡ r.popped

-- the same with another heap
abbrev ring_over : Ring → Heap → Ring
ring_over r g = record { set = over r.set g; list = r.list; reported = r.reported; popped = r.popped }

-- the head is due in both, or in neither
due_same : (g h : Heap) → Heap.Twins g h → (N : ℕ) → due_by g N ≡ due_by h N
unfolding due_by
due_same g h r N =
    ap (λ (n : ℕ). ltb 0 n && leb (entry_at g 0).at N) r.same.same_len
    ∙ and_same (ref_lt 0 h.len) (λ b. ap (λ (e : Entry). leb e.at N) (r.same.entries 0 b))

ref_due : (h : Heap) (N : ℕ) → Ref ((0 < h.len) × ((entry_at h 0).at ≤ N)) (due_by h N)
unfolding due_by
ref_due h N = ref_and (ref_lt 0 h.len) (ref_le (entry_at h 0).at N)

-- one pop, whose timer rings
rung_over : (r : Ring) (g : Heap) → Heap.Twins g r.set.heap → Sound r.set.heap → 0 < r.set.heap.len
    → SameRing (rung_of (ring_over r g)) (rung_of r)
unfolding rung_of
rung_over r g t h b =
    subst (λ (e : Entry). SameRing (rung_by (ring_over r g) e) (rung_of r)) (sym (t.same.entries 0 b))
    (record {
      sets = alike (rung_of r).set (pop_sound g).state (pop_sound_in_use g r.set.heap t h).states (pop_sound_lem r.set.heap h);
      lists = refl;
      reported = refl;
      popped = refl;
    })

rung_same : {q r : Ring} → SameRing q r → 0 < r.set.heap.len → SameRing (rung_of q) (rung_of r)
rung_same {q} {r} e =
    subst (λ (x : Ring). 0 < r.set.heap.len → SameRing (rung_of x) (rung_of r)) (sym whole)
    (rung_over r q.set.heap (heap_twins e.sets.twins) e.sets.sound)
  where
    whole : q ≡ ring_over r q.set.heap
    whole = λ t. record { set = as_over e.sets.twins.same t; list = e.lists t; reported = e.reported t; popped = e.popped t }

-- pops while the head is due
ring_same : (k : ℕ) {q r : Ring} (N : ℕ) → SameRing q r → SameRing (ring_from k q N) (ring_from k r N)
unfolding ring_from
ring_same zero N e = e
ring_same (suc k) {q} {r} N e =
    choose_ref SameRing (due_same q.set.heap r.set.heap (heap_twins e.sets.twins) N) (ref_due r.set.heap N)
    (λ d. ring_same k N (rung_same e d.0))
    (λ _. e)

-- an advance
pub advanced_same : {a b : Set} → Alike a b → (N : ℕ) (l : List ℕ) → SameRing (advanced_of a N l) (advanced_of b N l)
unfolding advanced_of
advanced_same {a} {b} r N l =
    subst (λ (k : ℕ). SameRing (ring_from k (begun a) N) (advanced_of b N l)) (sym r.twins.same.heaps.same_len)
    (ring_same b.heap.len N (record { sets = r; lists = refl; reported = refl; popped = refl }))
  where
    begun : Set → Ring
    begun s = record { set = s; list = l; reported = 0; popped = 0 }

-- a timer met in the list is taken off it
unlisted_alike : {a b : Set} → Alike a b → (p : ℕ) → Alike (unlisted_of a p) (unlisted_of b p)
unfolding unlisted_of
unlisted_alike r p = by_alike (λ (a b : Set). Alike (unlisted_of a p) (unlisted_of b p)) (λ s g t h. alike (unlisted_of s p) g t h) r

-- the list is emptied
unlist_alike : (k : ℕ) {a b : Set} → Alike a b → Alike (unlist_from k a) (unlist_from k b)
unfolding unlist_from
unlist_alike zero r = r
unlist_alike (suc k) r = turn_alike r (λ p. unlist_alike k (unlisted_alike r p))

-- one pop, whose timer is marked
popped_alike : {a b : Set} → Alike a b → 0 < b.heap.len → Alike (popped_of a) (popped_of b)
unfolding popped_of
popped_alike r =
    by_alike (λ (a b : Set). 0 < b.heap.len → Alike (popped_of a) (popped_of b))
    (λ s g t h b. subst (λ (e : Entry). Alike (popped_by (over s g) e) (popped_of s)) (sym (t.same.entries 0 b))
    (alike (popped_of s) (pop_sound g).state (pop_sound_in_use g s.heap t h).states (pop_sound_lem s.heap h)))
    r

-- and its heap has one entry less
popped_len : (s : Set) → Sound s.heap → 0 < s.heap.len → (popped_of s).heap.len ≡ s.heap.len - 1
unfolding popped_of
popped_len s h b =
    let c = sound_slab s.heap h in
    ap (λ (o : Outcome Heap Off). o.state.len) (pop_head s.heap c b)
    ∙ remove_len s.heap c (entry_at s.heap 0).slot (record { 0 = 0 }) (c.forth 0 b).0 (c.forth 0 b).1

-- as many pops as there are entries, or fewer
empty_alike : (k : ℕ) {a b : Set} → Alike a b → k ≤ b.heap.len → Alike (empty_from k a) (empty_from k b)
unfolding empty_from
empty_alike zero r l = r
empty_alike (suc k) {b = b} r l =
    let p : 0 < b.heap.len = omega arith in
    empty_alike k (popped_alike r p) (omega (arith, popped_len b r.sound p))

-- a close
pub closed_alike : {a b : Set} → Alike a b → Alike (closed_of a) (closed_of b)
unfolding closed_of
closed_alike {a} {b} r =
    let u = unlist_alike cap r in
    let m = unlist_from cap a in
    let n = unlist_from cap b in
    shut (subst (λ (k : ℕ). Alike (empty_from k m) (empty_from n.heap.len n)) (sym u.twins.same.heaps.same_len)
    (empty_alike n.heap.len u (omega arith)))
  where
    shut : {c d : Set} → Alike c d → Alike (sealed c) (sealed d)
    shut t = by_alike (λ (c d : Set). Alike (sealed c) (sealed d)) (λ s g q h. alike (sealed s) g q h) t
