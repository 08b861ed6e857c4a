-- The updates on two sets that differ only in room not in use: the list and the places are read and written in full, and the heap by
-- push and removal, which read and store in use only. So the sets go on differing only there.
-- Assumes nothing.
use mathlib.Core.Path.{◌≡◌, refl, sym, ap, subst}
use mathlib.Core.List.{List}
use Prim.Native.Nat.{ℕ, zero, suc}
use lib.ListN.{set}
use Rattle.std.specs.Prelude.{Option, Some, None}
use Rattle.heap.specs.declared.Place.{Place}
use Rattle.refusals.specs.Answer.{Answer}
use Rattle.heap.specs.declared.Slot.{Slot}
use Rattle.heap.specs.declared.Heap.{Heap}
use Rattle.heap.specs.Sound.{Sound}
use Rattle.heap.proofs.Soundness.SoundKept.{push_sound_lem, remove_sound_lem}
use Rattle.heap.specs.InUse as Heap
use Rattle.heap.proofs.UnusedRoom.InUse.{push_sound_in_use, remove_sound_in_use}
use Rattle.word.specs.Rules.{generation_of}
use Rattle.state.specs.declared.Life.{Life}
use Rattle.state.specs.declared.Life.TheVariants.{Free, Live, Cancelled, Retired}
use Rattle.state.specs.declared.Waiting.TheVariants.{No}
use Rattle.state.specs.declared.Timer.{Timer}
use Rattle.state.specs.declared.Set.{Set}
use Rattle.state.specs.State.{timer_at, head_after}
use Rattle.state.specs.InUse.{Twins}
use Rattle.state.proofs.InUse.{over, by_heap}
use Rattle.moves.specs.Rules.{with_first, touched_of, dropped_of, held_by, settled_by, settled_of, list_turn, drain_from}

-- two sets that differ only in room not in use, whose heaps are sound
pub record Alike (a b : Set) : Type 0 where
  pub twins : Twins a b
  pub sound : Sound b.heap

-- a set and the same with another heap, and with timers that turn out to be the same
alike_with : (s : Set) (g : Heap) (l : List Timer) → Heap.Twins g s.heap → Sound s.heap → l ≡ s.timers
    → Alike (record { heap = g; timers = l; first = s.first; closed = s.closed }) s
alike_with s g l r h e = record {
  twins = record {
    same = record { heaps = r.same; same_timers = e; same_first = refl; same_closed = refl };
    left = r.left;
    right = r.right;
  };
  sound = h;
}

pub alike : (s : Set) (g : Heap) → Heap.Twins g s.heap → Sound s.heap → Alike (over s g) s
alike s g r h = alike_with s g s.timers r h refl

-- what a set has with every such heap, each two such sets have
pub by_alike : (P : Set → Set → Type 0) → ((s : Set) (g : Heap) → Heap.Twins g s.heap → Sound s.heap → P (over s g) s)
    → {a b : Set} → Alike a b → P a b
by_alike P f r = by_heap (λ (a b : Set). Sound b.heap → P a b) f r.twins r.sound

-- a timer gets a new life and is pushed on the list
pub touched_alike : {a b : Set} → Alike a b → (p : ℕ) (l : Life) → Alike (touched_of a p l) (touched_of b p l)
unfolding touched_of
touched_alike r p l = by_alike (λ (a b : Set). Alike (touched_of a p l) (touched_of b p l)) (λ s g t h. alike (touched_of s p l) g t h) r

-- the heap without the entry that a timer holds
module _ (g h : Heap) (r : Heap.Twins g h) (s : Sound h) where
  dropped_twins : (d : Option Slot) → Heap.Twins (dropped_of g d) (dropped_of h d)
  dropped_twins None = r
  dropped_twins (Some q) = (remove_sound_in_use g h r s q).states

  dropped_sound : (d : Option Slot) → Sound (dropped_of h d)
  dropped_sound None = s
  dropped_sound (Some q) = remove_sound_lem h s q

module _ (s : Set) (g : Heap) (r : Heap.Twins g s.heap) (h : Sound s.heap) (p : ℕ) (t : Timer) where
  -- the update, by whose place it is: both pushes answer the same slot
  settled_by_lem : (l : Life) → Alike (settled_by (over s g) p t l) (settled_by s p t l)
  settled_by_lem (Live w d) =
      let u = dropped_sound g s.heap r h t.held in
      let n = generation_of w in
      let o = push_sound_in_use (dropped_of g t.held) (dropped_of s.heap t.held) (dropped_twins g s.heap r h t.held) u d n (record { 0 = p }) in
      let q : Answer (Slot × ℕ) → List Timer = λ x. set s.timers p (record { life = Live w d; waiting = No; held = held_by x; uses = t.uses }) in
      alike_with (settled_by s p t (Live w d)) _ _ o.states (push_sound_lem (dropped_of s.heap t.held) u d n (record { 0 = p })) (ap q o.answers)
  settled_by_lem (Cancelled w) =
      alike (settled_by s p t (Cancelled w)) (dropped_of g t.held) (dropped_twins g s.heap r h t.held) (dropped_sound g s.heap r h t.held)
  settled_by_lem Free = alike (settled_by s p t Free) g r h
  settled_by_lem Retired = alike (settled_by s p t Retired) g r h

-- the timer at the head of the list is taken off it and its update made
settled_alike : {a b : Set} → Alike a b → (p : ℕ) → Alike (settled_of a p) (settled_of b p)
unfolding settled_of
settled_alike r p =
    by_alike (λ (a b : Set). Alike (settled_of a p) (settled_of b p))
    (λ s g t h. settled_by_lem (with_first s (head_after (timer_at s p).waiting)) g t h p (timer_at s p) (timer_at s p).life)
    r

-- a walk along the list goes on at the same timer, or ends in both
pub turn_alike : {a b : Set} {m n : ℕ → Set} → Alike a b → ((p : ℕ) → Alike (m p) (n p))
    → Alike (list_turn a a.first m) (list_turn b b.first n)
turn_alike {a} {b} {m} {n} r f =
    subst (λ (x : Option Place). Alike (list_turn a x m) (list_turn b b.first n)) (sym r.twins.same.same_first) (go b.first)
  where
    go : (x : Option Place) → Alike (list_turn a x m) (list_turn b x n)
    go None = r
    go (Some p) = f p.0

-- the updates in list order
pub drain_alike : (k : ℕ) {a b : Set} → Alike a b → Alike (drain_from k a) (drain_from k b)
unfolding drain_from
drain_alike zero r = r
drain_alike (suc k) r = turn_alike r (λ p. drain_alike k (settled_alike r p))
