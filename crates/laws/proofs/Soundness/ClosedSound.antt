-- A close leaves a sound set: its list is emptied, then its heap, and a timer that named a slot would have an entry in the heap.
-- Assumes nothing.
use mathlib.Core.Path.{◌≡◌, refl, ◌∙◌, ap₂, subst}
use mathlib.Core.Bool.{true, ◌&&◌}
use Prim.Native.Nat.{ℕ, zero, suc, ◌+◌, ◌<◌}
use native.Mathlib.Omega.{arith}
use borrow.Author.Tests.{lt-ltb}
use Rattle.std.specs.Prelude.{Option, Some, None}
use Rattle.heap.specs.declared.Place.{Place}
use Rattle.heap.specs.declared.Slot.{Slot}
use Rattle.theory.specs.Chain.{chain_okb}
use Rattle.theory.proofs.Counting.{count_le, count_zero}
use Rattle.theory.proofs.ChainTest.{ok_none}
use Rattle.heap.specs.Capacity.{cap}
use Rattle.heap.specs.Rules.{entry_at}
use Rattle.heap.proofs.Slots.Slab.{sound_slab}
use Rattle.heap.proofs.Slots.Lookup.{lookup_some}
use Rattle.state.specs.declared.Waiting.{Waiting}
use Rattle.state.specs.declared.Waiting.TheVariants.{No, Last, Before}
use Rattle.state.specs.declared.Timer.{Timer}
use Rattle.state.specs.declared.Set.{Set}
use Rattle.state.specs.State.{timer_at, is_waiting, head_of}
use Rattle.state.specs.Faults.{waits_at, after_at}
use Rattle.state.specs.Sound.{Sound}
use Rattle.moves.specs.Rules.{marked_life, unlist_from, popped_of, empty_from, sealed, closed_of}
use Rattle.laws.specs.Advanced.{Shut}
use Rattle.laws.proofs.Parts.Ties.{Fine, tied_sound}
use Rattle.laws.proofs.Soundness.Popping.{pop_len, headless_all, headless_tied, headless_listed}
use Rattle.laws.proofs.Soundness.Closing.{Closing, sound_closing, marked_fine}
use Rattle.laws.proofs.Soundness.Unlisting.{unlist_all}

module _ (s : Set) (c : Closing s) (b : 0 < s.heap.len) where
  -- the head's timer, marked
  met : Timer
  met =
      let t = timer_at s (entry_at s.heap 0).place.0 in
      record { life = marked_life t.life; waiting = t.waiting; held = None; uses = t.uses }

  -- a pop of a close keeps the set in the middle of it
  popped_closing : Closing (popped_of s)
  unfolding popped_of met
  popped_closing = record {
    tied = headless_tied s c.tied b met refl;
    listed = headless_listed s c.tied b met refl c.listed;
    fine =
        headless_all s c.tied b met (λ x y. x < cap → Fine true y)
        (λ i. marked_fine (timer_at s (entry_at s.heap 0).place.0) (timer_at s (entry_at s.heap 0).place.0).waiting (λ e. e) (c.fine (entry_at s.heap 0).place.0 i))
        (λ x n. c.fine x);
  }

  -- it takes one entry
  popped_len : (popped_of s).heap.len + 1 ≡ s.heap.len
  unfolding popped_of
  popped_len = omega (arith, pop_len s.heap (sound_slab s.heap c.tied.heap_sound) b)

-- a pop leaves the head of the list
popped_first : (s : Set) → (popped_of s).first ≡ s.first
unfolding popped_of
popped_first s = refl

-- a set that is about to be sealed: its list and its heap are empty
pub record Emptied (s : Set) : Type 0 where
  pub closing : Closing s
  pub no_first : s.first ≡ None
  pub none_left : s.heap.len ≡ 0

-- after as many pops as there are entries the heap is empty
empty_all : (k : ℕ) (s : Set) → Closing s → s.first ≡ None → s.heap.len ≡ k → Emptied (empty_from k s)
unfolding empty_from
empty_all zero s c f e = record { closing = c; no_first = f; none_left = e }
empty_all (suc k) s c f e =
    let b : 0 < s.heap.len = omega arith in
    empty_all k (popped_of s) (popped_closing s c b) (popped_first s ∙ f) (omega (arith, popped_len s c b))

-- who does not wait is out of the list
not_waiting : (w : Waiting) → (is_waiting w ≡ true → ⊥) → w ≡ No
not_waiting No n = refl
not_waiting Last n = absurd (n refl)
not_waiting (Before q) n = absurd (n refl)

module _ (s : Set) (m : Emptied s) where
  -- no timer waits, for the list of those that do is empty
  empty_still : (p : ℕ) → p < cap → (timer_at s p).waiting ≡ No
  unfolding waits_at
  empty_still p b =
      let z = ok_none (waits_at s) (after_at s) cap (subst (λ (f : Option Place). chain_okb (waits_at s) (after_at s) cap (head_of f) ≡ true) m.no_first m.closing.listed) in
      not_waiting (timer_at s p).waiting (λ e. count_zero (waits_at s) cap z p b (ap₂ ◌&&◌ (lt-ltb p cap b) e))

  -- no timer names a slot, for there is no entry
  empty_bare : (p : ℕ) → p < cap → (timer_at s p).held ≡ None
  empty_bare p b = go (timer_at s p).held refl
    where
      go : (h : Option Slot) → (timer_at s p).held ≡ h → (timer_at s p).held ≡ None
      go None e = e
      go (Some q) e =
          let n = m.closing.tied.names p q b e in
          let l = lookup_some s.heap (sound_slab s.heap m.closing.tied.heap_sound) q.0 n.0 n.1 in
          absurd (omega (arith, l.1, m.none_left))

  -- sealed, it is sound
  sealed_sound : Sound (sealed s)
  unfolding waits_at after_at
  sealed_sound =
      let t = m.closing.tied in
      tied_sound (sealed s)
      (record { timers_long = t.timers_long; heap_sound = t.heap_sound; names = t.names; ranges = t.ranges })
      (λ k e l. let r = lookup_some s.heap (sound_slab s.heap t.heap_sound) k e l in absurd (omega (arith, r.1, m.none_left)))
      m.closing.listed m.closing.fine (λ _. m.no_first) (λ _. m.none_left)

module _ (s : Set) (ok : Sound s) where
  emptied_of : Emptied (empty_from (unlist_from cap s).heap.len (unlist_from cap s))
  emptied_of =
      let u = unlist_all cap s (sound_closing s ok) (count_le (waits_at s) cap) in
      empty_all (unlist_from cap s).heap.len (unlist_from cap s) u.0 u.1 refl

  -- after a close the set is sound
  pub closed_sound : Sound (closed_of s)
  unfolding closed_of
  closed_sound = sealed_sound (empty_from (unlist_from cap s).heap.len (unlist_from cap s)) emptied_of

  -- and shut
  pub closed_shut : Shut (closed_of s)
  unfolding closed_of
  closed_shut =
      let u = empty_from (unlist_from cap s).heap.len (unlist_from cap s) in
      record {
        is_closed = refl;
        no_first = emptied_of.no_first;
        none_left = emptied_of.none_left;
        unused = λ p b. record { still = empty_still u emptied_of p b; bare = empty_bare u emptied_of p b };
      }
