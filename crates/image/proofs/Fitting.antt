-- The numbers of a sound set fit the fields of an image, where those that soundness leaves free have the widths of the code's types:
-- a link of a sound list, or of the free chain, leads to a place, or a slot, in range.
-- Assumes nothing.
use mathlib.Core.Path.{◌≡◌, refl, ap, sym, subst, ◌∙◌}
use mathlib.Core.Bool.{Bool, true, false, not, cond, ◌&&◌}
use mathlib.Core.Option.{Option, none, some}
use mathlib.Core.Logic.{⊎_elim}
use mathlib.Core.List.{List, [], ◌∷◌}
use Prim.Native.Nat.{ℕ, ◌<◌, ◌≤◌, ◌^◌}
use native.Mathlib.Omega.{arith}
use lib.Dec.{eqb}
use borrow.Author.Tests.{lt-ltb, eqb-true}
use Rattle.std.specs.Prelude as Code
use Rattle.std.specs.Prelude.{Some, None}
use Rattle.heap.specs.declared.Place.{Place}
use Rattle.theory.specs.Counting.{Mem}
use Rattle.theory.specs.Chain.{unless, Chain, chain_okb}
use Rattle.theory.proofs.Tests.{none_some}
use Rattle.theory.proofs.ChainTest.{ok_head, ok_lists}
use Rattle.heap.specs.Capacity.{cap}
use Rattle.heap.specs.declared.Heap.{Heap}
use Rattle.heap.specs.declared.Slot.{Slot}
use Rattle.heap.specs.declared.SlotState.{SlotState}
use Rattle.heap.specs.declared.SlotState.TheVariants.{Full, Empty}
use Rattle.heap.specs.declared.SlabSlot.{SlabSlot}
use Rattle.heap.specs.Rules.{no_slot, state_at}
use Rattle.heap.specs.Faults.{is_full, empty_at, link_of, next_at}
use Rattle.heap.specs.Sound as Heap
use Rattle.heap.proofs.Soundness.SoundFacts.{empty_made, full_back}
use Rattle.state.specs.declared.Life.{Life}
use Rattle.state.specs.declared.Life.TheVariants.{Free, Live, Cancelled, Retired}
use Rattle.state.specs.declared.Waiting.{Waiting}
use Rattle.state.specs.declared.Waiting.TheVariants.{No, Last, Before}
use Rattle.state.specs.declared.Set.{Set}
use Rattle.state.specs.State.{timer_at, is_waiting, next_in, head_of}
use Rattle.state.specs.Faults.{waits_at, after_at}
use Rattle.state.specs.Sound.{Sound}
use Rattle.state.specs.Widths.{LifeWidths, Widths}
use Rattle.state.proofs.ListLaws.{waits_in, waits_below}
use Rattle.digits.proofs.Rows.{get_d_any}
use Rattle.cells.specs.Parts.{life_parts, waiting_parts, held_parts, first_parts}
use Rattle.cells.specs.Ranges.{StateIn}
use Rattle.cells.specs.Cells.{zero_slot}
use Rattle.image.specs.Ranges.{SetIn}

-- the next of a node passes too
chain_next : (ok : ℕ → Bool) (next : ℕ → Option ℕ) (l : List ℕ) (h : Option ℕ) → Chain ok next h l → (x y : ℕ) → Mem x l → next x ≡ some y → ok y ≡ true
chain_next ok next [] h c x y m e = absurd m
chain_next ok next (z ∷ l) h c x y m e =
    ⊎_elim (λ q. first l c.2 (ap next (sym q) ∙ e)) (λ m. chain_next ok next l (next z) c.2 x y m e) m
  where
    first : (l : List ℕ) → Chain ok next (next z) l → next z ≡ some y → ok y ≡ true
    first [] c e = absurd (none_some c e)
    first (w ∷ l) c e = let d : w ≡ y = cc in ap ok (sym d) ∙ c.1

-- a link that is kept as a number is the end, or leads on
link_in : (m n : ℕ) → (unless m n ≡ some n → n < m) → n ≤ m
link_in m n f = go (eqb n m) refl
  where
    go : (b : Bool) → eqb n m ≡ b → n ≤ m
    go true e = let d : n ≡ m = eqb-true n m e in omega arith
    go false e = let d : n < m = f (ap (λ (b : Bool). cond b none (some n)) e) in omega arith

module _ (h : Heap) (v : Heap.Sound h) where
  -- an empty slot is on the free chain, and its link is the chain's
  empties : (j : ℕ) → j < h.made → (n : Slot) → state_at h j ≡ Empty n → empty_at h j ≡ true
  unfolding empty_at
  empties j q n e = λ k. lt-ltb j h.made q k && not (is_full (e k))

  links : (j : ℕ) (n : Slot) → state_at h j ≡ Empty n → next_at h j ≡ unless h.made n.0
  unfolding next_at
  links j n e = ap (link_of h.made) e

  -- the free head
  free_in : h.free.0 ≤ cap
  free_in =
      let a : h.free.0 ≤ h.made =
      link_in h.made h.free.0
      (λ e. empty_made h h.free.0 (ok_head (empty_at h) (next_at h) h.made h.free.0 (subst (λ (o : Option ℕ). chain_okb (empty_at h) (next_at h) h.made o ≡ true) e v.chained)))
      in
      omega (arith, v.made_in)

  -- what a slot that was made names
  state_fits : (j : ℕ) → j < h.made → StateIn (state_at h j)
  state_fits j q = go (state_at h j) refl
    where
      go : (x : SlotState) → state_at h j ≡ x → StateIn x
      go (Full p) e = let b = (full_back h v j p q e).0 in omega (arith, b, v.len_in)
      go (Empty n) e =
          let r = ok_lists (empty_at h) (next_at h) h.made (empty_made h) (unless h.made h.free.0) v.chained in
          let c : empty_at h j ≡ true = empties j q n e in
          let m = r.2.whole j q c in
          let a : n.0 ≤ h.made =
          link_in h.made n.0
          (λ u. empty_made h n.0 (chain_next (empty_at h) (next_at h) r.0 (unless h.made h.free.0) r.1 j n.0 m (links j n e ∙ u)))
          in
          omega (arith, v.made_in)

-- the parts of a life, and back
life_in : (l : Life) → LifeWidths l → ((life_parts l).word < 2 ^ 32) × ((life_parts l).due < 2 ^ 64)
life_in Free b = (omega arith, omega arith)
life_in (Live w d) b = b
life_in (Cancelled w) b = (b, omega arith)
life_in Retired b = (omega arith, omega arith)

life_widths : (l : Life) → (life_parts l).word < 2 ^ 32 → (life_parts l).due < 2 ^ 64 → LifeWidths l
life_widths Free w d = tt
life_widths (Live v e) w d = (w, d)
life_widths (Cancelled v) w d = w
life_widths Retired w d = tt

-- the numbers of a set that fits have the widths
pub fits_widths : (s : Set) → SetIn s → Widths s
fits_widths s h = record {
  entries_in_range = λ j q. (h.entries_in_range j q).at_in;
  timers_in = λ p q.
      let t = h.each_timer_in p q in
      record { uses_in = t.uses_in; life_in = life_widths (timer_at s p).life t.word_in t.due_in };
}

module _ (s : Set) (v : Sound s) where
  -- the head of the list
  first_in : (first_parts s.first).number < cap
  first_in = go s.first refl
    where
      go : (f : Code.Option Place) → s.first ≡ f → (first_parts f).number < cap
      go None e = omega arith
      go (Some p) e =
          waits_below s p.0
          (ok_head (waits_at s) (after_at s) cap p.0 (subst (λ (x : Code.Option Place). chain_okb (waits_at s) (after_at s) cap (head_of x) ≡ true) e v.listed))

  -- the place that a timer waits before
  next_in_range : (p : ℕ) → p < cap → (waiting_parts (timer_at s p).waiting).number < cap
  unfolding after_at
  next_in_range p q = go (timer_at s p).waiting refl
    where
      go : (w : Waiting) → (timer_at s p).waiting ≡ w → (waiting_parts w).number < cap
      go No e = omega arith
      go Last e = omega arith
      go (Before n) e =
          let r = ok_lists (waits_at s) (after_at s) cap (waits_below s) (head_of s.first) v.listed in
          let m = r.2.whole p q (waits_in s q (ap is_waiting e)) in
          waits_below s n.0 (chain_next (waits_at s) (after_at s) r.0 (head_of s.first) r.1 p n.0 m (ap next_in e))

  -- the slot that a timer names
  slot_in_range : (p : ℕ) → p < cap → (held_parts (timer_at s p).held).number < cap
  slot_in_range p q = go (timer_at s p).held refl
    where
      go : (d : Code.Option Slot) → (timer_at s p).held ≡ d → (held_parts d).number < cap
      go None e = omega arith
      go (Some n) e = omega (arith, (v.slot_own p n q e).made, v.heap_sound.made_in)

  -- a sound set whose numbers have the widths fits
  pub sound_fits : Widths s → SetIn s
  sound_fits w =
      let h = v.heap_sound in
      record {
        timers_long = v.timers_long;
        header_in_range = record { first_in = first_in; len_in = h.len_in; made_in = h.made_in; free_in = free_in s.heap h };
        entries_in_range = λ j q. record {
          at_in = w.entries_in_range j q;
          generation_in = v.generations j q;
          place_in = v.entry_place j q;
          slot_in_range = omega (arith, (h.forth j q).0, h.made_in);
        };
        slots_in_range = λ j q.
            subst (λ (x : SlabSlot). StateIn x.state) (get_d_any s.heap.slots j no_slot zero_slot (omega (arith, h.slots_long, h.made_in)))
            (state_fits s.heap h j q);
        each_timer_in = λ p q.
            let l = life_in (timer_at s p).life (w.timers_in p q).life_in in
            record { uses_in = (w.timers_in p q).uses_in; word_in = l.0; due_in = l.1; next_in_range = next_in_range p q; slot_in_range = slot_in_range p q };
      }
