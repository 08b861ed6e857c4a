-- What a change of one place does to the waiting list: nothing where the place waits as before, one timer more in front where it
-- did not wait, one less where it stood in front.
-- Assumes nothing.
use mathlib.Core.Path.{◌≡◌, refl, sym, ◌∙◌, ap}
use mathlib.Core.Bool.{true, false, ◌&&◌}
use mathlib.Core.Option.{Option, some}
use mathlib.Core.List.{List, ◌∷◌}
use Prim.Native.Nat.{ℕ, suc, ◌<◌}
use lib.Dec.{ltb}
use lib.ListN.{length}
use borrow.Author.Tests.{ltb-true, lt-ltb}
use Rattle.std.specs.Prelude as Code
use Rattle.std.specs.Prelude.{Some, None}
use Rattle.theory.specs.Counting.{count}
use Rattle.theory.specs.Chain.{chain_okb, chain_of}
use Rattle.theory.proofs.Tests.{and_left}
use Rattle.theory.proofs.Counting.{count_off, count_zero}
use Rattle.theory.proofs.ChainTest.{ok_head}
use Rattle.theory.proofs.ChainChange.{chain_same, push_ok, pop_ok}
use Rattle.theory.proofs.Stores.{sees, sees_other}
use Rattle.heap.specs.Capacity.{cap}
use Rattle.heap.specs.declared.Heap.{Heap}
use Rattle.heap.specs.declared.Place.{Place}
use Rattle.state.specs.declared.Waiting.{Waiting}
use Rattle.state.specs.declared.Waiting.TheVariants.{No, Last, Before}
use Rattle.state.specs.declared.Timer.{Timer}
use Rattle.state.specs.declared.Set.{Set}
use Rattle.state.specs.State.{no_timer, timer_at, is_waiting, next_in, head_of, head_after}
use Rattle.state.specs.Faults.{waits_at, after_at}
use Rattle.moves.specs.Rules.{link_to}
use Rattle.laws.proofs.Parts.Change.{changed, timer_here}
use Rattle.laws.proofs.Parts.Ties.{Listed}

-- a link to the head waits, and names the head
pub link_waits : (f : Code.Option Place) → is_waiting (link_to f) ≡ true
link_waits None = refl
link_waits (Some q) = refl

link_next : (f : Code.Option Place) → next_in (link_to f) ≡ head_of f
link_next None = refl
link_next (Some q) = refl

-- the head after a timer is the one that the timer names
after_next : (w : Waiting) → head_of (head_after w) ≡ next_in w
after_next No = refl
after_next Last = refl
after_next (Before q) = refl

-- the places in the list, in its order
unfoldable pub list_of : Set → List ℕ
list_of s = chain_of (waits_at s) (after_at s) cap (head_of s.first)

-- a place in range waits where its timer does
pub waits_in : (s : Set) (p : ℕ) → p < cap → waits_at s p ≡ is_waiting (timer_at s p).waiting
unfolding waits_at
waits_in s p b = rw (lt-ltb p cap b)

-- a place that waits is in range
pub waits_below : (s : Set) (p : ℕ) → waits_at s p ≡ true → p < cap
unfolding waits_at
waits_below s p e = ltb-true p cap (and_left (ltb p cap) (is_waiting (timer_at s p).waiting) e)

-- the head of the list is in range, and waits
pub first_waits : (s : Set) (p : Place) → Listed s → s.first ≡ Some p → waits_at s p.0 ≡ true
first_waits s p l e = ok_head (waits_at s) (after_at s) cap p.0 (ap (λ (f : Code.Option Place). chain_okb (waits_at s) (after_at s) cap (head_of f)) (sym e) ∙ l)

-- the list is empty where no timer waits
pub list_empty : (s : Set) → Listed s → count (waits_at s) cap ≡ 0 → s.first ≡ None
list_empty s l e = go s.first refl
  where
    go : (f : Code.Option Place) → s.first ≡ f → s.first ≡ None
    go None q = q
    go (Some p) q =
        let w = first_waits s p l q in
        absurd (count_zero (waits_at s) cap e p.0 (waits_below s p.0 w) w)

module _ (s : Set) (h : Heap) (p : ℕ) (t : Timer) (f : Code.Option Place) where
  waits_other : (y : ℕ) → (y ≡ p → ⊥) → waits_at s y ≡ waits_at (changed s h p t f) y
  unfolding waits_at
  waits_other y n = ap (λ (w : Waiting). ltb y cap && is_waiting w) (sees_other (λ (u : Timer). u.waiting) no_timer s.timers p t y n)

  after_other : (y : ℕ) → (y ≡ p → ⊥) → after_at s y ≡ after_at (changed s h p t f) y
  unfolding after_at
  after_other y n = ap next_in (sees_other (λ (u : Timer). u.waiting) no_timer s.timers p t y n)

  waits_same : t.waiting ≡ (timer_at s p).waiting → (y : ℕ) → waits_at s y ≡ waits_at (changed s h p t f) y
  unfolding waits_at
  waits_same e y = ap (λ (w : Waiting). ltb y cap && is_waiting w) (sees (λ (u : Timer). u.waiting) no_timer s.timers p t e y)

  after_same : t.waiting ≡ (timer_at s p).waiting → (y : ℕ) → after_at s y ≡ after_at (changed s h p t f) y
  unfolding after_at
  after_same e y = ap next_in (sees (λ (u : Timer). u.waiting) no_timer s.timers p t e y)

  -- the place waits as before: the list is as before
  pub list_stays : t.waiting ≡ (timer_at s p).waiting → f ≡ s.first → Listed s → Listed (changed s h p t f)
  list_stays e q l =
      ap (λ (x : Code.Option Place). chain_okb (waits_at (changed s h p t f)) (after_at (changed s h p t f)) cap (head_of x)) q
      ∙ sym (chain_same (waits_at s) (waits_at (changed s h p t f)) (after_at s) (after_at (changed s h p t f)) (waits_same e)
      (λ y _. after_same e y) cap (head_of s.first))
      ∙ l

  module _ (long : length s.timers ≡ cap) (b : p < cap) where
    -- the place waits where the new timer does
    pub waits_here : waits_at (changed s h p t f) p ≡ is_waiting t.waiting
    waits_here = waits_in (changed s h p t f) p b ∙ ap (λ (u : Timer). is_waiting u.waiting) (timer_here s h p t f long b)

    after_here : after_at (changed s h p t f) p ≡ next_in t.waiting
    unfolding after_at
    after_here = ap (λ (u : Timer). next_in u.waiting) (timer_here s h p t f long b)

    -- the place did not wait, and now names the old head
    module _ (off : is_waiting (timer_at s p).waiting ≡ false) (on : t.waiting ≡ link_to s.first) (front : f ≡ Some (record { 0 = p }))
        (l : Listed s)
      where
        pushed : (chain_okb (waits_at (changed s h p t f)) (after_at (changed s h p t f)) cap (some p) ≡ true)
            × (chain_of (waits_at (changed s h p t f)) (after_at (changed s h p t f)) cap (some p) ≡ p ∷ chain_of (waits_at s) (after_at s) cap (head_of s.first))
        pushed =
            push_ok (waits_at s) (waits_at (changed s h p t f)) (after_at s) (after_at (changed s h p t f)) cap p waits_other after_other
            (head_of s.first) b (waits_in s p b ∙ off) (waits_here ∙ ap is_waiting on ∙ link_waits s.first)
            (after_here ∙ ap next_in on ∙ link_next s.first) l

        -- the list is right
        pub list_pushed : Listed (changed s h p t f)
        list_pushed =
            ap (λ (x : Code.Option Place). chain_okb (waits_at (changed s h p t f)) (after_at (changed s h p t f)) cap (head_of x)) front ∙ pushed.0

    -- the place stood in front, and waits no more
    module _ (at : s.first ≡ Some (record { 0 = p })) (off : is_waiting t.waiting ≡ false) (front : f ≡ head_after (timer_at s p).waiting)
        (l : Listed s)
      where
        next_front : after_at s p ≡ head_of f
        unfolding after_at
        next_front = sym (ap head_of front ∙ after_next (timer_at s p).waiting)

        was_waiting : waits_at s p ≡ true
        was_waiting = first_waits s (record { 0 = p }) l at

        popped : (chain_okb (waits_at (changed s h p t f)) (after_at (changed s h p t f)) cap (after_at s p) ≡ true)
            × (chain_of (waits_at s) (after_at s) cap (some p) ≡ p ∷ chain_of (waits_at (changed s h p t f)) (after_at (changed s h p t f)) cap (after_at s p))
        popped =
            pop_ok (waits_at s) (waits_at (changed s h p t f)) (after_at s) (after_at (changed s h p t f)) cap p waits_other after_other
            b (waits_here ∙ off) (ap (λ (x : Code.Option Place). chain_okb (waits_at s) (after_at s) cap (head_of x)) (sym at) ∙ l)

        -- the list is right
        pub list_popped : Listed (changed s h p t f)
        list_popped =
            ap (λ (x : Option ℕ). chain_okb (waits_at (changed s h p t f)) (after_at (changed s h p t f)) cap x) (sym next_front) ∙ popped.0

        -- it is the tail of the list before
        pub list_pop : list_of s ≡ p ∷ list_of (changed s h p t f)
        unfolding list_of
        list_pop =
            ap (λ (x : Code.Option Place). chain_of (waits_at s) (after_at s) cap (head_of x)) at ∙ popped.1
            ∙ ap (λ (x : Option ℕ). p ∷ chain_of (waits_at (changed s h p t f)) (after_at (changed s h p t f)) cap x) next_front

        -- one timer less waits
        pub waits_fall : count (waits_at s) cap ≡ suc (count (waits_at (changed s h p t f)) cap)
        waits_fall =
            count_off (waits_at (changed s h p t f)) (waits_at s) cap p (λ y n. sym (waits_other y n)) (waits_here ∙ off) was_waiting b
