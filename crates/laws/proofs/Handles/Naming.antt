-- What a handle names is told by the timer at its place alone. So a law of what handles name is a law of one place, and a change of
-- one place has to be looked at there only.
-- Assumes nothing.
use mathlib.Core.Path.{◌≡◌, refl, sym, ◌∙◌, ap, subst}
use mathlib.Core.Bool.{Bool, true, false, cond, ◌&&◌}
use mathlib.Core.Option.{Option, none, some}
use mathlib.Core.List.{List}
use Prim.Native.Nat.{ℕ, ◌≤◌, ◌<◌}
use native.Mathlib.Omega.{arith}
use lib.Dec.{ltb, eqb}
use lib.ListN.{length, get_or, set}
use lib.Seq.{set_out}
use borrow.Author.Tests.{lt-ltb, eq-eqb, ne_eqb}
use Rattle.theory.proofs.Tests.{ref_lt, ref_eq, by-ref, none_some}
use Rattle.theory.proofs.Stores.{set_all}
use Rattle.heap.specs.Capacity.{cap}
use Rattle.state.specs.declared.Life.TheVariants.{Live}
use Rattle.state.specs.declared.Timer.{Timer}
use Rattle.state.specs.declared.Set.{Set}
use Rattle.state.specs.declared.Handle.{Handle}
use Rattle.state.specs.State.{no_timer, timer_at}
use Rattle.timers.specs.declared.Timing.{Timing}
use Rattle.timers.specs.Calls.{timing_of, live_at}
use Rattle.laws.proofs.AnyCall.Found.{live_in}

-- what a timer is to a handle of its place with the use number u
unfoldable pub names : Timer → ℕ → Option Timing
names t u = cond (eqb t.uses u) (timing_of t.life) none

-- with the same use number: what its life says
pub names_same : (t : Timer) (u : ℕ) → t.uses ≡ u → names t u ≡ timing_of t.life
unfolding names
names_same t u e = rw (eq-eqb t.uses u e)

-- with another: nothing
pub names_other : (t : Timer) (u : ℕ) → (t.uses ≡ u → ⊥) → names t u ≡ none
unfolding names
names_other t u n = rw (ne_eqb t.uses u n)

-- nothing under a test is nothing
none_by : (b : Bool) (x : Option Timing) → x ≡ none → cond b x none ≡ none
none_by true x e = e
none_by false x e = refl

-- a timer that is not live is nothing to any handle
pub names_dead : (t : Timer) (u : ℕ) → timing_of t.life ≡ none → names t u ≡ none
unfolding names
names_dead t u e = none_by (eqb t.uses u) (timing_of t.life) e

-- what a handle names, by the timer at its place
pub live_by : (s : Set) (h : Handle) → live_at s h ≡ cond (ltb h.place.0 cap) (names (timer_at s h.place.0) h.uses) none
unfolding live_at names
live_by s h = go (ltb h.place.0 cap) (eqb (timer_at s h.place.0).uses h.uses) (timing_of (timer_at s h.place.0).life)
  where
    go : (b c : Bool) (x : Option Timing) → cond (b && c) x none ≡ cond b (cond c x none) none
    go true c x = refl
    go false c x = refl

-- in range, it is what the timer at its place is to it
pub live_in_range : (s : Set) (h : Handle) → h.place.0 < cap → live_at s h ≡ names (timer_at s h.place.0) h.uses
live_in_range s h b = live_by s h ∙ ap (λ (c : Bool). cond c (names (timer_at s h.place.0) h.uses) none) (lt-ltb h.place.0 cap b)

-- a handle names nothing where the timer at its place is nothing to it
pub live_none : (s : Set) (h : Handle) → names (timer_at s h.place.0) h.uses ≡ none → live_at s h ≡ none
live_none s h e = live_by s h ∙ none_by (ltb h.place.0 cap) (names (timer_at s h.place.0) h.uses) e

-- what relates what two timers are to a handle relates what it names in their sets
pub live_rel : (R : Option Timing → Option Timing → Type 0) → R none none → (s r : Set) (h : Handle)
    → R (names (timer_at s h.place.0) h.uses) (names (timer_at r h.place.0) h.uses) → R (live_at s h) (live_at r h)
live_rel R nil s r h e =
    subst (λ (x : Option Timing). R x (live_at r h)) (sym (live_by s h))
    (subst (λ (x : Option Timing). R (cond (ltb h.place.0 cap) (names (timer_at s h.place.0) h.uses) none) x) (sym (live_by r h))
    (go (ltb h.place.0 cap)))
  where
    go : (b : Bool) → R (cond b (names (timer_at s h.place.0) h.uses) none) (cond b (names (timer_at r h.place.0) h.uses) none)
    go true = e
    go false = nil

-- what a handle that is live tells of its place
pub record Told (s : Set) (h : Handle) (t : Timing) : Type 0 where
  pub in_range : h.place.0 < cap
  pub same_uses : (timer_at s h.place.0).uses ≡ h.uses
  pub is_live : (timer_at s h.place.0).life ≡ Live t.word t.due

-- such a handle tells that
pub live_told : (s : Set) (h : Handle) (t : Timing) → live_at s h ≡ some t → Told s h t
live_told s h t e = record {
  in_range = (live_in s h t e).0;
  same_uses = by-ref (ref_eq (timer_at s h.place.0).uses h.uses) (λ u. u)
      (λ n. absurd (none_some (live_none s h (names_other (timer_at s h.place.0) h.uses n)) e));
  is_live = (live_in s h t e).1;
}

-- a relation that holds of equal timers, and of the old and the new timer at a place, holds at every place
pub store_rel : (R : ℕ → Timer → Timer → Type 0) → ((x : ℕ) (t : Timer) → R x t t) → (l : List Timer) (p : ℕ) (t : Timer)
    → R p (get_or l p no_timer) t → (x : ℕ) → R x (get_or l x no_timer) (get_or (set l p t) x no_timer)
store_rel R same l p t e x =
    by-ref (ref_lt p (length l))
    (λ b. set_all no_timer l p t b (λ x y. R x (get_or l x no_timer) y) e (λ x n. same x (get_or l x no_timer)) x)
    (λ n. let o : length l ≤ p = omega arith in
    subst (λ (m : List Timer). R x (get_or l x no_timer) (get_or m x no_timer)) (sym (set_out l p t o)) (same x (get_or l x no_timer)))
