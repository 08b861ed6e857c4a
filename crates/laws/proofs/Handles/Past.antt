-- Use numbers never fall; a handle that was given out stays so, and what is over stays over: every rule keeps both.
-- Assumes nothing.
use mathlib.Core.Path.{◌≡◌, refl, sym, ◌∙◌, ap}
use mathlib.Core.Logic.{inl, inr, ⊎_elim}
use mathlib.Core.Bool.{Bool, true, false, not}
use mathlib.Core.Option.{some}
use mathlib.Core.List.{List}
use Prim.Native.Nat.{ℕ, ◌≤◌}
use native.Mathlib.Omega.{arith}
use Rattle.std.specs.Prelude.{None}
use Rattle.theory.proofs.Tests.{ref_eq, cond-ref, true_false}
use Rattle.state.specs.declared.Life.{Life}
use Rattle.state.specs.declared.Life.TheVariants.{Free, Live, Cancelled, Retired}
use Rattle.state.specs.declared.Waiting.{Waiting}
use Rattle.state.specs.declared.Timer.{Timer}
use Rattle.state.specs.declared.Set.{Set}
use Rattle.state.specs.declared.Handle.{Handle}
use Rattle.state.specs.State.{timer_at}
use Rattle.moves.specs.Rules.{is_free, touched_of, lowest_free, freed_of, drained_of, rung_life, rung_timer, advanced_of, marked_life, closed_of}
use Rattle.timers.specs.declared.Timing.{Timing}
use Rattle.timers.specs.Calls.{live_at}
use Rattle.laws.specs.Past.{is_over, is_taken, Reached}
use Rattle.laws.proofs.AnyCall.Found.{lowest_free_lem}
use Rattle.laws.proofs.Handles.Naming.{live_told}
use Rattle.laws.proofs.PlaceByPlace.Places.{Order, Each, touched_each, drained_each, advanced_each, closed_each}

-- a timer's use number is no lower than it was, and what was given out or over is
pub record Later (t r : Timer) : Type 0 where
  pub rises : t.uses ≤ r.uses
  pub given : (u : ℕ) → Reached is_taken t u → Reached is_taken r u
  pub over : (u : ℕ) → Reached is_over t u → Reached is_over r u

-- with the use number that it had
reached_life : (f : Life → Bool) (t r : Timer) → r.uses ≡ t.uses → (f t.life ≡ true → f r.life ≡ true) → (u : ℕ) → Reached f t u → Reached f r u
reached_life f t r e i u = ⊎_elim (λ b. inl (omega arith)) (λ q. inr (q.0 ∙ sym e, i q.1))

-- a timer that keeps its use number is later where it is not free if it was not, and over if it was
later_life : (t r : Timer) → r.uses ≡ t.uses → (is_taken t.life ≡ true → is_taken r.life ≡ true)
    → (is_over t.life ≡ true → is_over r.life ≡ true) → Later t r
later_life t r e f g = record { rises = omega arith; given = reached_life is_taken t r e f; over = reached_life is_over t r e g }

-- this is such a relation of timers as the walks ask for
pub later_order : Order Later
later_order = record {
  blind = λ t r l e. later_life t r e (λ q. ap is_taken l ∙ q) (λ q. ap is_over l ∙ q);
  then = λ a b c p q. record {
    rises = omega (arith, p.rises, q.rises);
    given = λ u x. q.given u (p.given u x);
    over = λ u x. q.over u (p.over u x);
  };
}

-- a place that is freed has a higher use number, or is retired with the one that it had
reached_freed : (f : Life → Bool) → f Retired ≡ true → (t : Timer) (u : ℕ) → Reached f t u → Reached f (freed_of t.uses) u
reached_freed f e t u x =
    cond-ref (λ (r : Timer). Reached f r u) (ref_eq t.uses 4294967295)
    (λ _. ⊎_elim (λ b. inl b) (λ q. inr (q.0, e)) x) (λ _. ⊎_elim (λ b. inl (omega arith)) (λ q. inl (omega (arith, q.0))) x)

freed_later : (t : Timer) (w : ℕ) → t.life ≡ Cancelled w → Later t (freed_of t.uses)
freed_later t w e = record {
  rises = cond-ref (λ (r : Timer). t.uses ≤ r.uses) (ref_eq t.uses 4294967295) (λ _. omega arith) (λ _. omega arith);
  given = reached_freed is_taken refl t;
  over = reached_freed is_over refl t;
}

-- what rings is free or over only if it was
rung_kind : (g : ℕ) (l : Life) → (is_taken (rung_life g l) ≡ is_taken l) × (is_over (rung_life g l) ≡ is_over l)
rung_kind g Free = (refl, refl)
rung_kind g (Live w d) = (refl, refl)
rung_kind g (Cancelled w) = (refl, refl)
rung_kind g Retired = (refl, refl)

rung_later : (g : ℕ) (t : Timer) → Later t (rung_timer g t)
rung_later g t = let k = rung_kind g t.life in later_life t (rung_timer g t) refl (λ e. k.0 ∙ e) (λ e. k.1 ∙ e)

-- and so is what is marked
marked_kind : (l : Life) → (is_taken (marked_life l) ≡ is_taken l) × (is_over (marked_life l) ≡ is_over l)
marked_kind Free = (refl, refl)
marked_kind (Live w d) = (refl, refl)
marked_kind (Cancelled w) = (refl, refl)
marked_kind Retired = (refl, refl)

marked_later : (t : Timer) (w : Waiting) → Later t (record { life = marked_life t.life; waiting = w; held = None; uses = t.uses })
marked_later t w = let k = marked_kind t.life in later_life t _ refl (λ e. k.0 ∙ e) (λ e. k.1 ∙ e)

-- THE RULES

-- an add
pub added_later : (s : Set) (p d : ℕ) → lowest_free s ≡ some p → Each Later s (touched_of s p (Live 0 d))
added_later s p d e =
    touched_each Later later_order s p (Live 0 d)
    (λ w. later_life (timer_at s p) _ refl (λ _. refl) (λ q. true_false q (ap is_over (lowest_free_lem s p e))))

-- a touch of a live timer that stays live or is cancelled
pub touched_later : (s : Set) (h : Handle) (t : Timing) (l : Life) → is_free l ≡ false → live_at s h ≡ some t → Each Later s (touched_of s h.place.0 l)
touched_later s h t l f e =
    touched_each Later later_order s h.place.0 l
    (λ w. later_life (timer_at s h.place.0) _ refl (λ _. ap not f) (λ q. true_false q (ap is_over (live_told s h t e).is_live)))

-- a drain
pub drained_later : (s : Set) → Each Later s (drained_of s)
drained_later = drained_each Later later_order freed_later

-- an advance
pub advanced_later : (s : Set) (N : ℕ) (l : List ℕ) → Each Later s (advanced_of s N l).set
advanced_later = advanced_each Later later_order rung_later

-- a close
pub closed_later : (s : Set) → Each Later s (closed_of s)
closed_later = closed_each Later later_order marked_later
