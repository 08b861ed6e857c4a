-- Who has a place, place by place: a drain and an advance give out no handle and keep every use number in its range, and an advance
-- cancels nobody and frees no place. After a drain nobody is cancelled. What an add, a reset and a cancel do is told by the life that
-- they leave.
-- Assumes nothing.
use mathlib.Core.Path.{◌≡◌, refl, sym, ◌∙◌, ap, ap₂, subst}
use mathlib.Core.Bool.{Bool, false, not}
use mathlib.Core.List.{List}
use Prim.Native.Nat.{ℕ, suc, ◌+◌, ◌<◌}
use native.Mathlib.Omega.{arith}
use lib.ListN.{length}
use Rattle.theory.specs.First.{first_bad}
use Rattle.theory.proofs.Tests.{ref_eq, cond-ref, true_false}
use Rattle.theory.proofs.First.{first_same}
use Rattle.heap.specs.Capacity.{cap}
use Rattle.state.specs.declared.Life.{Life}
use Rattle.state.specs.declared.Life.TheVariants.{Free, Live, Cancelled, Retired}
use Rattle.state.specs.declared.Timer.{Timer}
use Rattle.state.specs.declared.Set.{Set}
use Rattle.state.specs.State.{timer_at, is_waiting, fresh_of}
use Rattle.state.specs.Sound.{Sound}
use Rattle.state.proofs.FreshSound.{fresh_at}
use Rattle.moves.specs.Rules.{is_free, taken, lowest_free, touched_of, freed_of, drained_of, rung_life, advanced_of}
use Rattle.laws.specs.Words.{Words}
use Rattle.laws.specs.Rooms.{given_by, given_of, is_cancelled, InUses}
use Rattle.laws.proofs.Parts.Freed.{freed_by}
use Rattle.laws.proofs.Soundness.DrainSound.{drained_sound, drained_open, drained_none_waits}
use Rattle.laws.proofs.PlaceByPlace.Places.{Order, Each, drained_each, advanced_each}
use Rattle.laws.proofs.Handles.ByHandle.{touched_here}

-- RELATIONS OF TIMERS

-- as many handles were given out as before, and the use number stays in its range
record Keeps (t r : Timer) : Type 0 where
  pub given : given_of r ≡ given_of t
  pub in_uses : InUses t → InUses r

-- a life is free, cancelled or retired as another is
record Kind (l m : Life) : Type 0 where
  pub free : is_free m ≡ is_free l
  pub cancelled : is_cancelled m ≡ is_cancelled l
  pub retired : m ≡ Retired → l ≡ Retired

-- the use number is as it was, and so is the kind of life
record Alike (t r : Timer) : Type 0 where
  pub uses : r.uses ≡ t.uses
  pub kind : Kind t.life r.life

-- the same life is of the same kind
same_kind : (l m : Life) → m ≡ l → Kind l m
same_kind l m e = record { free = ap is_free e; cancelled = ap is_cancelled e; retired = λ q. sym e ∙ q }

-- timers that are alike have given out as many handles
alike_keeps : (t r : Timer) → Alike t r → Keeps t r
alike_keeps t r a = record {
  given = let f = a.kind.free in let u = a.uses in cc;
  in_uses = λ u. record { fits = omega (arith, a.uses, u.fits); retired_last = λ e. a.uses ∙ u.retired_last (a.kind.retired e) };
}

-- this is such a relation of timers as the walks ask for
alike_order : Order Alike
alike_order = record {
  blind = λ t r l u. record { uses = u; kind = same_kind t.life r.life l };
  then = λ a b c p q. record {
    uses = q.uses ∙ p.uses;
    kind = record {
      free = q.kind.free ∙ p.kind.free;
      cancelled = q.kind.cancelled ∙ p.kind.cancelled;
      retired = λ e. p.kind.retired (q.kind.retired e);
    };
  };
}

-- and so is this
keeps_order : Order Keeps
keeps_order = record {
  blind = λ t r l u. alike_keeps t r (alike_order.blind t r l u);
  then = λ a b c p q. record { given = q.given ∙ p.given; in_uses = λ u. q.in_uses (p.in_uses u) };
}

-- no life is free and retired
free_retired : {A : Type 0} → Free ≡ Retired → A
free_retired e = let z : ◌≡◌ {A = ℕ} 0 1 = cc in absurd (omega arith)

-- the place of a cancelled timer that is freed: its handle is among those below the new use number
freed_keeps : (t : Timer) (w : ℕ) → t.life ≡ Cancelled w → Keeps t (freed_of t.uses)
freed_keeps t w e = record {
  given = freed_by (λ r. given_of r ≡ given_of t) t.uses (sym here) (let s : t.uses + 1 ≡ suc t.uses = omega arith in s ∙ sym here);
  in_uses = λ u. cond-ref InUses (ref_eq t.uses 4294967295)
      (λ q. record { fits = u.fits; retired_last = λ _. q })
      (λ n. record { fits = omega (arith, u.fits, n); retired_last = λ f. free_retired f });
}
  where
    here : given_of t ≡ suc t.uses
    here = ap (λ (l : Life). given_by l t.uses) e

-- to ring keeps the kind of life
rung_kind : (g : ℕ) (l : Life) → Kind l (rung_life g l)
rung_kind g Free = same_kind Free Free refl
rung_kind g (Live w d) = record { free = refl; cancelled = refl; retired = λ e. cc }
rung_kind g (Cancelled w) = record { free = refl; cancelled = refl; retired = λ e. cc }
rung_kind g Retired = same_kind Retired Retired refl

-- A DRAIN, AN ADVANCE, A CLOSE

-- a drain gives out no handle, and keeps the use numbers in their range
drained_rooms : (s : Set) → Each Keeps s (drained_of s)
drained_rooms = drained_each Keeps keeps_order freed_keeps

-- an advance leaves every timer's use number and kind of life
advanced_alike : (s : Set) (N : ℕ) (l : List ℕ) → Each Alike s (advanced_of s N l).set
advanced_alike = advanced_each Alike alike_order (λ g t. record { uses = refl; kind = rung_kind g t.life })

-- after a drain as many handles of a place were given out as before
pub drained_given : (s : Set) (p : ℕ) → given_of (timer_at (drained_of s) p) ≡ given_of (timer_at s p)
drained_given s p = (drained_rooms s p).given

-- after an advance too
pub advanced_given : (s : Set) (N : ℕ) (l : List ℕ) (p : ℕ) → given_of (timer_at (advanced_of s N l).set p) ≡ given_of (timer_at s p)
advanced_given s N l p = (alike_keeps _ _ (advanced_alike s N l p)).given

-- a drain keeps the use numbers in their range
pub drained_in_uses : (s : Set) (p : ℕ) → InUses (timer_at s p) → InUses (timer_at (drained_of s) p)
drained_in_uses s p = (drained_rooms s p).in_uses

-- so does an advance
pub advanced_in_uses : (s : Set) (N : ℕ) (l : List ℕ) (p : ℕ) → InUses (timer_at s p) → InUses (timer_at (advanced_of s N l).set p)
advanced_in_uses s N l p = (alike_keeps _ _ (advanced_alike s N l p)).in_uses

-- after an advance the same timers are cancelled
pub advanced_cancelled : (s : Set) (N : ℕ) (l : List ℕ) (p : ℕ)
    → is_cancelled (timer_at (advanced_of s N l).set p).life ≡ is_cancelled (timer_at s p).life
advanced_cancelled s N l p = (advanced_alike s N l p).kind.cancelled

-- and every use number is as it was
pub advanced_uses : (s : Set) (N : ℕ) (l : List ℕ) (p : ℕ) → (timer_at (advanced_of s N l).set p).uses ≡ (timer_at s p).uses
advanced_uses s N l p = (advanced_alike s N l p).uses

-- a life that is no cancelled one
none_cancelled : (l : Life) → ((w : ℕ) → l ≡ Cancelled w → ⊥) → is_cancelled l ≡ false
none_cancelled Free n = refl
none_cancelled (Live w d) n = refl
none_cancelled (Cancelled w) n = absurd (n w refl)
none_cancelled Retired n = refl

-- after a drain nobody is cancelled, for a cancelled timer of an open set waits
pub drained_none_cancelled : (s : Set) → Sound s → s.closed ≡ false → Words s → (p : ℕ) → p < cap
    → is_cancelled (timer_at (drained_of s) p).life ≡ false
drained_none_cancelled s ok c words p b =
    none_cancelled (timer_at (drained_of s) p).life
    (λ w e. true_false
    ((drained_sound s ok c words).cancelled_waits p w b (drained_open s ok c words) e)
    (ap is_waiting (drained_none_waits s ok c words p b)))

-- A TOUCH; the other places keep their timers (`touched_other`)

module _ (s : Set) (p : ℕ) (l : Life) (long : length s.timers ≡ cap) (b : p < cap) where
  -- the life that it leaves tells how many handles were given out
  pub touched_given : given_of (timer_at (touched_of s p l) p) ≡ given_by l (timer_at s p).uses
  touched_given = let t = touched_here s p l long b in ap₂ given_by t.1 t.0

  -- and whether the timer is cancelled
  pub touched_cancelled : is_cancelled (timer_at (touched_of s p l) p).life ≡ is_cancelled l
  touched_cancelled = ap is_cancelled (touched_here s p l long b).1

  -- the use number stays in its range where nobody is retired
  pub touched_in_uses : (l ≡ Retired → ⊥) → InUses (timer_at s p) → InUses (timer_at (touched_of s p l) p)
  touched_in_uses n u =
      let t = touched_here s p l long b in
      record { fits = omega (arith, t.0, u.fits); retired_last = λ e. absurd (n (sym t.1 ∙ e)) }

-- THE FRESH SET

module _ (p : ℕ) (b : p < cap) where
  -- no handle was given out
  pub fresh_given : given_of (timer_at fresh_of p) ≡ 0
  fresh_given = ap given_of (fresh_at p b)

  -- nobody is cancelled
  pub fresh_cancelled : is_cancelled (timer_at fresh_of p).life ≡ false
  fresh_cancelled = ap (λ (t : Timer). is_cancelled t.life) (fresh_at p b)

  -- the use numbers are in their range
  pub fresh_in_uses : InUses (timer_at fresh_of p)
  fresh_in_uses = subst InUses (sym (fresh_at p b)) (record { fits = omega arith; retired_last = λ e. free_retired e })

-- THE LOWEST FREE PLACE

-- it is the first that fails any test which says of each place whether it is not free
pub lowest_by : (s : Set) (f : ℕ → Bool) → ((p : ℕ) → p < cap → not (is_free (timer_at s p).life) ≡ f p) → lowest_free s ≡ first_bad f cap 0
unfolding lowest_free taken
lowest_by s f h = first_same (taken s) f cap 0 (λ p _ b. h p (omega arith))
