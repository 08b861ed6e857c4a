-- After any calls from fresh the set fits, and is as the ledger says.
-- Assumes nothing.
use mathlib.Core.Path.{◌≡◌, refl}
use mathlib.Core.Option.{none}
use mathlib.Core.List.{List, [], ◌∷◌}
use Prim.Native.Nat.{ℕ}
use native.Mathlib.Omega.{arith}
use borrow.Author.Tests.{le-ltb}
use Rattle.theory.proofs.Tests.{by-ref, ref_lt, true_false}
use Rattle.heap.specs.Capacity.{cap}
use Rattle.state.specs.declared.Set.{Set}
use Rattle.state.specs.declared.Handle.{Handle}
use Rattle.state.specs.State.{fresh_of, timer_at}
use Rattle.state.proofs.FreshSound.{fresh_at}
use Rattle.timers.specs.declared.Call.{Call}
use Rattle.timers.specs.Calls.{live_at}
use Rattle.laws.specs.Words.{Fit}
use Rattle.laws.proofs.Handles.Naming.{names_dead, live_none}
use Rattle.laws.proofs.Soundness.StepSound.{after_fit, fresh_fit}
use Rattle.promises.specs.Turns.{Ledger, Run, next, from, run, Bounded}
use Rattle.promises.specs.Engine.{ours}
use Rattle.promises.proofs.Ledger.Tracks.{stands_under}
use Rattle.promises.proofs.Ledger.TracksPlaces.{fresh_housed}
use Rattle.promises.proofs.Ledger.TracksSteps.{Low, Follows, step_follows}

-- the set of a moment fits, and is as its ledger says
pub record Good (B : Type 0) (r : Run ours) : Type 0 where
  pub fit : Fit r.state
  pub follows : Follows B r.state r.ledger

-- a stronger premise will do
follows_under : (B D : Type 0) → (D → B) → (s : Set) (L : Ledger) → Follows B s L → Follows D s L
follows_under B D g s L f = record {
  closed_too = f.closed_too;
  tracks = λ c h. stands_under B D g (live_at s h) _ _ (L.line h) (f.tracks c h);
  housed = f.housed;
  gone = f.gone;
}

-- one call more
pub next_good : (B : Type 0) (r : Run ours) → Good B r → (c : Call) (l : List ℕ) → Good (B × Low r.ledger) (next ours r c l)
unfolding next
next_good B r g c l = record {
  fit = after_fit ((c, l) ∷ []) r.state g.fit;
  follows =
      step_follows (B × Low r.ledger) r.state r.ledger g.fit (λ b. b.1)
      (follows_under B (B × Low r.ledger) (λ b. b.0) r.state r.ledger g.follows) c l;
}

-- any calls more
from_good : (cs : List (Call × List ℕ)) (B : Type 0) (r : Run ours) → Good B r → Good (B × Bounded ours r cs) (from ours r cs)
unfolding from Bounded
from_good [] B r g = record { fit = g.fit; follows = follows_under B (B × Bounded ours r []) (λ b. b.0) r.state r.ledger g.follows }
from_good (c ∷ cs) B r g =
    let q = next ours r c.0 c.1 in
    let k = from_good cs (B × Low r.ledger) q (next_good B r g c.0 c.1) in
    record {
      fit = k.fit;
      follows =
          follows_under ((B × Low r.ledger) × Bounded ours q cs) (B × (Low r.ledger × Bounded ours q cs)) (λ b. ((b.0, b.1.0), b.1.1))
          (from ours q cs).state (from ours q cs).ledger k.follows;
    }

-- under the premise the ledger's counts are low
pub bounded_low : (cs : List (Call × List ℕ)) (r : Run ours) → Bounded ours r cs → Low (from ours r cs).ledger
unfolding from Bounded
bounded_low [] r b = b
bounded_low (c ∷ cs) r b = bounded_low cs (next ours r c.0 c.1) b.1

-- in a fresh set every handle is dead
fresh_dead : (h : Handle) → live_at fresh_of h ≡ none
unfolding live_at
fresh_dead h = by-ref (ref_lt h.place.0 cap)
    (λ b. live_none fresh_of h (names_dead (timer_at fresh_of h.place.0) h.uses (rw (fresh_at h.place.0 b) refl)))
    (λ n. rw (le-ltb h.place.0 cap (omega arith)) refl)

-- at the beginning
begin_good : Good (Unit {0}) (run ours [])
unfolding from
begin_good = record {
  fit = fresh_fit;
  follows = record { closed_too = refl; tracks = λ _ h. rw (fresh_dead h) refl; housed = λ _. fresh_housed; gone = λ e. true_false e refl };
}

-- after any calls from fresh
pub run_good : (cs : List (Call × List ℕ)) → Good (Unit {0} × Bounded ours (run ours []) cs) (run ours cs)
unfolding from
run_good cs = from_good cs (Unit {0}) (run ours []) begin_good
