-- What two sets that differ only in room not in use say to a call before it is made: the test says the same of both, both are closed
-- or neither, and a handle names the same timer. Where the test says yes, their heaps are sound.
-- Assumes nothing.
use mathlib.Core.Path.{◌≡◌, refl, sym, ap, subst}
use mathlib.Core.Option.{Option, none, some}
use Rattle.theory.proofs.Tests.{ref_true}
use Rattle.refusals.specs.declared.fault.Fault.{Fault}
use Rattle.refusals.specs.declared.Refusal.TheVariants.{Unsound, Closed, DeadHandle}
use Rattle.refusals.specs.Answer.{Answer, refuse, Outcome, kept}
use Rattle.theory.specs.Chain.{clear}
use Rattle.heap.proofs.UnusedRoom.InUseWalks.{choose_ref}
use Rattle.state.specs.declared.Set.{Set}
use Rattle.state.specs.declared.Handle.{Handle}
use Rattle.state.specs.Faults.{fault_of, sound_of}
use Rattle.state.specs.InUse.{Twins}
use Rattle.state.proofs.PlaceTest.{ref_self}
use Rattle.state.proofs.Parts.{ref_passed}
use Rattle.state.proofs.InUse.{by_heap, fault_in_use}
use Rattle.timers.specs.declared.Timing.{Timing}
use Rattle.timers.specs.Calls.{Value, judged, refusing, gives, guarded, opened, live_at, alive}
use Rattle.laws.specs.InUse.{SameOutcome}
use Rattle.laws.proofs.UnusedRoom.InUseDrain.{Alike}

-- a refusal leaves both as they were
pub kept_same : {S : Type 0} (R : S → S → Type 0) {k j : S} → R k j → (a : Answer Value) → SameOutcome R (kept k a) (kept j a)
kept_same R e a = record { answers = refl; states = e }

-- the same value is given, with new sets
pub gives_same : {a b : Set} → Alike a b → (v : Value) → SameOutcome Twins (gives a v) (gives b v)
gives_same q v = record { answers = refl; states = q.twins }

module _ {a b : Set} (r : Twins a b) where
  -- the test lets both through, as sets with sound heaps, or neither
  pub guarded_same : {S : Type 0} (R : S → S → Type 0) {k j : S} {o q : Outcome S Value} → R k j → (Alike a b → SameOutcome R o q)
      → SameOutcome R (guarded a k o) (guarded b j q)
  unfolding guarded sound_of
  guarded_same R {k} {j} {o} {q} e f =
      subst (λ (x : Option Fault). SameOutcome R (judged x o (λ y. refusing k (Unsound y))) (judged (fault_of b) q (λ y. refusing j (Unsound y))))
      (sym (fault_in_use r)) (go (fault_of b) refl)
    where
      go : (x : Option Fault) → fault_of b ≡ x → SameOutcome R (judged x o (λ y. refusing k (Unsound y))) (judged x q (λ y. refusing j (Unsound y)))
      go none n = f (record { twins = r; sound = (ref_true (ref_passed b r.right.entries_long r.right.slots_long) (ap clear n)).heap })
      go (some y) n = kept_same R e (refuse (Unsound y))

  -- and then where they are open
  pub open_same : {S : Type 0} (R : S → S → Type 0) {k j : S} {o q : Outcome S Value} → R k j → (Alike a b → SameOutcome R o q)
      → SameOutcome R (guarded a k (opened a k o)) (guarded b j (opened b j q))
  open_same R e f =
      guarded_same R e
      (λ q. choose_ref (SameOutcome R) r.same.same_closed (ref_self b.closed) (λ _. kept_same R e (refuse Closed)) (λ _. f q))

  -- a handle names the same in both
  pub alive_same : (h : Handle) {f g : Timing → Outcome Set Value} → ((t : Timing) → SameOutcome Twins (f t) (g t))
      → SameOutcome Twins (alive a (live_at a h) f) (alive b (live_at b h) g)
  unfolding live_at
  alive_same h {f} {g} e =
      subst (λ (x : Option Timing). SameOutcome Twins (alive a x f) (alive b (live_at b h) g)) (sym named) (go (live_at b h))
    where
      named : live_at a h ≡ live_at b h
      named = by_heap (λ (c d : Set). live_at c h ≡ live_at d h) (λ s g _. refl) r

      go : (x : Option Timing) → SameOutcome Twins (alive a x f) (alive b x g)
      go none = kept_same Twins r (refuse DeadHandle)
      go (some t) = e t
