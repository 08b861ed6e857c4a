-- The least time left is that of the earliest deadline, and the tests before it are those of every call that a closed set refuses.
-- Assumes nothing.
use mathlib.Core.Path.{◌≡◌, refl, sym, ap}
use mathlib.Core.Bool.{Bool, true, false, cond}
use mathlib.Core.Option.{Option, none, some}
use Prim.Native.Nat.{ℕ}
use native.Mathlib.Omega.{arith}
use lib.Dec.{ltb}
use lib.IntN.{ℤ}
use lib.Signed.{lt_z}
use Rattle.theory.specs.Least.{through, least_below}
use Rattle.theory.proofs.Least.{least_through}
use Rattle.refusals.specs.declared.fault.Fault.{Fault}
use Rattle.refusals.specs.declared.Refusal.{Refusal}
use Rattle.refusals.specs.declared.Refusal.TheVariants.{Unsound, Closed}
use Rattle.refusals.specs.Answer.{Answer, accepted, refuse, Nothing}
use Rattle.refusals.proofs.Apart.{refuse_apart}
use Rattle.refusals.proofs.Refusing.{any_refusal, not_both}
use Rattle.refusals.proofs.Differences.{minus_order}
use Rattle.heap.specs.Capacity.{cap}
use Rattle.state.specs.declared.Set.{Set}
use Rattle.state.specs.Faults.{fault_of, sound_of}
use Rattle.timers.specs.Calls.{Timing, judged, open_of}
use Rattle.timers.specs.Left.{left_at, time_left_by, pending_at, or_none, least_by, least_left_of, soonest_of}
use Rattle.timers.proofs.Guarding.{sound_none}

-- the least number left is that of the earliest deadline
pub least_by_due : (s : Set) (N : ℕ) → least_below lt_z (λ p. through (left_at N) (pending_at s p)) cap ≡ through (left_at N) (soonest_of s)
unfolding soonest_of
least_by_due s N = least_through ltb lt_z (left_at N) (minus_order N) (pending_at s) cap

-- turned away by the tests
pub least_shut : (s : Set) (N : ℕ) (why : Refusal) → refuse why ≡ open_of s → refuse why ≡ least_left_of s N
unfolding open_of least_left_of
least_shut s N why e = go (fault_of s) s.closed _ e
  where
    go : (x : Option Fault) (c : Bool) (a : Answer (Option ℤ))
        → ◌≡◌ {A = Answer Nothing} (refuse why) (judged x (cond c (refuse Closed) (accepted tt)) (λ y. refuse (Unsound y)))
        → refuse why ≡ judged x (cond c (refuse Closed) a) (λ y. refuse (Unsound y))
    go none false a e = absurd (not_both why (sym e))
    go none true a e = ap refuse (refuse_apart why Closed e)
    go (some x) c a e = ap refuse (refuse_apart why (Unsound x) e)

-- let through by them, it is the difference from that
pub least_open : (s : Set) (N : ℕ) → (sound_of s ≡ true) × (s.closed ≡ false) → least_left_of s N ≡ least_by (through (left_at N) (soonest_of s))
unfolding least_left_of
least_open s N p = grind (arith, sound_none, least_by_due)

-- a difference that is refused is the answer
pub least_refused : (why : Refusal) → refuse why ≡ or_none (refuse why)
least_refused why = any_refusal (λ (a : Answer (Option ℤ)). a) or_none (λ n. refl) (λ x. refl) why

pub left_refused : (N : ℕ) (why : Refusal) → refuse why ≡ time_left_by N (refuse why)
left_refused N why = any_refusal (λ (a : Answer ℤ). a) (time_left_by N) (λ n. refl) (λ x. refl) why
