-- What the tests of two rows tell, as facts: when a handle is dead, and when no place is free.
-- Assumes nothing.
use mathlib.Core.Path.{◌≡◌, refl, ap}
use mathlib.Core.Logic.{◌≢◌, ◌⊎◌, inl, inr, ⊎_elim}
use mathlib.Core.Bool.{Bool, true, ◌||◌}
use Prim.Native.Nat.{ℕ, ◌≤◌, ◌<◌}
use native.Mathlib.Omega.{arith}
use Rattle.theory.specs.Tests.{Ref, holds, fails}
use Rattle.theory.specs.Counting.{count}
use Rattle.theory.proofs.Counting.{count_none, count_zero}
use Rattle.theory.proofs.Tests.{ref_le, ref_eq, ref_not, ref_map, is_false}
use Rattle.heap.specs.Capacity.{cap}
use Rattle.state.specs.declared.Life.{Life}
use Rattle.state.specs.declared.Life.TheVariants.{Free, Live, Cancelled, Retired}
use Rattle.state.specs.declared.Set.{Set}
use Rattle.state.specs.declared.Handle.{Handle}
use Rattle.state.specs.State.{timer_at}
use Rattle.moves.specs.Rules.{is_free}
use Rattle.promises.specs.Conditions.{life_at, not_live, dead, free_at, full}

ref_or : {P Q : Type 0} {a b : Bool} → Ref P a → Ref Q b → Ref (P ⊎ Q) (a || b)
ref_or (holds p) r = holds (inl p)
ref_or (fails n) (holds q) = holds (inr q)
ref_or (fails n) (fails m) = fails (λ e. ⊎_elim n m e)

not_live_told : (x : Life) → Ref ((w d : ℕ) → x ≢ Live w d) (not_live x)
not_live_told Free = holds (λ w d e. let z : ◌≡◌ {A = ℕ} 0 1 = cc in omega arith)
not_live_told (Live w d) = fails (λ h. h w d refl)
not_live_told (Cancelled v) = holds (λ w d e. let z : ◌≡◌ {A = ℕ} 0 1 = cc in omega arith)
not_live_told Retired = holds (λ w d e. let z : ◌≡◌ {A = ℕ} 0 1 = cc in omega arith)

-- row 3: the place is out of range, or is not a live timer's, or has another use number
pub dead_told : (s : Set) (h : Handle)
    → Ref ((cap ≤ h.place.0) ⊎ (((w d : ℕ) → life_at s h ≢ Live w d) ⊎ ((timer_at s h.place.0).uses ≢ h.uses))) (dead s h)
dead_told s h =
    ref_or (ref_le cap h.place.0) (ref_or (not_live_told (life_at s h)) (ref_not (ref_eq (timer_at s h.place.0).uses h.uses)))

free_told : (x : Life) → is_free x ≡ true → x ≡ Free
free_told Free e = refl
free_told (Live w d) e = let z : ◌≡◌ {A = ℕ} 0 1 = cc in absurd (omega arith)
free_told (Cancelled w) e = let z : ◌≡◌ {A = ℕ} 0 1 = cc in absurd (omega arith)
free_told Retired e = let z : ◌≡◌ {A = ℕ} 0 1 = cc in absurd (omega arith)

-- row 4: of the places in range none is free
pub full_told : (s : Set) → Ref ((p : ℕ) → p < cap → (timer_at s p).life ≢ Free) (full s)
full_told s =
    ref_map (ref_eq (count (free_at s) cap) 0) (λ z p l e. count_zero (free_at s) cap z p l (ap is_free e))
    (λ h. count_none (free_at s) cap (λ p l. is_false (free_at s p) (λ e. h p l (free_told (timer_at s p).life e))))
