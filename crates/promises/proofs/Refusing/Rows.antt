-- Each test that a call on a set makes before it acts is a row of the table: a call refused there has that row's number, and else it is as
-- what comes after says.
-- Assumes nothing.
use mathlib.Core.Path.{◌≡◌, refl, sym, ap, ◌∙◌}
use mathlib.Core.Logic.{◌≢◌}
use mathlib.Core.Bool.{Bool, true, false, not, cond, ◌&&◌, ◌||◌}
use mathlib.Core.Option.{Option, none, some}
use mathlib.Core.List.{List}
use Prim.Native.Nat.{ℕ, ◌+◌, ◌-◌, ◌%◌, ◌^◌, ◌<◌}
use native.Mathlib.Omega.{arith}
use lib.Dec.{ltb, leb, eqb}
use lib.ListN.{length}
use Rattle.theory.specs.Counting.{count}
use Rattle.theory.proofs.Counting.{count_none, count_zero}
use Rattle.theory.proofs.First.{none_all, all_none}
use Rattle.theory.proofs.Tests.{ref_lt, ref_le, ref_eq, true_ref, false_ref, by-ref, is_false, none_some}
use Rattle.refusals.specs.declared.fault.Fault.{Fault}
use Rattle.refusals.specs.declared.Refusal.TheVariants.{Unsound}
use Rattle.theory.specs.Chain.{clear}
use Rattle.refusals.specs.Answer.{Answer, accepted, refused, Outcome, unsound}
use Rattle.refusals.specs.Times.{timely}
use Rattle.heap.specs.Capacity.{cap}
use Rattle.word.specs.Rules.{fired_in}
use Rattle.interval.specs.declared.Policy.{Policy}
use Rattle.interval.specs.declared.Policy.TheVariants.{Burst, Delay, Skip}
use Rattle.interval.specs.Rules.{late_at, earlier, late_of, tick_of, restart_of}
use Rattle.state.specs.declared.Life.{Life}
use Rattle.state.specs.declared.Life.TheVariants.{Free, Live, Cancelled, Retired}
use Rattle.state.specs.declared.Set.{Set}
use Rattle.state.specs.declared.Handle.{Handle}
use Rattle.state.specs.State.{timer_at}
use Rattle.state.specs.Faults.{fault_of, sound_of}
use Rattle.moves.specs.Rules.{taken, lowest_free}
use Rattle.timers.specs.declared.Timing.{Timing}
use Rattle.timers.specs.Calls.{Value, Lent, judged, refusing, guarded, opened, alive, timing_of, live_at, added_at, roomy, ticked, ticked_by, restarted_by}
use Rattle.promises.specs.Conditions.{damaged, life_at, not_live, dead, free_at, full, short, word_in, due_in, not_fired, is_skip, zero_period, above, late_sum, tick_sum}
use Rattle.promises.specs.Table.{refusal_in}

-- 1: the test of soundness
pub unsound_row : (s : Set) {S : Type 0} (k : S) (o : Outcome S Value) (rest : Option ℕ) → refusal_in o.answer ≡ rest
    → refusal_in (guarded s k o).answer ≡ cond (damaged s) (some 1) rest
unfolding guarded sound_of
unsound_row s k o rest e = go (fault_of s)
  where
    go : (x : Option Fault) → refusal_in (judged x o (λ y. refusing k (Unsound y))).answer ≡ cond (not (clear x)) (some 1) rest
    go none = e
    go (some y) = refl

-- 2: the test of the closed mark
pub closed_row : (s : Set) {S : Type 0} (k : S) (o : Outcome S Value) (rest : Option ℕ) → refusal_in o.answer ≡ rest
    → refusal_in (opened s k o).answer ≡ cond s.closed (some 2) rest
closed_row s k o rest e = go s.closed
  where
    go : (b : Bool) → refusal_in (cond b (record { state = k; answer = refused 2 }) o).answer ≡ cond b (some 2) rest
    go true = refl
    go false = e

-- a test and its opposite
pub at_least : (a b : ℕ) → leb b a ≡ not (ltb a b)
at_least a b =
    by-ref (ref_lt a b) (λ h. false_ref (ref_le b a) (omega arith) ∙ sym (ap not (true_ref (ref_lt a b) h)))
    (λ h. true_ref (ref_le b a) (omega arith) ∙ sym (ap not (false_ref (ref_lt a b) h)))

-- 3: the test of the handle; what comes after may read the live timer's word and deadline where the table reads them
pub dead_row : (s : Set) (h : Handle) (f : Timing → Outcome Set Value) (rest : Option ℕ)
    → ((t : Timing) → word_in (life_at s h) ≡ t.word → due_in (life_at s h) ≡ t.due → refusal_in (f t).answer ≡ rest)
    → refusal_in (alive s (live_at s h) f).answer ≡ cond (dead s h) (some 3) rest
unfolding live_at
dead_row s h f rest more =
    rw (at_least h.place.0 cap) (go (ltb h.place.0 cap) (eqb (timer_at s h.place.0).uses h.uses) (life_at s h) refl)
  where
    go : (b u : Bool) (x : Life) → life_at s h ≡ x
        → refusal_in (alive s (cond (b && u) (timing_of x) none) f).answer ≡ cond (not b || (not_live x || not u)) (some 3) rest
    go false u x e = refl
    go true true Free e = refl
    go true true (Live w d) e = more (record { word = w; due = d }) (ap word_in e) (ap due_in e)
    go true true (Cancelled w) e = refl
    go true true Retired e = refl
    go true false Free e = refl
    go true false (Live w d) e = refl
    go true false (Cancelled w) e = refl
    go true false Retired e = refl

-- 4: the search for a free place finds none exactly where the table says so
pub full_row : (s : Set) (d : ℕ) → refusal_in (added_at s d (lowest_free s)).answer ≡ cond (full s) (some 4) none
unfolding lowest_free taken
full_row s d = go (lowest_free s) refl
  where
    flip : (b : Bool) → not b ≡ true → b ≡ false
    flip true e = sym e
    flip false e = refl

    go : (o : Option ℕ) → lowest_free s ≡ o → refusal_in (added_at s d o).answer ≡ cond (full s) (some 4) none
    go none e =
        let z : count (free_at s) cap ≡ 0 = count_none (free_at s) cap (λ i l. flip (free_at s i) (none_all (taken s) cap 0 e i (omega arith) l)) in
        sym (ap (λ (b : Bool). cond b (some 4) none) (true_ref (ref_eq (count (free_at s) cap) 0) z))
    go (some p) e =
        let passed : (i : ℕ) → i < cap → count (free_at s) cap ≡ 0 → taken s i ≡ true =
        λ i l z. ap not (is_false (free_at s i) (count_zero (free_at s) cap z i l)) in
        let n : count (free_at s) cap ≢ 0 = λ z. none_some (all_none (taken s) cap 0 (λ i k l. passed i l z)) e in
        sym (ap (λ (b : Bool). cond b (some 4) none) (false_ref (ref_eq (count (free_at s) cap) 0) n))

-- 5: the test of the lent list
pub short_row : (s : Set) (l : List ℕ) (o : Outcome Lent Value) → refusal_in o.answer ≡ none
    → refusal_in (roomy s l o).answer ≡ cond (short l) (some 5) none
short_row s l o e = rw (at_least (length l) cap) (go (ltb (length l) cap))
  where
    go : (b : Bool) → refusal_in (cond (not b) o (record { state = record { set = s; list = l }; answer = refused 5 })).answer ≡ cond b (some 5) none
    go true = refl
    go false = e

-- a sum of times
pub timely_row : (t : ℕ) → refusal_in (timely t) ≡ cond (above t) (some 6) none
timely_row t = rw at_most (go (ltb t (2 ^ 64)))
  where
    at_most : above t ≡ not (ltb t (2 ^ 64))
    at_most = at_least t (2 ^ 64)

    go : (b : Bool) → refusal_in (cond b (accepted t) (refused 6)) ≡ cond (not b) (some 6) none
    go true = refl
    go false = refl

-- 9 and 6: the interval's rule
tick_row : (p : Policy) (T period N : ℕ)
    → refusal_in (tick_of p T period N)
    ≡ cond (late_at T N && (is_skip p && eqb period 0)) (some 9) (cond (above (tick_sum p T period N)) (some 6) none)
tick_row p T period N = go (late_at T N) p
  where
    as_before : (a : Answer ℕ) (d : ℕ) → refusal_in (earlier a d) ≡ refusal_in a
    as_before (accepted t) d = refl
    as_before (refused n) d = refl
    as_before (unsound f) d = refl

    skip : (z : Bool)
        → refusal_in (cond z (refused 9) (earlier (timely (N + period)) ((N - T) % period)))
        ≡ cond z (some 9) (cond (above (N + period)) (some 6) none)
    skip true = refl
    skip false = as_before (timely (N + period)) ((N - T) % period) ∙ timely_row (N + period)

    go : (b : Bool) (p : Policy)
        → refusal_in (cond b (late_of p T period N) (timely (T + period)))
        ≡ cond (b && (is_skip p && eqb period 0)) (some 9) (cond (above (cond b (late_sum p T period N) (T + period))) (some 6) none)
    go false p = timely_row (T + period)
    go true Burst = timely_row (T + period)
    go true Delay = timely_row (N + period)
    go true Skip = skip (eqb period 0)

-- 10, then 9 and 6: a tick of a live timer
pub ticked_row : (s : Set) (h : Handle) (p : Policy) (period N : ℕ) (t : Timing) → word_in (life_at s h) ≡ t.word → due_in (life_at s h) ≡ t.due
    → refusal_in (ticked s h p period N t).answer
    ≡ cond (not_fired s h) (some 10)
    (cond (zero_period s h p period N) (some 9) (cond (above (tick_sum p (due_in (life_at s h)) period N)) (some 6) none))
ticked_row s h p period N t e f = rw (e, f) (go (fired_in t.word))
  where
    by : (a : Answer ℕ) → refusal_in (ticked_by s h t a).answer ≡ refusal_in a
    by (accepted d) = refl
    by (refused n) = refl
    by (unsound f) = refl

    go : (b : Bool)
        → refusal_in (cond b (ticked_by s h t (tick_of p t.due period N)) (record { state = s; answer = refused 10 })).answer
        ≡ cond (not b) (some 10)
        (cond (late_at t.due N && (is_skip p && eqb period 0)) (some 9) (cond (above (tick_sum p t.due period N)) (some 6) none))
    go true = by (tick_of p t.due period N) ∙ tick_row p t.due period N
    go false = refl

-- 6: an interval reset of a live timer
pub restarted_row : (s : Set) (h : Handle) (period N : ℕ) (t : Timing)
    → refusal_in (restarted_by s h t (restart_of period N)).answer ≡ cond (above (N + period)) (some 6) none
restarted_row s h period N t = by (restart_of period N) ∙ timely_row (N + period)
  where
    by : (a : Answer ℕ) → refusal_in (restarted_by s h t a).answer ≡ refusal_in a
    by (accepted d) = refl
    by (refused n) = refl
    by (unsound f) = refl
