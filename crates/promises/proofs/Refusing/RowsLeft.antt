-- The two queries are refused by their rows of the table: the tests before them are those of the calls, and a difference of times is
-- refused exactly where it is far.
-- Assumes nothing.
use mathlib.Core.Path.{◌≡◌, refl, sym, ap, ◌∙◌}
use mathlib.Core.Bool.{Bool, true, false, not, cond, ◌&&◌, ◌||◌}
use mathlib.Core.Option.{Option, none, some}
use Prim.Native.Nat.{ℕ, ◌+◌, ◌-◌, ◌≤◌, ◌<◌, ◌^◌}
use native.Mathlib.Omega.{arith}
use lib.IntN.{ℤ}
use lib.Signed.{lt_z}
use borrow.Author.Tests.{not-true}
use Rattle.theory.specs.Counting.{count}
use Rattle.theory.specs.Least.{through, least_below}
use Rattle.theory.proofs.Counting.{count_none, count_zero}
use Rattle.theory.proofs.Least.{Found, Told, least_told}
use Rattle.theory.proofs.Tests.{ref_lt, ref_le, true_ref, false_ref, by-ref, ref_true, is_false, none_some, true_false, and_left, and_right}
use Rattle.refusals.specs.declared.Refusal.TheVariants.{Unsound, Closed}
use Rattle.refusals.specs.declared.fault.Fault.{Fault}
use Rattle.theory.specs.Chain.{clear}
use Rattle.refusals.specs.Answer.{Answer, accepted, refused, refuse, Outcome, kept, unsound}
use Rattle.refusals.specs.Times.{signed}
use Rattle.refusals.proofs.Differences.{minus_above, minus_below, above_fits, above_unfit, below_fits, below_unfit}
use Rattle.heap.specs.Capacity.{cap}
use Rattle.word.specs.Rules.{fired_in}
use Rattle.state.specs.declared.Life.{Life}
use Rattle.state.specs.declared.Life.TheVariants.{Free, Live, Cancelled, Retired}
use Rattle.state.specs.declared.Set.{Set}
use Rattle.state.specs.declared.Handle.{Handle}
use Rattle.state.specs.State.{timer_at}
use Rattle.state.specs.Faults.{fault_of, sound_of}
use Rattle.timers.specs.declared.Timing.{Timing}
use Rattle.timers.specs.Calls.{judged, Value, nothing, gives, live_at, alive, living, door_of}
use Rattle.timers.specs.Left.{left_at, time_left_by, time_left_of, pending_in, pending_at, or_none, least_by, least_left_of, soonest_of}
use Rattle.timers.proofs.Shortest.{least_by_due}
use Rattle.promises.specs.Conditions as Conditions
use Rattle.promises.specs.Conditions.{life_at, not_live, dead, word_in, due_in, far_ahead, far_behind, far, unfired_at, anywhere, least_far}
use Rattle.promises.specs.Table.{refusal_in}
use Rattle.promises.proofs.Refusing.Rows.{dead_row}

-- 6: a difference of times
far_row : (d N : ℕ) → refusal_in (signed (left_at N d)) ≡ cond (far d N) (some 6) none
far_row d N = by-ref (ref_le N d) ahead behind
  where
    ahead : N ≤ d → refusal_in (signed (left_at N d)) ≡ cond (far d N) (some 6) none
    ahead a = by-ref (ref_le (N + 2 ^ 63) d)
        (λ p. rw (false_ref (ref_lt (d + 2 ^ 63) N) (λ q. omega arith), true_ref (ref_le (N + 2 ^ 63) d) p)
        (ap refusal_in (ap signed (minus_above d N a) ∙ above_unfit (d - N) (omega arith))))
        (λ p. rw (false_ref (ref_lt (d + 2 ^ 63) N) (λ q. omega arith), false_ref (ref_le (N + 2 ^ 63) d) p)
        (ap refusal_in (ap signed (minus_above d N a) ∙ above_fits (d - N) (omega arith))))

    behind : ¬ (N ≤ d) → refusal_in (signed (left_at N d)) ≡ cond (far d N) (some 6) none
    behind a = by-ref (ref_lt (d + 2 ^ 63) N)
        (λ p. rw (true_ref (ref_lt (d + 2 ^ 63) N) p)
        (ap refusal_in (ap signed (minus_below d N (omega arith)) ∙ below_unfit (N - d - 1) (omega arith))))
        (λ p. rw (false_ref (ref_lt (d + 2 ^ 63) N) p, false_ref (ref_le (N + 2 ^ 63) d) (λ q. omega arith))
        (ap refusal_in (ap signed (minus_below d N (omega arith)) ∙ below_fits (N - d - 1) (omega arith))))

-- 1 and 2: the tests of a set
tested_row : (s : Set) {A : Type 0} (a : Answer A) (rest : Option ℕ) → refusal_in a ≡ rest
    → refusal_in (judged (fault_of s) (cond s.closed (refuse Closed) a) (λ y. refuse (Unsound y)))
    ≡ cond (Conditions.damaged s) (some 1) (cond s.closed (some 2) rest)
unfolding sound_of
tested_row s {A} a rest e = go (fault_of s) s.closed
  where
    go : (x : Option Fault) (c : Bool) → refusal_in {A = A} (judged x (cond c (refuse Closed) a) (λ y. refuse (Unsound y))) ≡ cond (not (clear x)) (some 1) (cond c (some 2) rest)
    go none true = refl
    go none false = e
    go (some y) c = refl

-- the time left: 1, 2, 3 and 6
pub time_left_row : (s : Set) (h : Handle) (N : ℕ)
    → refusal_in (time_left_of s h N)
    ≡ cond (Conditions.damaged s) (some 1) (cond s.closed (some 2) (cond (dead s h) (some 3) (cond (far (due_in (life_at s h)) N) (some 6) none)))
unfolding time_left_of door_of
time_left_row s h N = split (fault_of s) s.closed ∙ tested_row s (time_left_by N (living (live_at s h))) _ (same (live_at s h) ∙ dead_row s h outcome _ row)
  where
    -- the tests come first
    split : (x : Option Fault) (c : Bool)
        → refusal_in (time_left_by N (judged x (cond c (refuse Closed) (living (live_at s h))) (λ y. refuse (Unsound y))))
        ≡ refusal_in (judged x (cond c (refuse Closed) (time_left_by N (living (live_at s h)))) (λ y. refuse (Unsound y)))
    split none true = refl
    split none false = refl
    split (some y) c = refl

    -- the answer as a call's, so that the row of a dead handle serves both
    call : Answer ℤ → Outcome Set Value
    call (accepted z) = gives s nothing
    call (refused n) = kept s (refused n)
    call (unsound x) = kept s (unsound x)

    call_same : (a : Answer ℤ) → refusal_in (call a).answer ≡ refusal_in a
    call_same (accepted z) = refl
    call_same (refused n) = refl
    call_same (unsound x) = refl

    outcome : Timing → Outcome Set Value
    outcome t = call (signed (left_at N t.due))

    same : (o : Option Timing) → refusal_in (time_left_by N (living o)) ≡ refusal_in (alive s o outcome).answer
    same none = refl
    same (some t) = sym (call_same (signed (left_at N t.due)))

    row : (t : Timing) → word_in (life_at s h) ≡ t.word → due_in (life_at s h) ≡ t.due → refusal_in (outcome t).answer ≡ cond (far (due_in (life_at s h)) N) (some 6) none
    row t w d = call_same (signed (left_at N t.due)) ∙ far_row t.due N ∙ ap (λ (x : ℕ). cond (far x N) (some 6) none) (sym d)

-- of a place: it counts exactly where its timer is live and has not fired, with that deadline
counted : (s : Set) (p d : ℕ) → pending_at s p ≡ some d → (unfired_at s p ≡ true) × (due_in (timer_at s p).life ≡ d)
counted s p d e = go (timer_at s p).life e
  where
    go : (x : Life) → pending_in x ≡ some d → (not (not_live x) && not (fired_in (word_in x)) ≡ true) × (due_in x ≡ d)
    go Free e = absurd (none_some refl e)
    go (Cancelled w) e = absurd (none_some refl e)
    go Retired e = absurd (none_some refl e)
    go (Live w m) e = by (fired_in w) e
      where
        by : (b : Bool) → cond b none (some m) ≡ some d → (not b ≡ true) × (m ≡ d)
        by true e = absurd (none_some refl e)
        by false e = let z : m ≡ d = cc in (refl, z)

uncounted : (s : Set) (p : ℕ) → unfired_at s p ≡ true → pending_at s p ≡ some (due_in (timer_at s p).life)
uncounted s p e = go (timer_at s p).life e
  where
    go : (x : Life) → not (not_live x) && not (fired_in (word_in x)) ≡ true → pending_in x ≡ some (due_in x)
    go Free e = true_false e refl
    go (Cancelled w) e = true_false e refl
    go Retired e = true_false e refl
    go (Live w m) e = by (fired_in w) e
      where
        by : (b : Bool) → not b ≡ true → cond b none (some m) ≡ some m
        by true e = true_false e refl
        by false e = refl

-- some place passes, or none does
some_place : (f : ℕ → Bool) (p : ℕ) → p < cap → f p ≡ true → anywhere f ≡ true
some_place f p l e = true_ref (ref_lt 0 (count f cap)) (by-ref (ref_lt 0 (count f cap)) (λ q. q) (λ q. absurd (count_zero f cap (omega arith) p l e)))

no_place : (f : ℕ → Bool) → ((p : ℕ) → p < cap → f p ≡ true → ⊥) → anywhere f ≡ false
no_place f h = false_ref (ref_lt 0 (count f cap)) (λ q. let z = count_none f cap (λ p l. is_false (f p) (h p l)) in omega arith)

module _ (s : Set) (N : ℕ) where
  -- one that is far behind; one that is not far ahead
  abbrev behind : ℕ → Bool
  behind p = unfired_at s p && far_behind (due_in (timer_at s p).life) N

  abbrev near : ℕ → Bool
  near p = unfired_at s p && not (far_ahead (due_in (timer_at s p).life) N)

  by_parts : {x y z : Bool} → anywhere behind ≡ x → anywhere (unfired_at s) ≡ y → anywhere near ≡ z → least_far s N ≡ (x || (y && not z))
  by_parts p q r = λ i. p i || (q i && not (r i))

  -- nobody counts
  nobody : ((p : ℕ) → p < cap → pending_at s p ≡ none) → least_far s N ≡ false
  nobody k =
      let out : (p : ℕ) → p < cap → unfired_at s p ≡ true → ⊥ = λ p l e. none_some (k p l) (uncounted s p e) in
      by_parts (no_place behind (λ p l e. out p l (and_left (unfired_at s p) _ e))) (no_place (unfired_at s) out) refl

  -- the earliest deadline that counts is far exactly where the table says so
  earliest : (d : ℕ) → Found (pending_at s) cap d → least_far s N ≡ far d N
  earliest d k =
      by_parts (late (far_behind d N) refl) (some_place (unfired_at s) k.it k.below mine.0) (early (far_ahead d N) refl)
      ∙ twice (far_behind d N) (far_ahead d N)
    where
      mine : (unfired_at s k.it ≡ true) × (due_in (timer_at s k.it).life ≡ d)
      mine = counted s k.it d k.has

      -- no deadline that counts is before it
      under : (p : ℕ) → p < cap → unfired_at s p ≡ true → d ≤ due_in (timer_at s p).life
      under p l e = k.least p (due_in (timer_at s p).life) l (uncounted s p e)

      late : (b : Bool) → far_behind d N ≡ b → anywhere behind ≡ b
      late true e = some_place behind k.it k.below (λ i. mine.0 i && (ap (λ (x : ℕ). far_behind x N) mine.1 ∙ e) i)
      late false e =
          no_place behind
          (λ p l q. let m = under p l (and_left (unfired_at s p) _ q) in
          let a = ref_true (ref_lt (due_in (timer_at s p).life + 2 ^ 63) N) (and_right (unfired_at s p) _ q) in
          true_false (true_ref (ref_lt (d + 2 ^ 63) N) (omega arith)) e)

      early : (b : Bool) → far_ahead d N ≡ b → anywhere near ≡ not b
      early true e =
          no_place near
          (λ p l q. let m = under p l (and_left (unfired_at s p) _ q) in
          let a = ref_true (ref_le (N + 2 ^ 63) d) e in
          true_false (true_ref (ref_le (N + 2 ^ 63) (due_in (timer_at s p).life)) (omega arith)) (not-true _ (and_right (unfired_at s p) _ q)))
      early false e = some_place near k.it k.below (λ i. mine.0 i && not ((ap (λ (x : ℕ). far_ahead x N) mine.1 ∙ e) i))

      twice : (x y : Bool) → (x || (true && not (not y))) ≡ (x || y)
      twice x true = refl
      twice x false = refl

  soonest_row : (o : Option ℕ) → Told (pending_at s) cap o → refusal_in (least_by (through (left_at N) o)) ≡ cond (least_far s N) (some 6) none
  soonest_row none k = sym (ap (λ (b : Bool). cond b (some 6) none) (nobody k))
  soonest_row (some d) k = as_some (signed (left_at N d)) ∙ far_row d N ∙ sym (ap (λ (b : Bool). cond b (some 6) none) (earliest d k))
    where
      as_some : (a : Answer ℤ) → refusal_in (or_none a) ≡ refusal_in a
      as_some (accepted z) = refl
      as_some (refused n) = refl
      as_some (unsound x) = refl

-- the least time left: 1, 2 and 6
pub least_left_row : (s : Set) (N : ℕ) → refusal_in (least_left_of s N) ≡ cond (Conditions.damaged s) (some 1) (cond s.closed (some 2) (cond (least_far s N) (some 6) none))
unfolding least_left_of soonest_of
least_left_row s N =
    tested_row s (least_by (least_below lt_z (λ p. through (left_at N) (pending_at s p)) cap)) (cond (least_far s N) (some 6) none)
    (ap (λ (o : Option ℤ). refusal_in (least_by o)) (least_by_due s N) ∙ soonest_row s N (soonest_of s) (least_told (pending_at s) cap))
