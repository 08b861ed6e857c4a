-- The premise of demand 3 is exact: after 2^30 resets of a timer with no drain among them, one more than the premise allows, an
-- advance reports the timer by its old entry, though its last reset has not been drained and its deadline has not come.
-- Assumes nothing.
use mathlib.Core.Path.{◌≡◌, refl, sym, ap, subst, ◌∙◌}
use mathlib.Core.Bool.{Bool, true, false, ◌&&◌}
use mathlib.Core.List.{[], ◌∷◌, filter_map}
use Prim.Native.Nat.{ℕ, zero, suc, ◌+◌, ◌*◌, ◌%◌, ◌≤◌, ◌<◌, ◌^◌}
use native.Mathlib.Omega.{arith}
use lib.Dec.{leb}
use lib.ListN.{set, replicate}
use Rattle.std.specs.Prelude.{Option, Some, None}
use Rattle.heap.specs.declared.Place.{Place}
use Rattle.theory.specs.First.{first_bad}
use Rattle.theory.specs.Tests.{bit}
use Rattle.theory.specs.Occurs.{times}
use Rattle.theory.proofs.Occurs.{times_same}
use Rattle.theory.proofs.Update.{upd_same, upd_all}
use Rattle.refusals.specs.Answer.{Outcome}
use Rattle.heap.specs.Capacity.{cap}
use Rattle.heap.specs.Rules.{put_at, up_from, taken_of, added_of, pushed_of}
use Rattle.heap.specs.Calls as Heap
use Rattle.heap.specs.Calls.{push_sound}
use Rattle.state.specs.declared.Life.TheVariants.{Live}
use Rattle.state.specs.declared.Waiting.{Waiting}
use Rattle.state.specs.declared.Waiting.TheVariants.{No, Last}
use Rattle.state.specs.declared.Set.{Set}
use Rattle.state.specs.declared.Handle.{Handle}
use Rattle.state.specs.State.{no_timer, fresh_of}
use Rattle.state.specs.Handles.{handle_discrete}
use Rattle.state.specs.Faults.{sound_of}
use Rattle.state.proofs.Test.{sound_tells}
use Rattle.moves.specs.Rules.{touched_of, taken, lowest_free, settled_of, drain_from, due_by, rung_of, ring_from, advanced_of}
use Rattle.timers.proofs.Guarding.{sound_none}
use Rattle.timers.specs.declared.Call.{Call}
use Rattle.timers.specs.declared.Call.TheVariants as C
use Rattle.timers.specs.Values.{Value, nothing, handle}
use Rattle.timers.specs.Calls.{Lent, gives, with_list, guarded, live_at, add_of, reset_of, drain_of, advance_of, step}
use Rattle.laws.specs.Words.{Fit}
use Rattle.laws.proofs.Soundness.StepSound.{after_fit, never_unsound}
use Rattle.promises.specs.Turns.{every, Line, Ledger, blank, begun, moved, seen, note, owed, Exact, Run, next, from, run, Bounded, Accepted}
use Rattle.promises.specs.Engine.{handed, ours}
use Rattle.promises.specs.Bound.{words, its, resetting, reporting}
use Rattle.promises.proofs.Ledger.Runs.{run_good}
use Rattle.promises.proofs.Engine.{moment}
use Rattle.promises.proofs.Meeting.{advance_accepted}

-- THE SETS

-- a set of one timer, with an entry at 10 that is of generation 0
abbrev holding : Waiting → Option Place → ℕ → ℕ → Set
holding w f word d = record {
  heap = (push_sound Heap.fresh_of 10 0 (record { 0 = 0 })).state;
  timers = set (replicate cap no_timer) 0 (record { life = Live word d; waiting = w; held = Some (record { 0 = 0 }); uses = 0 });
  first = f;
  closed = false;
}

-- a set in which it waits for a drain
abbrev awaiting : ℕ → Set
awaiting word = holding Last (Some (record { 0 = 0 })) word 20

-- what n resets leave
abbrev stuck : ℕ → Set
stuck zero = holding No None 0 10
stuck (suc n) = awaiting (suc n % 2 ^ 30 * 4)

-- what the add leaves
abbrev added : Set
added = touched_of fresh_of 0 (Live 0 10)

-- an add to the fresh set
adds : step fresh_of (C.Add 10) words ≡ with_list words (gives added (handle its))
unfolding step add_of guarded lowest_free taken first_bad
adds = rw (sound_none fresh_of (never_unsound [])) refl

-- the drain after it
drains : step added C.Drain words ≡ with_list words (gives (stuck 0) nothing)
unfolding step drain_of guarded touched_of drain_from settled_of push_sound
drains =
    let o : sound_of added ≡ true = ap (λ q. sound_of q.state.set) (sym adds) ∙ never_unsound ((C.Add 10, words) ∷ []) in
    rw (sound_none added o) refl

-- one reset more
resets : (n : ℕ) → sound_of (stuck n) ≡ true → step (stuck n) (C.Reset its 20) words ≡ with_list words (gives (stuck (suc n)) nothing)
unfolding step reset_of guarded live_at touched_of
resets zero o = rw (sound_none (stuck zero) o) refl
resets (suc n) o = rw (sound_none (stuck (suc n)) o) (ap (λ w. with_list words (gives (awaiting w) nothing)) (omega arith))

-- an advance to 10 where the word has come back to 0
rings : sound_of (awaiting 0) ≡ true → (seen (handed (step (awaiting 0) (C.Advance 10) words))).reports ≡ its ∷ []
unfolding filter_map step advance_of guarded advanced_of ring_from due_by rung_of push_sound pushed_of taken_of added_of put_at up_from
rings o = rw (sound_none (awaiting 0) o) refl

-- THE RUNS

-- what an outcome of a call makes of a ledger
abbrev noting : Ledger → Call → Outcome Lent Value → Run ours
noting L c o = record { state = o.state.set; ledger = note c (seen (handed o)) L }

-- a call with that outcome on the set of a run
next_is : (r : Run ours) (s : Set) (c : Call) (o : Outcome Lent Value) → r.state ≡ s → step s c words ≡ o → next ours r c words ≡ noting r.ledger c o
unfolding next
next_is r s c o e k = ap (noting r.ledger c) (ap (λ (s : Set). step s c words) e ∙ k)

-- a run as n resets leave it, with its ledger
record Reached (n : ℕ) (r : Run ours) : Type 0 where
  fit : Fit r.state
  state_is : r.state ≡ stuck n
  still_open : r.ledger.closed ≡ false
  all : (r.ledger.line its).resets ≡ n
  most : (h : Handle) → (r.ledger.line h).resets ≤ n
  undrained : 1 ≤ n → (r.ledger.line its).drained ≡ false
  later : 1 ≤ n → (r.ledger.line its).due ≡ 20

-- after the first call
abbrev first : Run ours
first = noting blank (C.Add 10) (with_list words (gives added (handle its)))

-- after the second
abbrev second : Run ours
second = noting first.ledger C.Drain (with_list words (gives (stuck 0) nothing))

-- the first call leads there
first_is : run ours ((C.Add 10, words) ∷ []) ≡ first
unfolding from
first_is = next_is (run ours []) fresh_of (C.Add 10) _ refl adds

-- and the first two there
second_is : run ours (resetting 0) ≡ second
unfolding from
second_is = ap (λ r. next ours r C.Drain words) first_is ∙ next_is first added C.Drain _ refl drains

-- before any reset
none_yet : Reached 0 (run ours (resetting 0))
unfolding note
none_yet =
    subst (Reached 0) (sym second_is)
    (record {
      fit = subst (λ (r : Run ours). Fit r.state) second_is (run_good (resetting 0)).fit;
      state_is = refl;
      still_open = refl;
      all = refl;
      most = λ h. omega arith;
      undrained = λ b. absurd (omega arith);
      later = λ b. absurd (omega arith);
    })

-- after one reset more
one_more_lem : (n : ℕ) (r : Run ours) → Reached n r → Reached (suc n) (next ours r (C.Reset its 20) words)
unfolding note next
one_more_lem n r k =
    let o = subst (λ (s : Set). sound_of s ≡ true) k.state_is (sound_tells r.state k.fit.sound) in
    let e = next_is r (stuck n) (C.Reset its 20) _ k.state_is (resets n o) in
    let here = upd_same handle_discrete r.ledger.line its (moved 20 (r.ledger.line its)) in
    subst (Reached (suc n)) (sym e)
    (record {
      fit = subst (λ (q : Run ours). Fit q.state) e (after_fit ((C.Reset its 20, words) ∷ []) r.state k.fit);
      state_is = refl;
      still_open = k.still_open;
      all = ap (λ (l : Line). l.resets) here ∙ ap suc k.all;
      most = upd_all handle_discrete r.ledger.line its (moved 20 (r.ledger.line its)) (λ h l. l.resets ≤ suc n)
          (omega (arith, k.all)) (λ h _. omega (arith, k.most h));
      undrained = λ _. ap (λ (l : Line). l.drained) here;
      later = λ _. ap (λ (l : Line). l.due) here;
    })

-- after n more, i in all
many_more : (n m i : ℕ) → n + m ≡ i → (r : Run ours) → Reached m r → Reached i (from ours r (replicate n (C.Reset its 20, words)))
unfolding from
many_more zero m i e r k = subst (λ (j : ℕ). Reached j r) (omega arith) k
many_more (suc n) m i e r k = many_more n (suc m) i (omega arith) (next ours r (C.Reset its 20) words) (one_more_lem m r k)

-- so after all of them
reached : (n : ℕ) → Reached n (run ours (resetting n))
unfolding from
reached n = many_more n 0 n (omega arith) (run ours (resetting 0)) none_yet

-- THE BOUND

-- of which the last is not drained, and its deadline is 20
not_yet : (n : ℕ) → 1 ≤ n → (((run ours (resetting n)).ledger.line its).drained ≡ false) × (((run ours (resetting n)).ledger.line its).due ≡ 20)
not_yet n b = ((reached n).undrained b, (reached n).later b)

-- an add is no reset
first_low : (h : Handle) → ((run ours ((C.Add 10, words) ∷ [])).ledger.line h).resets < 2 ^ 30
unfolding note
first_low =
    subst (λ (r : Run ours). (h : Handle) → (r.ledger.line h).resets < 2 ^ 30) (sym first_is)
    (upd_all handle_discrete blank.line its (begun 10 (blank.line its)) (λ h l. l.resets < 2 ^ 30) (omega arith) (λ h _. omega arith))

-- where n more make fewer than 2^30, the premise holds all the way
bounded_more : (n m : ℕ) → n + m < 2 ^ 30 → (r : Run ours) → Reached m r → Bounded ours r (replicate n (C.Reset its 20, words))
unfolding Bounded
bounded_more zero m b r k = λ h. omega (arith, k.most h)
bounded_more (suc n) m b r k =
    (λ h. omega (arith, k.most h), bounded_more n (suc m) (omega arith) (next ours r (C.Reset its 20) words) (one_more_lem m r k))

-- so with fewer than 2^30 resets the premise holds
pub within : (n : ℕ) → n < 2 ^ 30 → Bounded ours (run ours []) (resetting n)
unfolding Bounded from
within n b = (λ h. omega arith, (first_low, bounded_more n 0 (omega arith) (run ours (resetting 0)) none_yet))

-- an advance is accepted, however many there were
too_many_accepted : (n : ℕ) → Accepted ours (run ours (resetting n)) (C.Advance 10) words
too_many_accepted n = advance_accepted ours every (run ours (resetting n)) _ (moment (resetting n)) (reached n).still_open words (omega arith) 10 refl

-- with fewer than 2^30 resets its reports are exact
pub few_enough : (n : ℕ) → n < 2 ^ 30 → Exact (run ours (resetting n)).ledger (λ x. owed x && x.drained) 10 (reporting n)
few_enough n b = (moment (resetting n)).advances 10 words refl (within n b) (too_many_accepted n)

-- after 2^30 resets the word is 0 again, as in the old entry
come_back : (n : ℕ) → n ≡ 2 ^ 30 → (run ours (resetting n)).state ≡ awaiting 0
come_back zero e = absurd (omega arith)
come_back (suc n) e = (reached (suc n)).state_is ∙ ap awaiting (omega arith)

-- and the advance to 10 reports the timer
pub reported_early : (n : ℕ) → n ≡ 2 ^ 30 → (reporting n).reports ≡ its ∷ []
reported_early n e =
    let c = come_back n e in
    let o = subst (λ (s : Set). sound_of s ≡ true) c (sound_tells (run ours (resetting n)).state (reached n).fit.sound) in
    ap (λ (s : Set). (seen (ours.step s (C.Advance 10) words)).reports) c ∙ rings o

-- what was not drained does not pass
undrained_fails : (a b : Bool) → a && false && b ≡ false
undrained_fails true b = refl
undrained_fails false b = refl

-- so what the claim says of an advance is false then
pub too_many : (n : ℕ) → n ≡ 2 ^ 30
    → Exact (run ours (resetting n)).ledger (λ x. owed x && x.drained) 10 (reporting n) → ⊥
unfolding times
too_many n e x =
    let L = (run ours (resetting n)).ledger in
    let once : times handle_discrete its (its ∷ []) ≡ 1 = times_same handle_discrete its [] in
    let told = ap (times handle_discrete its) (sym (reported_early n e)) ∙ x.each_once its in
    let d = (not_yet n (omega arith)).0 in
    let never = ap (λ (b : Bool). bit (owed (L.line its) && b && leb (L.line its).due 10)) d ∙ ap bit (undrained_fails (owed (L.line its)) (leb (L.line its).due 10)) in
    absurd (omega (arith, once, told, never))
