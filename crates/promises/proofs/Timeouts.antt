-- A TIMEOUT CANNOT FAIL TO COME: a timer that is owed and is left alone goes off at the latest in the first accepted turn whose reading is
-- at or past its deadline. The premise on resets is not needed.
-- Assumes nothing.
use mathlib.Core.Path.{◌≡◌, refl, sym, ap, subst, ◌∙◌}
use mathlib.Core.Logic.{◌⊎◌, inl, inr, ⊎_elim}
use mathlib.Core.Bool.{Bool, true, false, not}
use mathlib.Core.Option.{Option, some}
use mathlib.Core.List.{List, [], ◌∷◌, ◌++◌}
use Prim.Native.Nat.{ℕ, ◌≤◌}
use borrow.Author.Tests.{le-leb}
use Rattle.theory.specs.Occurs.{times, has}
use Rattle.theory.proofs.Tests.{none_some, true_false, and_left, is_false}
use Rattle.refusals.specs.Answer.{Answer, accepted, refused, unsound}
use Rattle.state.specs.declared.Handle.{Handle}
use Rattle.state.specs.Handles.{handle_discrete}
use Rattle.timers.specs.declared.Call.{Call}
use Rattle.timers.specs.declared.Call.TheVariants as C
use Rattle.timers.specs.Values.{Value, nothing, handle, counts, wake, polled, time, handle_in}
use Rattle.timers.specs.declared.Timing.{Timing}
use Rattle.timers.specs.Calls.{add_of, step}
use Rattle.laws.specs.EntryOf.{entry_of, waiting}
use Rattle.laws.proofs.Handles.ByHandleCalls.{add_lives}
use Rattle.promises.specs.Turns.{owed, seen, Run, next, from, run, Accepted}
use Rattle.promises.specs.Engine.{ours}
use Rattle.promises.specs.Timeouts.{LeftAlone, GoesOff}
use Rattle.promises.proofs.Ledger.Tracks.{Stands}
use Rattle.promises.proofs.Ledger.TracksSteps.{Low}
use Rattle.promises.proofs.Ledger.Runs.{Good, next_good, run_good}
use Rattle.promises.proofs.Engine.{moment}
use Rattle.promises.proofs.Meeting.{from_append}
use Rattle.promises.proofs.Ledger.Owing.{Owes, same_owes, note_owes, note_closed}

-- an answer that has a handle is that of an add
handle_answer : (a : Answer Value) (h : Handle) → handle_in a ≡ some h → a ≡ accepted (handle h)
handle_answer (accepted nothing) h e = absurd (none_some refl e)
handle_answer (accepted (handle k)) h e = let z : k ≡ h = cc in ap (λ (x : Handle). accepted (handle x)) z
handle_answer (accepted (counts r p)) h e = absurd (none_some refl e)
handle_answer (accepted (wake t)) h e = absurd (none_some refl e)
handle_answer (accepted (polled n)) h e = absurd (none_some refl e)
handle_answer (accepted (time t)) h e = absurd (none_some refl e)
handle_answer (refused n) h e = absurd (none_some refl e)
handle_answer (unsound f) h e = absurd (none_some refl e)

closed_from : (cs : List (Call × List ℕ)) (r : Run ours) → r.ledger.closed ≡ true → (from ours r cs).ledger.closed ≡ true
unfolding from next
closed_from [] r e = e
closed_from (c ∷ cs) r e = closed_from cs (next ours r c.0 c.1) (note_closed c.0 (seen (ours.step r.state c.0 c.1)) r.ledger e)

module _ (h : Handle) where
  -- a live handle is given to nobody else
  not_given : (B : Type 0) (r : Run ours) → Good B r → r.ledger.closed ≡ false → owed (r.ledger.line h) ≡ true
      → (d : ℕ) (l : List ℕ) → handle_in (step r.state (C.Add d) l).answer ≡ some h → ⊥
  unfolding step
  not_given B r g c y d l e =
      let n = (add_lives r.state d h g.fit.words.long (handle_answer (add_of r.state d).answer h e)).0 in
      true_false (and_left (r.ledger.line h).live (not (r.ledger.line h).reported) y)
      (subst (λ (o : Option Timing). Stands B o (waiting r.state h.place.0) (entry_of r.state h.place.0) (r.ledger.line h)) n (g.follows.tracks c h))

  -- after calls that leave the timer alone, it has gone off or is owed as before
  left_alone : (ds : List (Call × List ℕ)) (B : Type 0) (r : Run ours) → Good B r → (from ours r ds).ledger.closed ≡ false
      → owed (r.ledger.line h) ≡ true → LeftAlone ours h r ds → GoesOff ours h r ds ⊎ Owes (r.ledger.line h) ((from ours r ds).ledger.line h)
  unfolding from next LeftAlone GoesOff
  left_alone [] B r g c y a = inr (same_owes (r.ledger.line h) (r.ledger.line h) refl)
  left_alone (x ∷ ds) B r g c y a = go (has handle_discrete h (seen (ours.step r.state x.0 x.1)).reports) refl
      (left_alone ds (B × Low r.ledger) (next ours r x.0 x.1) (next_good B r g x.0 x.1) c)
    where
      now : r.ledger.closed ≡ false
      now = is_false r.ledger.closed (λ e. true_false (closed_from (x ∷ ds) r e) c)

      go : (b : Bool) → has handle_discrete h (seen (ours.step r.state x.0 x.1)).reports ≡ b
          → (owed ((next ours r x.0 x.1).ledger.line h) ≡ true → LeftAlone ours h (next ours r x.0 x.1) ds
          → GoesOff ours h (next ours r x.0 x.1) ds ⊎ Owes ((next ours r x.0 x.1).ledger.line h) ((from ours (next ours r x.0 x.1) ds).ledger.line h))
          → ((has handle_discrete h (seen (ours.step r.state x.0 x.1)).reports ≡ true) ⊎ GoesOff ours h (next ours r x.0 x.1) ds)
          ⊎ Owes (r.ledger.line h) ((from ours (next ours r x.0 x.1) ds).ledger.line h)
      go true e ih = inl (inl e)
      go false e ih = ⊎_elim (λ z. inl (inr z)) (λ z. inr (record { still = z.still ∙ k.still; same_due = z.same_due ∙ k.same_due })) (ih (k.still ∙ y) a.1)
        where
          k : Owes (r.ledger.line h) ((next ours r x.0 x.1).ledger.line h)
          k = note_owes h x.0 (seen (ours.step r.state x.0 x.1)) r.ledger
              (λ d q. subst (λ (c : Call). handle_in (step r.state c x.1).answer ≡ some h → ⊥) (sym q) (not_given B r g now y d x.1)) a.0 e

-- after any calls cs a timer is owed; calls ds leave it alone; then an accepted turn is made whose reading is at or past its deadline.
-- One of the calls ds has reported it, or this turn does, once
pub timeout_comes : (cs ds : List (Call × List ℕ)) (h : Handle) (N : ℕ) (l : List ℕ) → (run ours (cs ++ ds)).ledger.closed ≡ false
    → owed ((run ours cs).ledger.line h) ≡ true → LeftAlone ours h (run ours cs) ds → ((run ours cs).ledger.line h).due ≤ N
    → Accepted ours (run ours (cs ++ ds)) (C.Turn N) l
    → GoesOff ours h (run ours cs) ds ⊎ (times handle_discrete h (seen (ours.step (run ours (cs ++ ds)).state (C.Turn N) l)).reports ≡ 1)
unfolding from
timeout_comes cs ds h N l c y a late ok =
    let r = run ours cs in
    let q = run ours (cs ++ ds) in
    let z : q ≡ from ours r ds = from_append ours cs ds (run ours []) in
    ⊎_elim inl
    (λ k.
    let o : Owes (r.ledger.line h) (q.ledger.line h) = subst (λ (x : Run ours). Owes (r.ledger.line h) (x.ledger.line h)) (sym z) k in
    inr (((moment (cs ++ ds)).turns N l refl ok).each_once h
    ∙ rw (o.still ∙ y, o.same_due, le-leb (r.ledger.line h).due N late) refl))
    (left_alone h ds _ r (run_good cs) (subst (λ (x : Run ours). x.ledger.closed ≡ false) z c) y a)
