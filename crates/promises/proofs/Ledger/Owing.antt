-- What a call leaves of what one handle is owed, on the ledger alone; and that a ledger once closed stays so.
-- Assumes nothing.
use mathlib.Core.Path.{◌≡◌, refl, sym, ap, ◌∙◌}
use mathlib.Core.Bool.{Bool, true, false, cond}
use mathlib.Core.Option.{Option, none, some}
use Prim.Native.Nat.{ℕ, ◌+◌}
use Rattle.theory.specs.Occurs.{has}
use Rattle.theory.proofs.Update.{upd_other}
use Rattle.refusals.specs.Answer.{value_or, is_accepted}
use Rattle.interval.specs.Rules.{tick_of}
use Rattle.state.specs.declared.Handle.{Handle}
use Rattle.state.specs.Handles.{handle_discrete}
use Rattle.timers.specs.declared.Call.{Call}
use Rattle.timers.specs.declared.Call.TheVariants as C
use Rattle.timers.specs.Values.{handle_in}
use Rattle.promises.specs.Turns.{Line, Ledger, owed, begun, moved, ended, rung, cleared, at, added, Seen, noted, note}
use Rattle.promises.specs.Timeouts.{aims}
use Rattle.promises.proofs.Ledger.Told.{rung_not}

-- a line that owes as much, at the same time
pub record Owes (l m : Line) : Type 0 where
  pub still : owed m ≡ owed l
  pub same_due : m.due ≡ l.due

-- the same line owes the same
pub same_owes : (l m : Line) → m ≡ l → Owes l m
same_owes l m e = record { still = ap owed e; same_due = ap (λ (x : Line). x.due) e }

-- a report of another handle changes nothing of what is owed
rung_owes : (l : Line) (b : Bool) → b ≡ false → Owes l (rung b l)
rung_owes l b e = same_owes l (rung b l) (ap (λ (c : Bool). rung c l) e ∙ rung_not l)

-- of a call that was refused nothing is noted
if_accepted : (h : Handle) (b : Bool) (L M : Ledger) → (b ≡ true → Owes (L.line h) (M.line h)) → Owes (L.line h) ((cond b M L).line h)
if_accepted h true L M f = f refl
if_accepted h false L M f = same_owes (L.line h) (L.line h) refl

-- another handle's line rewritten
at_other : (h k : Handle) (f : Line → Line) (L : Ledger) → (h ≡ k → ⊥) → Owes (L.line h) ((at k f L).line h)
at_other h k f L n = same_owes (L.line h) ((at k f L).line h) (upd_other handle_discrete L.line k (f (L.line k)) h n)

added_other : (h : Handle) (o : Option Handle) (d : ℕ) (L : Ledger) → (o ≡ some h → ⊥) → Owes (L.line h) ((added o d L).line h)
added_other h none d L n = same_owes (L.line h) (L.line h) refl
added_other h (some k) d L n = at_other h k (begun d) L (λ e. n (ap some (sym e)))

-- a call that neither gives, resets, cancels nor reports the handle leaves what it is owed
pub note_owes : (h : Handle) (c : Call) (a : Seen) (L : Ledger) → ((d : ℕ) → c ≡ C.Add d → handle_in a.answer ≡ some h → ⊥)
    → (is_accepted a.answer ≡ true → aims c ≡ some h → ⊥) → has handle_discrete h a.reports ≡ false → Owes (L.line h) ((note c a L).line h)
unfolding note
note_owes h c a L new aim unheard = if_accepted h (is_accepted a.answer) L (noted c a L) (λ y. go c new (aim y))
  where
    go : (c : Call) → ((d : ℕ) → c ≡ C.Add d → handle_in a.answer ≡ some h → ⊥) → (aims c ≡ some h → ⊥) → Owes (L.line h) ((noted c a L).line h)
    go (C.Add d) m n = added_other h (handle_in a.answer) d L (m d refl)
    go (C.Reset k d) m n = at_other h k (moved d) L (λ e. n (ap some (sym e)))
    go (C.Cancel k) m n = at_other h k ended L (λ e. n (ap some (sym e)))
    go C.Drain m n = record { still = refl; same_due = refl }
    go (C.Advance N) m n = rung_owes (L.line h) (has handle_discrete h a.reports) unheard
    go (C.Turn N) m n =
        let k = rung_owes (cleared (L.line h)) (has handle_discrete h a.reports) unheard in
        record { still = k.still; same_due = refl }
    go C.NextWake m n = same_owes (L.line h) (L.line h) refl
    go (C.Poll k) m n = same_owes (L.line h) (L.line h) refl
    go C.Close m n = same_owes (L.line h) (L.line h) refl
    go (C.Tick k p period N) m n = at_other h k (moved (value_or 0 (tick_of p (L.line k).due period N))) L (λ e. n (ap some (sym e)))
    go (C.Restart k period N) m n = at_other h k (moved (N + period)) L (λ e. n (ap some (sym e)))

-- what has been closed stays so
pub note_closed : (c : Call) (a : Seen) (L : Ledger) → L.closed ≡ true → (note c a L).closed ≡ true
unfolding note
note_closed c a L e = told (is_accepted a.answer)
  where
    kept : (o : Option Handle) (d : ℕ) → (added o d L).closed ≡ true
    kept none d = e
    kept (some h) d = e

    go : (c : Call) → (noted c a L).closed ≡ true
    go (C.Add d) = kept (handle_in a.answer) d
    go (C.Reset k d) = e
    go (C.Cancel k) = e
    go C.Drain = e
    go (C.Advance N) = e
    go (C.Turn N) = e
    go C.NextWake = e
    go (C.Poll k) = e
    go C.Close = refl
    go (C.Tick k p period N) = e
    go (C.Restart k period N) = e

    told : (b : Bool) → (cond b (noted c a L) L).closed ≡ true
    told true = go c
    told false = e
