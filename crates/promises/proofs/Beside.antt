-- An engine that runs beside another meets demand 3 where the other does: their ledgers are one, for a ledger is kept from what a
-- caller sees, and of that the count of the popped is no part.
-- The project's engine is read before this, so that what is wrong of the statement is told by its own theorems first.
-- Assumes nothing.
use mathlib.Core.Path.{◌≡◌, refl, sym, ap, subst, ◌∙◌}
use mathlib.Core.Bool.{Bool, true, false, cond, ◌&&◌}
use mathlib.Core.Option.{Option, none, some}
use mathlib.Core.List.{List, [], ◌∷◌, filter_map}
use Prim.Native.Nat.{ℕ, ◌≤◌, ◌<◌, ◌^◌}
use lib.Dec.{ltb}
use lib.ListN.{length, take, drop}
use Rattle.theory.specs.First.{first_bad}
use Rattle.theory.specs.Occurs.{times, has}
use Rattle.theory.specs.Weights.{Rising}
use Rattle.theory.proofs.Tests.{and_left, and_right}
use Rattle.refusals.specs.Answer.{Answer, accepted, refused, unsound, is_accepted}
use Rattle.heap.specs.Capacity.{cap}
use Rattle.interval.specs.Rules.{tick_of, restart_of}
use Rattle.state.specs.declared.Handle.{Handle}
use Rattle.state.specs.Handles.{named_by, handle_discrete}
use Rattle.timers.specs.declared.Call.{Call}
use Rattle.timers.specs.declared.Call.TheVariants as C
use Rattle.timers.specs.Values.{Value, nothing, handle, counts, wake, polled, time, handle_in, reports_in}
use Rattle.promises.specs.Turns.{Engine, Seen, seen, Line, Ledger, cleared, rung, each, added, noted, note, owed, settled, Exact, Least, Must, exactly, counting, waking, Answers, added_at, taken_in, if_live, if_timed, while_open, once_closed, must, Run, next, from, run, Bounded, Accepted, Moment, all_asked, every, Meets}
use Rattle.promises.specs.Beside.{plain, Together, Beside}

-- ANSWERS

-- answers of which a ledger is kept alike
record Alike (a b : Answer Value) : Type 0 where
  pub accepts : is_accepted a ≡ is_accepted b
  pub handles : handle_in a ≡ handle_in b
  pub counted : reports_in a ≡ reports_in b

plain_alike : (a : Answer Value) → Alike (plain a) a
plain_alike (accepted nothing) = record { accepts = refl; handles = refl; counted = refl }
plain_alike (accepted (handle h)) = record { accepts = refl; handles = refl; counted = refl }
plain_alike (accepted (counts r p)) = record { accepts = refl; handles = refl; counted = refl }
plain_alike (accepted (wake t)) = record { accepts = refl; handles = refl; counted = refl }
plain_alike (accepted (polled n)) = record { accepts = refl; handles = refl; counted = refl }
plain_alike (accepted (time t)) = record { accepts = refl; handles = refl; counted = refl }
plain_alike (refused n) = record { accepts = refl; handles = refl; counted = refl }
plain_alike (unsound f) = record { accepts = refl; handles = refl; counted = refl }

-- what must be answered has no count of the popped
abbrev Uncounted : Must → Type 0
Uncounted (exactly a) = plain a ≡ a
Uncounted counting = Unit {0}
Uncounted waking = Unit {0}

answers_plain : (m : Must) → Uncounted m → (a : Answer Value) → Answers m a → Answers m (plain a)
answers_plain (exactly x) u a e = ap plain e ∙ u
answers_plain counting u a (n, m, e) = (n, 0, ap plain e)
answers_plain waking u a (t, e) = (t, ap plain e)

plain_added : (L : Ledger) (o : Option ℕ) → plain (added_at L o) ≡ added_at L o
plain_added L none = refl
plain_added L (some p) = refl

plain_if : (b : Bool) (x y : Answer Value) → plain x ≡ x → plain y ≡ y → plain (cond b x y) ≡ cond b x y
plain_if true x y e f = e
plain_if false x y e f = f

plain_live : (l : Line) (a : Answer Value) → plain a ≡ a → plain (if_live l a) ≡ if_live l a
plain_live l a e = plain_if l.live a (refused 3) e refl

plain_timed : (x : Answer ℕ) (v : Value) → plain (accepted v) ≡ accepted v → plain (if_timed x v) ≡ if_timed x v
plain_timed (accepted t) v e = e
plain_timed (refused n) v e = refl
plain_timed (unsound f) v e = refl

uncounted_if : (b : Bool) (x y : Must) → Uncounted x → Uncounted y → Uncounted (cond b x y)
uncounted_if true x y e f = e
uncounted_if false x y e f = f

open_uncounted : (L : Ledger) (n : ℕ) (c : Call) → Uncounted (while_open L n c)
open_uncounted L n (C.Add d) = plain_added L (first_bad (taken_in L) cap 0)
open_uncounted L n (C.Reset h d) = plain_live (L.line h) (accepted nothing) refl
open_uncounted L n (C.Cancel h) = plain_live (L.line h) (accepted nothing) refl
open_uncounted L n C.Drain = refl
open_uncounted L n (C.Advance N) = uncounted_if (ltb n cap) (exactly (refused 5)) counting refl tt
open_uncounted L n (C.Turn N) = uncounted_if (ltb n cap) (exactly (refused 5)) counting refl tt
open_uncounted L n C.NextWake = tt
open_uncounted L n (C.Poll h) = plain_live (L.line h) (accepted (polled (cond (L.line h).reported 1 0))) refl
open_uncounted L n C.Close = refl
open_uncounted L n (C.Tick h p period N) =
    let l = L.line h in
    plain_live l (cond l.reported (if_timed (tick_of p l.due period N) (time l.due)) (refused 10))
    (plain_if l.reported (if_timed (tick_of p l.due period N) (time l.due)) (refused 10)
    (plain_timed (tick_of p l.due period N) (time l.due) refl) refl)
open_uncounted L n (C.Restart h period N) =
    plain_live (L.line h) (if_timed (restart_of period N) nothing) (plain_timed (restart_of period N) nothing refl)

closed_uncounted : (L : Ledger) (c : Call) → Uncounted (once_closed L c)
closed_uncounted L (C.Add d) = refl
closed_uncounted L (C.Reset h d) = refl
closed_uncounted L (C.Cancel h) = refl
closed_uncounted L C.Drain = refl
closed_uncounted L (C.Advance N) = refl
closed_uncounted L (C.Turn N) = refl
closed_uncounted L C.NextWake = refl
closed_uncounted L (C.Poll h) = plain_live (L.line h) (accepted (polled (cond (L.line h).reported 1 2))) refl
closed_uncounted L C.Close = refl
closed_uncounted L (C.Tick h p period N) = refl
closed_uncounted L (C.Restart h period N) = refl

must_uncounted : (L : Ledger) (c : Call) (l : List ℕ) → Uncounted (must L c l)
must_uncounted L c l = uncounted_if L.closed (once_closed L c) (while_open L (length l) c) (closed_uncounted L c) (open_uncounted L (length l) c)

-- WHAT A CALLER SEES

-- the same reports, and answers alike
record SeenAlike (a b : Seen) : Type 0 where
  pub answers : Alike a.answer b.answer
  pub reports : a.reports ≡ b.reports

noted_same : (c : Call) (a b : Seen) (L : Ledger) → SeenAlike a b → noted c a L ≡ noted c b L
noted_same (C.Add d) a b L e = ap (λ (o : Option Handle). added o d L) e.answers.handles
noted_same (C.Reset h d) a b L e = refl
noted_same (C.Cancel h) a b L e = refl
noted_same C.Drain a b L e = refl
noted_same (C.Advance N) a b L e = ap (λ (x : List Handle). each (λ h. rung (has handle_discrete h x)) L) e.reports
noted_same (C.Turn N) a b L e = ap (λ (x : List Handle). each (λ h l. rung (has handle_discrete h x) (cleared l)) L) e.reports
noted_same C.NextWake a b L e = refl
noted_same (C.Poll h) a b L e = refl
noted_same C.Close a b L e = refl
noted_same (C.Tick h p period N) a b L e = refl
noted_same (C.Restart h period N) a b L e = refl

note_same : (c : Call) (a b : Seen) (L : Ledger) → SeenAlike a b → note c a L ≡ note c b L
unfolding note
note_same c a b L e = λ t. cond (e.answers.accepts t) (noted_same c a b L e t) L

exact_same : (L : Ledger) (passes : Line → Bool) (N : ℕ) (a b : Seen) → SeenAlike a b → Exact L passes N b → Exact L passes N a
exact_same L passes N a b e x =
    record {
      each_once = λ h. ap (λ (l : List Handle). times handle_discrete h l) e.reports ∙ x.each_once h;
      in_order = subst (Rising (λ h. (L.line h).due) 0) (sym e.reports) x.in_order;
      counted = ap length e.reports ∙ x.counted ∙ sym e.answers.counted;
    }

-- BOTH RUNS

module _ (E F : Engine) (asked : Call → Bool) (Tied : E.State → F.State → Type 0) (b : Beside E F asked Tied) where
  -- their states are tied, and their ledgers are one
  record Runs (r : Run E) (q : Run F) : Type 0 where
    pub tied : Tied r.state q.state
    pub ledgers : r.ledger ≡ q.ledger

  module _ (r : Run E) (q : Run F) (both : Runs r q) (c : Call) (l : List ℕ) (a : asked c ≡ true) where
    together : Together E F Tied r.state q.state c l
    together = b.at_calls r.state q.state both.tied c l a

    alike : Alike (E.step r.state c l).answer (F.step q.state c l).answer
    alike = subst (λ (x : Answer Value). Alike x (F.step q.state c l).answer) (sym together.answers) (plain_alike (F.step q.state c l).answer)

    seen_alike : SeenAlike (seen (E.step r.state c l)) (seen (F.step q.state c l))
    seen_alike = record { answers = alike; reports = λ t. filter_map named_by (take (alike.counted t) (together.lists t)) }

    next_runs : Runs (next E r c l) (next F q c l)
    unfolding next
    next_runs = record {
      tied = together.tied;
      ledgers = note_same c (seen (E.step r.state c l)) (seen (F.step q.state c l)) r.ledger seen_alike ∙ ap (note c (seen (F.step q.state c l))) both.ledgers;
    }

    accepted_too : Accepted E r c l → Accepted F q c l
    accepted_too y = sym alike.accepts ∙ y

  from_runs : (cs : List (Call × List ℕ)) (r : Run E) (q : Run F) → Runs r q → all_asked asked cs ≡ true → Runs (from E r cs) (from F q cs)
  unfolding from
  from_runs [] r q both a = both
  from_runs (c ∷ cs) r q both a =
      from_runs cs (next E r c.0 c.1) (next F q c.0 c.1)
      (next_runs r q both c.0 c.1 (and_left (asked c.0) (all_asked asked cs) a)) (and_right (asked c.0) (all_asked asked cs) a)

  -- the premise of the one is the premise of the other
  bounded_too : (cs : List (Call × List ℕ)) (r : Run E) (q : Run F) → Runs r q → all_asked asked cs ≡ true → Bounded E r cs → Bounded F q cs
  unfolding Bounded
  bounded_too [] r q both a low = subst (λ (L : Ledger). (h : Handle) → (L.line h).resets < 2 ^ 30) both.ledgers low
  bounded_too (c ∷ cs) r q both a low = (
    subst (λ (L : Ledger). (h : Handle) → (L.line h).resets < 2 ^ 30) both.ledgers low.0,
    bounded_too cs (next E r c.0 c.1) (next F q c.0 c.1)
        (next_runs r q both c.0 c.1 (and_left (asked c.0) (all_asked asked cs) a)) (and_right (asked c.0) (all_asked asked cs) a) low.1,
  )

  -- a moment of the other is a moment of the one
  moment_too : (r : Run E) (q : Run F) → Runs r q → (P Q : Type 0) → (P → Q) → Moment F every q Q → Moment E asked r P
  moment_too r q both P Q pq m =
      let L = r.ledger in
      let M = q.ledger in
      let back : (X : Ledger → Type 0) → X M → X L = λ X x. subst X (sym both.ledgers) x in
      let there : (X : Ledger → Type 0) → X L → X M = λ X x. subst X both.ledgers x in
      record {
        answers = λ c l a.
            subst (Answers (must L c l)) (sym (together r q both c l a).answers)
            (answers_plain (must L c l) (must_uncounted L c l) (F.step q.state c l).answer
            (back (λ X. Answers (must X c l) (F.step q.state c l).answer) (m.answers c l refl)));
        lends = λ c l a.
            let g = together r q both c l a in
            let n = (alike r q both c l a).counted in
            let w = m.lends c l refl in
            (ap length g.lists ∙ w.0, (λ t. drop (n t) (g.lists t)) ∙ w.1 ∙ (λ t. drop (sym n t) l));
        turns = λ N l a y.
            exact_same L owed N (seen (E.step r.state (C.Turn N) l)) (seen (F.step q.state (C.Turn N) l)) (seen_alike r q both (C.Turn N) l a)
            (back (λ X. Exact X owed N (seen (F.step q.state (C.Turn N) l))) (m.turns N l refl (accepted_too r q both (C.Turn N) l a y)));
        wakes = λ l a p c all.
            let w = m.wakes l refl (pq p) (there (λ X. X.closed ≡ false) c) (there (λ X. (h : Handle) → settled (X.line h) ≡ true) all) in
            (w.0, (together r q both C.NextWake l a).answers ∙ ap plain w.1, back (λ X. Least X w.0) w.2);
        in_time = λ h l a c y.
            let w = m.in_time h l refl (there (λ X. X.closed ≡ false) c) (there (λ X. owed (X.line h) && (X.line h).drained ≡ true) y) in
            (w.0, (together r q both C.NextWake l a).answers ∙ ap plain w.1, back (λ X. w.0 ≤ (X.line h).due) w.2);
        advances = λ N l a p y.
            exact_same L (λ x. owed x && x.drained) N (seen (E.step r.state (C.Advance N) l)) (seen (F.step q.state (C.Advance N) l))
            (seen_alike r q both (C.Advance N) l a)
            (back (λ X. Exact X (λ x. owed x && x.drained) N (seen (F.step q.state (C.Advance N) l)))
            (m.advances N l refl (pq p) (accepted_too r q both (C.Advance N) l a y)));
      }

  every_asked : (cs : List (Call × List ℕ)) → all_asked every cs ≡ true
  every_asked [] = refl
  every_asked (c ∷ cs) = every_asked cs

  -- SO THE ONE MEETS DEMAND 3, of the calls that it is asked, where the other meets it of every call
  pub beside_meets : Meets F every → Meets E asked
  unfolding from
  beside_meets k cs a =
      let start : Runs (run E []) (run F []) = record { tied = b.at_start; ledgers = refl } in
      moment_too (run E cs) (run F cs) (from_runs cs (run E []) (run F []) start a) (Bounded E (run E []) cs) (Bounded F (run F []) cs)
      (bounded_too cs (run E []) (run F []) start a) (k cs (every_asked cs))
