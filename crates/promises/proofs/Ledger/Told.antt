-- The ledger after a drain and after a list of reports, and what reports in a row come to.
-- Assumes nothing.
use mathlib.Core.Path.{◌≡◌, refl, sym, ap, ◌∙◌, fun_ext}
use mathlib.Core.Logic.{◌≢◌}
use mathlib.Core.Bool.{Bool, true, false, ◌||◌}
use mathlib.Core.List.{List, [], ◌∷◌, ◌++◌}
use Rattle.theory.specs.Tests.{is_yes}
use Rattle.theory.specs.Occurs.{has}
use Rattle.theory.proofs.Occurs.{has_same, has_other}
use Rattle.state.specs.declared.Handle.{Handle}
use Rattle.state.specs.Handles.{handle_discrete}
use Rattle.promises.specs.Turns.{Line, Ledger, cleared, rung, each}

-- after a drain
abbrev pub swept : Ledger → Ledger
swept L = each (λ h. cleared) L

-- after these reports
abbrev pub told : List Handle → Ledger → Ledger
told R L = each (λ h. rung (has handle_discrete h R)) L

or_false : (b : Bool) → b || false ≡ b
or_false true = refl
or_false false = refl

or_later : (a b c : Bool) → (a || b) || c ≡ a || (b || c)
or_later true b c = refl
or_later false b c = refl

has_append : (h : Handle) (R Q : List Handle) → has handle_discrete h (R ++ Q) ≡ has handle_discrete h R || has handle_discrete h Q
unfolding has
has_append h [] Q = refl
has_append h (k ∷ R) Q =
    ap (λ (b : Bool). is_yes (handle_discrete h k) || b) (has_append h R Q)
    ∙ sym (or_later (is_yes (handle_discrete h k)) (has handle_discrete h R) (has handle_discrete h Q))

-- a line that is not reported stays
pub rung_not : (l : Line) → rung false l ≡ l
rung_not l = λ i. record { live = l.live; due = l.due; reported = or_false l.reported i; drained = l.drained; resets = l.resets; leaving = l.leaving }

-- a report of nobody changes nothing
pub told_none : (L : Ledger) → told [] L ≡ L
unfolding has
told_none L = λ i. record { line = fun_ext (λ h. rung_not (L.line h)) i; given = L.given; closed = L.closed }

-- a report of another handle leaves the line
pub told_other : (k h : Handle) (L : Ledger) → h ≢ k → (told (k ∷ []) L).line h ≡ L.line h
unfolding has
told_other k h L n = ap (λ (b : Bool). rung b (L.line h)) (has_other handle_discrete h k [] n) ∙ rung_not (L.line h)

-- a report of the handle itself
pub told_same : (k : Handle) (L : Ledger) → (told (k ∷ []) L).line k ≡ rung true (L.line k)
told_same k L = ap (λ (b : Bool). rung b (L.line k)) (has_same handle_discrete k [])

-- two lists of reports, one after the other
pub told_append : (R Q : List Handle) (L : Ledger) → told Q (told R L) ≡ told (R ++ Q) L
told_append R Q L = λ i. record { line = fun_ext (λ h. one h) i; given = L.given; closed = L.closed }
  where
    one : (h : Handle) → (told Q (told R L)).line h ≡ (told (R ++ Q) L).line h
    one h =
        let e = or_later (L.line h).reported (has handle_discrete h R) (has handle_discrete h Q) in
        (λ i. record { live = (L.line h).live; due = (L.line h).due; reported = e i; drained = (L.line h).drained; resets = (L.line h).resets; leaving = (L.line h).leaving })
        ∙ ap (λ (b : Bool). rung b (L.line h)) (sym (has_append h R Q))
