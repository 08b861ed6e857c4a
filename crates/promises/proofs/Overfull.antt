-- An engine that never refuses an add with 4 does not meet the statement: adds alone take place after place, and once all are taken one
-- more must be refused. So `overfull` does not. No set is computed here, and the capacity may be any.
-- Assumes nothing.
use mathlib.Core.Path.{◌≡◌, refl, sym, ap, subst, ◌∙◌}
use mathlib.Core.Bool.{Bool, true, false, cond}
use mathlib.Core.Option.{Option, none, some}
use mathlib.Core.List.{List, [], ◌∷◌, ◌++◌}
use mathlib.Core.Logic.{◌≢◌}
use Prim.Native.Nat.{ℕ, zero, suc, ◌+◌, ◌≤◌, ◌<◌}
use native.Mathlib.Omega.{arith}
use native.Mathlib.Decide.{ℕ_discrete}
use Rattle.theory.specs.Tests.{bit}
use Rattle.theory.specs.First.{first_bad}
use Rattle.theory.proofs.First.{all_none}
use Rattle.theory.proofs.Order.{split}
use Rattle.theory.proofs.Update.{upd_same, upd_other}
use Rattle.refusals.specs.Answer.{Answer, accepted, refused, is_accepted, unsound}
use Rattle.heap.specs.Capacity.{cap}
use Rattle.state.specs.declared.Handle.{Handle}
use Rattle.state.specs.Handles.{handle_discrete}
use Rattle.timers.specs.declared.Call.{Call}
use Rattle.timers.specs.declared.Call.TheVariants as C
use Rattle.timers.specs.Values.{Value, handle_in}
use Rattle.promises.specs.Bench.{◌with_use◌}
use Rattle.promises.specs.Turns.{Engine, Ledger, begun, added, note, taken_by, taken_in, added_at, Answers, while_open, once_closed, next, from, run, all_asked, Meets, every}
use Rattle.promises.specs.Untested.{untested}
use Rattle.promises.proofs.Meeting.{from_append}
use Rattle.promises.specs.Useless.{one_place_more, overfull}

-- the first number of a scan that fails, where those before it pass
first_at : (ok : ℕ → Bool) (n k i : ℕ) → k ≤ i → i < k + n → ((j : ℕ) → k ≤ j → j < i → ok j ≡ true) → ok i ≡ false → first_bad ok n k ≡ some i
unfolding first_bad
first_at ok zero k i a b t f = absurd (omega arith)
first_at ok (suc n) k i a b t f =
    split i k
    (λ e. rw (ap ok (sym e) ∙ f) (ap some (sym e)))
    (λ d. rw (t k (omega arith) (omega arith)) (first_at ok n (k + 1) i (omega arith) (omega arith) (λ j l m. t j (omega arith) m) f))

-- the places below k are taken, and nothing was closed
record Filled (k : ℕ) (L : Ledger) : Type 0 where
  unclosed : L.closed ≡ false
  below : (q : ℕ) → q < k → taken_in L q ≡ true

-- the newest handle of a place that is added there takes it, and no other place is touched
added_takes : (L : Ledger) (k d : ℕ) → taken_in (added (some (k with_use (L.given k))) d L) k ≡ true
unfolding taken_in
added_takes L k d =
    let h = k with_use (L.given k) in
    rw (upd_same ℕ_discrete L.given k (suc (L.given k)), upd_same handle_discrete L.line h (begun d (L.line h)))

taken_other : (L : Ledger) (k u d q : ℕ) → q ≢ k → (n : ℕ) → taken_by (added (some (k with_use u)) d L) q n ≡ taken_by L q n
taken_other L k u d q ne zero = refl
taken_other L k u d q ne (suc n) =
    let h = k with_use u in
    rw (upd_other handle_discrete L.line h (begun d (L.line h)) (q with_use n) (λ e. ne (ap (λ (x : Handle). x.place.0) e)))

added_others : (L : Ledger) (k u d q : ℕ) → q ≢ k → taken_in (added (some (k with_use u)) d L) q ≡ taken_in L q
unfolding taken_in
added_others L k u d q ne =
    rw (upd_other ℕ_discrete L.given k (suc (L.given k)) q ne) (taken_other L k u d q ne (L.given q))

-- so one place more is taken
one_more_lem : (L : Ledger) (k : ℕ) → Filled k L → Filled (suc k) (added (some (k with_use (L.given k))) 10 L)
one_more_lem L k f = record {
  unclosed = f.unclosed;
  below = λ q b.
      split q k
      (λ e. subst (λ x. taken_in (added (some (k with_use (L.given k))) 10 L) x ≡ true) (sym e) (added_takes L k 10))
      (λ ne. added_others L k (L.given k) 10 q ne ∙ f.below q (omega arith));
}

-- every call is asked
all_asked_lem : (cs : List (Call × List ℕ)) → all_asked every cs ≡ true
all_asked_lem [] = refl
all_asked_lem (c ∷ cs) = all_asked_lem cs

-- what an add answers, before a close, by the place that it must be given
add_answers : (E : Engine) → Meets E every → (cs : List (Call × List ℕ)) (o : Option ℕ) → let L = (run E cs).ledger in
    L.closed ≡ false → first_bad (taken_in L) cap 0 ≡ o → (E.step (run E cs).state (C.Add 10) []).answer ≡ added_at L o
add_answers E m cs o c e =
    let L = (run E cs).ledger in
    let a = (E.step (run E cs).state (C.Add 10) []).answer in
    subst (λ x. a ≡ added_at L x) e
    (subst (λ b. Answers (cond b (once_closed L (C.Add 10)) (while_open L 0 (C.Add 10))) a) c ((m cs (all_asked_lem cs)).answers (C.Add 10) [] refl))

-- with n places left from k on: an add takes the next, and where none is left it must be refused with 4
fill : (E : Engine) → ((s : E.State) (l : List ℕ) → (E.step s (C.Add 10) l).answer ≢ refused 4) → Meets E every
    → (n k : ℕ) → k + n ≡ cap → (cs : List (Call × List ℕ)) → Filled k (run E cs).ledger → ⊥
unfolding next note from
fill E v m zero k e cs f =
    v (run E cs).state [] (add_answers E m cs none f.unclosed (all_none (taken_in (run E cs).ledger) cap 0 (λ i a b. f.below i (omega arith))))
fill E v m (suc n) k e cs f = go (taken_in (run E cs).ledger k) refl (fill E v m n (suc k) (omega arith))
  where
    go : (b : Bool) → taken_in (run E cs).ledger k ≡ b → ((ds : List (Call × List ℕ)) → Filled (suc k) (run E ds).ledger → ⊥) → ⊥
    go true q more = more cs (record {
      unclosed = f.unclosed;
      below = λ j b. split j k (λ d. ap (taken_in (run E cs).ledger) d ∙ q) (λ d. f.below j (omega arith));
    })
    go false q more =
        let L = (run E cs).ledger in
        let a = add_answers E m cs (some k) f.unclosed (first_at (taken_in L) cap 0 k (omega arith) (omega arith) (λ j x b. f.below j b) q) in
        more (cs ++ (C.Add 10, []) ∷ [])
        (subst (λ r. Filled (suc k) r.ledger) (sym (from_append E cs ((C.Add 10, []) ∷ []) (run E [])))
        (subst (λ x. Filled (suc k) (cond (is_accepted x) (added (handle_in x) 10 L) L)) (sym a) (one_more_lem L k f)))

-- an engine that never refuses an add with 4: an add for each place, and one more
pub boundless_fails : (E : Engine) → ((s : E.State) (l : List ℕ) → (E.step s (C.Add 10) l).answer ≢ refused 4) → Meets E every → ⊥
unfolding from
boundless_fails E v m = fill E v m cap 0 refl [] (record { unclosed = refl; below = λ q b. absurd (omega arith) })

-- so it is with `overfull`, which refuses no add
never : (a : Answer Value) → one_place_more a ≢ refused 4
never (accepted v) e = let z : ◌≡◌ {A = ℕ} 1 0 = ap (λ x. bit (is_accepted x)) e in absurd (omega arith)
never (refused n) e = let z : ◌≡◌ {A = ℕ} 1 0 = ap (λ x. bit (is_accepted x)) e in absurd (omega arith)
never (unsound f) e = let z : ◌≡◌ {A = ℕ} 1 0 = ap (λ x. bit (is_accepted x)) e in absurd (omega arith)

pub overfull_fails : Meets overfull every → ⊥
overfull_fails = boundless_fails overfull (λ s l. never (untested.step s (C.Add 10) l).answer)
