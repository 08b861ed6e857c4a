-- The further rows hold: none of them is wrong. Every set in them is sound, so a call answers as it does without the test, which looks
-- at every place. Without it the rows are computed; that an add finds no place in a set with none free is a law.
-- Assumes nothing.
use mathlib.Core.Path.{◌≡◌, refl, sym, ap, ap₂, ◌∙◌}
use mathlib.Core.Bool.{Bool, true, false, cond}
use mathlib.Core.List.{List, [], ◌∷◌, ◌++◌}
use Prim.Native.Nat.{ℕ}
use lib.ListN.{replicate}
use Rattle.std.specs.Prelude.{None}
use Rattle.theory.specs.Chain.{nodes}
use Rattle.theory.specs.First.{first_bad}
use Rattle.refusals.specs.Answer.{Answer, Outcome, accepted, refused}
use Rattle.heap.specs.Capacity.{cap}
use Rattle.heap.specs.Rules.{put_at, swap_at, rises_at, up_from, child_of, down_from, taken_of, added_of, pushed_of, vacated_of, filled_of, removed_of}
use Rattle.heap.specs.Calls.{push_sound, remove_sound, pop_sound, peek_sound}
use Rattle.state.specs.declared.Life.TheVariants.{Live, Retired}
use Rattle.state.specs.declared.Waiting.TheVariants.{Last}
use Rattle.state.specs.declared.Timer.{Timer}
use Rattle.state.specs.State.{timer_at}
use Rattle.moves.specs.Rules.{touched_of, taken, lowest_free, settled_of, drain_from, due_by, rung_of, ring_from, advanced_of}
use Rattle.timers.specs.declared.Call.{Call}
use Rattle.timers.specs.declared.Call.TheVariants as C
use Rattle.timers.specs.Calls.{Value, nothing, handle, Lent, lent, live_at, step}
use Rattle.laws.specs.Words.{Fit}
use Rattle.laws.proofs.Soundness.StepSound.{fresh_fit}
use Rattle.promises.specs.Bench.{answered, Way, ◌with_use◌}
use Rattle.promises.specs.States.{spare, heap_of, set_of, from, nobody}
use Rattle.laws.specs.Unguarded.{unguarded}
use Rattle.promises.specs.Corners.{Corner, poll, skip, calls, drain, names, Row, same_place, right_by, wrong_by, wrong, place, cancelled_at, alone, crowded, marked, last_uses, none_free, others, corners}
use Rattle.laws.proofs.Soundness.Unguarded.{step_same}
use Rattle.promises.proofs.Untested.{calls_same}
use Rattle.promises.proofs.Drawn.Fitting.{few_fit}
use Rattle.promises.proofs.Drawn.Crowded.{crowd, crowded_fit, add_full}

-- WITHOUT THE TEST: the same rows are wrong

-- the set of a row fits
abbrev Fits : Corner → Type 0
Fits (poll w n) = Unit {0}
Fits (skip T period N a) = Unit {0}
Fits (calls s cs ws) = Fit s
Fits (drain s t) = Fit s
Fits (names w h) = Unit {0}

abbrev AllFit : List Row → Type 0
AllFit [] = Unit {0}
AllFit (r ∷ rs) = Fits r.asked × AllFit rs

right_same : (c : Corner) → Fits c → right_by unguarded c ≡ right_by step c
right_same (poll w n) f = refl
right_same (skip T period N a) f = refl
right_same (calls s cs ws) f = calls_same (lent s (replicate cap 0)) f cs ws
right_same (drain s t) f = ap (λ (o : Outcome Lent Value). same_place (timer_at o.state.set 0) t) (sym (step_same s f C.Drain []))
right_same (names w h) f = refl

wrong_same : (rs : List Row) → AllFit rs → wrong_by unguarded rs ≡ wrong rs
wrong_same [] f = refl
wrong_same (r ∷ rs) f = λ i. cond (right_same r.asked f.0 i) (wrong_same rs f.1 i) (r.number ∷ wrong_same rs f.1 i)

-- every set in them fits; what is drawn of it tells, and of a crowded one a law
alone_fit : (u : ℕ) → Fit (set_of (alone u))
unfolding heap_of set_of nodes
alone_fit u = few_fit (alone u) refl refl refl

marked_fit : Fit (set_of marked)
unfolding heap_of set_of nodes
marked_fit = few_fit marked refl refl refl

corners_fit : AllFit corners
corners_fit =
    let a = alone_fit 4294967294 in
    let b = alone_fit 4294967295 in
    let c = crowded_fit 4294967294 in
    let d = crowded_fit 4294967295 in
    (a, (a, (b, (b, (c, (d, (tt, (tt, (tt, (tt, (marked_fit, (tt, (tt, (tt, (tt, (fresh_fit, (tt, (tt, (tt, (tt, (tt, tt)))))))))))))))))))))

-- COMPUTED: the rows of sets of which few places are drawn, and of no set. Rows 1 and 2, then 5 to 10
computed_rows : (wrong_by unguarded last_uses ≡ []) × (wrong_by unguarded others ≡ [])
unfolding spare heap_of set_of unguarded live_at touched_of taken lowest_free settled_of drain_from due_by rung_of ring_from advanced_of push_sound remove_sound pop_sound peek_sound pushed_of removed_of filled_of vacated_of added_of taken_of down_from child_of up_from rises_at swap_at put_at first_bad
computed_rows = (refl, refl)

-- BY THE LAW: rows 3 and 4, of which the drain of place 0 and the add that gets it are computed

-- the timer that gets it
abbrev given : Timer
given = record { life = Live 0 10; waiting = Last; held = None; uses = 4294967295 }

module _ (l : List ℕ) where
  -- the place is freed, and an add gets it; or it is retired
  drained_freed : (cs : List Call) (ws : List (Answer Value))
      → answered unguarded (lent (set_of (crowded 4294967294)) l) (C.Drain ∷ C.Add 10 ∷ cs) (accepted nothing ∷ accepted (handle (0 with_use 4294967295)) ∷ ws)
      ≡ answered unguarded (lent (crowd given (from 0)) l) cs ws
  unfolding spare set_of unguarded touched_of taken lowest_free settled_of drain_from first_bad
  drained_freed cs ws = refl

  drained_retired : (cs : List Call) (ws : List (Answer Value))
      → answered unguarded (lent (set_of (crowded 4294967295)) l) (C.Drain ∷ cs) (accepted nothing ∷ ws)
      ≡ answered unguarded (lent (crowd (place Retired 4294967295) nobody) l) cs ws
  unfolding spare set_of unguarded settled_of drain_from
  drained_retired cs ws = refl

  -- the first add finds no place
  added_crowded : (u : ℕ) (cs : List Call) (ws : List (Answer Value))
      → answered unguarded (lent (set_of (crowded u)) l) (C.Add 10 ∷ cs) (refused 4 ∷ ws) ≡ answered unguarded (lent (set_of (crowded u)) l) cs ws
  unfolding spare set_of
  added_crowded u cs ws = add_full (cancelled_at u) (from 0) refl l 10 cs ws

  -- the two rows, whatever list is lent
  row_freed : answered unguarded (lent (set_of (crowded 4294967294)) l) (C.Add 10 ∷ C.Drain ∷ C.Add 10 ∷ C.Add 10 ∷ [])
      (refused 4 ∷ accepted nothing ∷ accepted (handle (0 with_use 4294967295)) ∷ refused 4 ∷ []) ≡ true
  row_freed =
      added_crowded 4294967294 (C.Drain ∷ C.Add 10 ∷ C.Add 10 ∷ [])
      (accepted nothing ∷ accepted (handle (0 with_use 4294967295)) ∷ refused 4 ∷ [])
      ∙ drained_freed (C.Add 10 ∷ []) (refused 4 ∷ [])
      ∙ add_full given (from 0) refl l 10 [] []

  row_retired : answered unguarded (lent (set_of (crowded 4294967295)) l) (C.Add 10 ∷ C.Drain ∷ C.Add 10 ∷ [])
      (refused 4 ∷ accepted nothing ∷ refused 4 ∷ []) ≡ true
  row_retired =
      added_crowded 4294967295 (C.Drain ∷ C.Add 10 ∷ []) (accepted nothing ∷ refused 4 ∷ [])
      ∙ drained_retired (C.Add 10 ∷ []) (refused 4 ∷ [])
      ∙ add_full (place Retired 4294967295) nobody refl l 10 [] []

crowded_rows : wrong_by unguarded none_free ≡ []
crowded_rows =
    let l : List ℕ = replicate cap 0 in
    ap₂ (λ (b : Bool) (ns : List ℕ). cond b ns (3 ∷ ns)) (row_freed l) (ap (λ (b : Bool). cond b [] (4 ∷ [])) (row_retired l))

-- ALL: of two lists of rows together those are wrong that are wrong of each
wrong_append : (way : Way) (rs qs : List Row) → wrong_by way (rs ++ qs) ≡ wrong_by way rs ++ wrong_by way qs
wrong_append way [] qs = refl
wrong_append way (r ∷ rs) qs =
    ap (λ (ns : List ℕ). cond (right_by way r.asked) ns (r.number ∷ ns)) (wrong_append way rs qs)
    ∙ apart (right_by way r.asked) r.number (wrong_by way rs) (wrong_by way qs)
  where
    apart : (b : Bool) (n : ℕ) (xs ys : List ℕ) → cond b (xs ++ ys) (n ∷ (xs ++ ys)) ≡ cond b xs (n ∷ xs) ++ ys
    apart true n xs ys = refl
    apart false n xs ys = refl

-- none is wrong
pub corner_rows : wrong corners ≡ []
corner_rows =
    sym (wrong_same corners corners_fit)
    ∙ wrong_append unguarded last_uses (none_free ++ others)
    ∙ ap₂ ◌++◌ computed_rows.0 (wrong_append unguarded none_free others ∙ ap₂ ◌++◌ crowded_rows computed_rows.1)
