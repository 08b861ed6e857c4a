-- The least of the deadlines that the scan passes on is that of the pending timers of all places.
-- Assumes nothing.
use mathlib.Core.Path.{◌≡◌, refl, sym, ap, ◌∙◌}
use mathlib.Core.Bool.{cond}
use mathlib.Core.Option.{Option, none, some}
use mathlib.Core.List.{List, [], ◌∷◌, ◌++◌}
use Prim.Native.Nat.{ℕ, zero, suc, ◌≤◌, min}
use native.Mathlib.Omega.{arith}
use borrow.Author.Rules.{rules}
use lib.Dec.{ltb}
use lib.ListN.{length, take, get_or}
use lib.Seq.{take-suc, take_all}
use Rattle.std.specs.Prelude as Std
use Rattle.std.specs.Prelude.{Some, None}
use Rattle.std.specs.List.{filter_map, cons_option, fold, reduce}
use Rattle.std.proofs.lemmas.Bool.Decides.{nat_tests}
use Rattle.std.proofs.lemmas.Iterator.Adapters.{option_map_id}
use Rattle.std.proofs.lemmas.Iterator.{YieldsList-from_slice}
use Rattle.std.proofs.lemmas.Iterator.Consumers.{YieldsList-from_filter_map, min_from_yields_List}
use Rattle.std.proofs.lemmas.List.Elements.{filter_map-append}
use Rattle.std.proofs.lemmas.List.Sums.{fold-append}
use Rattle.theory.specs.Least.{least_below}
use Rattle.theory.proofs.Stores.{unmapped}
use Rattle.heap.specs.Capacity.{cap}
use Rattle.state.specs.declared.Timer.{Timer}
use Rattle.state.specs.State.{no_timer}
use Rattle.timers.specs.Left.{lesser_due, pending_in, soonest_of, said_earliest}
use Rattle.timers.proofs.left.soonest.Goals as goal

-- what is said of a deadline, as the code has it
abbrev due_of : Option ℕ → Std.Option ℕ
due_of none = None
due_of (some d) = Some d

said_back : (o : Std.Option ℕ) → due_of (said_earliest o) ≡ o
said_back None = refl
said_back (Some d) = refl

abbrev pending_of : Timer → Std.Option ℕ
pending_of t = due_of (pending_in t.life)

-- the least of the numbers of a list
abbrev least_of : List ℕ → Option ℕ
least_of l = said_earliest (reduce min l)

lesser_min : (m d : ℕ) → min m d ≡ cond (ltb d m) d m
lesser_min m d = grind (arith, nat_tests)

least_push : (l : List ℕ) (o : Option ℕ) → least_of (l ++ cons_option (due_of o) []) ≡ lesser_due (least_of l) o
least_push [] none = refl
least_push [] (some d) = refl
least_push (x ∷ xs) none = ap some (fold-append min x xs [])
least_push (x ∷ xs) (some d) = ap some (fold-append min x xs (d ∷ []) ∙ lesser_min (fold min x xs) d)

-- the least of the first n timers' deadlines is that of the numbers below n
least_listed : (ts : List Timer) (n : ℕ) → n ≤ length ts
    → least_of (filter_map pending_of (take n ts)) ≡ least_below ltb (λ p. pending_in (get_or ts p no_timer).life) n
unfolding least_below
least_listed ts zero l = refl
least_listed ts (suc n) l =
    let x = get_or ts n no_timer in
    ap (λ (us : List Timer). least_of (filter_map pending_of us)) (take-suc ts n no_timer (omega arith))
    ∙ ap least_of (filter_map-append pending_of (take n ts) (x ∷ []))
    ∙ least_push (filter_map pending_of (take n ts)) (pending_in x.life)
    ∙ ap (λ (o : Option ℕ). lesser_due o (pending_in x.life)) (least_listed ts n (omega arith))

pub returns : goal.returns
unfolding soonest_of
returns c =
    let s = c.args.s in
    let n : length s.timers ≡ cap = search (rules, unmapped) in
    let m =
    min_from_yields_List _ _ c.min.ensures.ran
    (YieldsList-from_filter_map _ pending_of (YieldsList-from_slice s.timers cc) c.filter_map.ensures.closure
    (λ x r q k. (search rules, sym (said_back r) ∙ ap due_of (search rules)))) in
    ap said_earliest (sym (option_map_id c.min.result) ∙ m)
    ∙ ap (λ (ts : List Timer). least_of (filter_map pending_of ts)) (sym (take_all cap s.timers (omega arith)))
    ∙ least_listed s.timers cap (omega arith)
