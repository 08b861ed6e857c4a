-- What is left of the list is always the whole of it, and each turn takes one timer off by the rule. A place out of range ends it.
-- Assumes nothing.
use mathlib.Core.Path.{◌≡◌, sym, ap, subst, ◌∙◌}
use Prim.Native.Nat.{ℕ, suc, ◌+◌, ◌-◌, ◌≤◌}
use native.Mathlib.Omega.{arith}
use lib.ListN.{set, length-set}
use Rattle.std.specs.Prelude.{Option, Some, None}
use Rattle.heap.specs.Capacity.{cap}
use Rattle.heap.specs.declared.Place.{Place}
use Rattle.state.specs.declared.Waiting.TheVariants.{No}
use Rattle.state.specs.declared.Life.{Life}
use Rattle.state.specs.declared.Set.{Set}
use Rattle.state.specs.State.{timer_at, head_after}
use Rattle.moves.specs.Rules.{with_first, marked_life, unlisted_of, unlist_from}
use Rattle.moves.proofs.CloseLaws.{unlist_goes, unlist_ends, unlist_done, unlist_out}
use Rattle.moves.proofs.shut.unlisted.Invariants.{Unlisting}
use Rattle.moves.proofs.shut.unlisted.Goals as goal

-- after a timer it goes on
goes_on : {s g : Set} {left k : ℕ} {p : Place} → Unlisting s g left → left ≡ suc k → g.first ≡ Some p → Unlisting s (unlisted_of g p.0) k
unfolding unlisted_of
goes_on {g = g} {k = k} {p = p} v m e = record {
  timers_long = simp length-set v.timers_long;
  rest = sym (unlist_goes k g p e) ∙ ap (λ n. unlist_from n g) (sym m) ∙ v.rest;
}

-- at a place out of range it ends
ends : {s g : Set} {left k : ℕ} {p : Place} → Unlisting s g left → left ≡ suc k → g.first ≡ Some p → cap ≤ p.0
    → with_first g None ≡ unlist_from cap s
ends {g = g} {k = k} {p = p} v m e b =
    sym (unlist_out k g p e (omega (arith, v.timers_long))) ∙ ap (λ n. unlist_from n g) (sym m) ∙ v.rest

-- a turn makes of the set what the rule makes of it
turned : (g : Set) (p : ℕ) {f : Option Place} {l : Life} → f ≡ head_after (timer_at g p).waiting → l ≡ marked_life (timer_at g p).life
    → record {
      heap = g.heap;
      timers = set g.timers p (record { life = l; waiting = No; held = None; uses = (timer_at g p).uses });
      first = f;
      closed = g.closed;
    }
    ≡ unlisted_of g p
unfolding unlisted_of
turned g p f l = rw (f, l)

pub loop-preserved : goal.loop-preserved
loop-preserved c =
    subst (λ (g : Set). Unlisting c.args.s g (cap - (c.loop.counter + 1))) (sym (turned c.loop.s c.in-Some.place.0 c.after-s.ensures c.marked.ensures))
    (goes_on c.loop.invariant (omega arith) c.in-Some.is)

pub returns-after-loop : goal.returns-after-loop
returns-after-loop c = sym (unlist_done _ (omega arith)) ∙ c.loop.invariant.rest

pub returns-in_default : goal.returns-in_default
returns-in_default c = sym (unlist_ends _ _ c.in_default.is) ∙ c.loop.invariant.rest

pub returns-then-p-ge-CAP : goal.returns-then-p-ge-CAP
returns-then-p-ge-CAP c = ends {k = cap - (c.loop.counter + 1)} c.loop.invariant (omega arith) c.in-Some.is c.if-p-ge-CAP.true
