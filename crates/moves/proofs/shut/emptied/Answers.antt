-- What is left of the emptying is always the whole of it, and each turn is one pop of the rule.
-- Assumes nothing.
use mathlib.Core.Path.{◌≡◌, sym, ap, subst, ◌∙◌}
use Prim.Native.Nat.{ℕ, suc, ◌+◌, ◌-◌}
use native.Mathlib.Omega.{arith}
use Rattle.refusals.specs.Answer.{Outcome}
use Rattle.heap.specs.declared.Heap.{Heap}
use Rattle.heap.specs.Calls.{Off}
use Rattle.state.specs.declared.Set.{Set}
use Rattle.moves.specs.Rules.{popped_of, empty_from}
use Rattle.moves.proofs.CloseLaws.{empty_goes, empty_done, popped_out, popped_heap, popped_timers}
use Rattle.moves.proofs.shut.emptied.Invariants.{Emptying}
use Rattle.moves.proofs.shut.emptied.Goals as goal
use Rattle.moves.proofs.shut.emptied.Goals.{then-p-lt-CAP, else-p-lt-CAP}

-- after a pop it goes on
goes_on : {s g : Set} {left k : ℕ} → Emptying s g left → left ≡ suc k → Emptying s (popped_of g) k
goes_on {g = g} {k = k} v m = record {
  heap_sound = popped_heap g v.heap_sound;
  timers_long = popped_timers g ∙ v.timers_long;
  rest = sym (empty_goes k g) ∙ ap (λ n. empty_from n g) (sym m) ∙ v.rest;
}

-- a turn makes of the set what the rule's pop makes of it: the timer is marked, or there is none
turned : (c : goal.Joined-p-lt-CAP) → c.if-p-lt-CAP.s ≡ popped_of c.loop.s
unfolding popped_of
turned c =
    let h = ap (λ (o : Outcome Heap Off). o.state) c.pop_sound.ensures in
    elim c.if-p-lt-CAP.branch [
      | then-p-lt-CAP w ↦ rw (w.s-is, w.marked.ensures, h)
      | else-p-lt-CAP w ↦ rw (w.s-is, h) (sym (popped_out _ (omega (arith, w.if-p-lt-CAP.false, c.loop.invariant.timers_long))))
    ]

pub loop-preserved : goal.loop-preserved
loop-preserved c =
    subst (λ (g : Set). Emptying c.args.s g (c.args.s.heap.len - (c.loop.counter + 1))) (sym (turned c))
    (goes_on c.loop.invariant (omega arith))

pub returns : goal.returns
returns c = sym (empty_done _ (omega arith)) ∙ c.loop.invariant.rest
