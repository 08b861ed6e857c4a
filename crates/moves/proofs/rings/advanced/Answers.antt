-- What is left of the advance is always the whole of it, and each turn is one pop of the rule. No more timers are reported than
-- entries popped, so the reports fit in the list.
-- Assumes nothing.
use mathlib.Core.Path.{◌≡◌, refl, sym, ap, subst, ◌∙◌}
use mathlib.Core.Bool.{true}
use mathlib.Core.List.{List}
use Prim.Native.Nat.{ℕ, suc, ◌+◌, ◌-◌}
use native.Mathlib.Omega.{arith}
use borrow.Author.Rules.{rules}
use Rattle.theory.proofs.Stores.{unmapped}
use Rattle.refusals.specs.Answer.{Outcome}
use Rattle.heap.specs.declared.Heap.{Heap}
use Rattle.heap.specs.Calls.{Off}
use Rattle.state.specs.declared.Set.{Set}
use Rattle.moves.specs.Rules.{Ring, due_by, rung_of, ring_from, advanced_of}
use Rattle.moves.proofs.RingLaws.{ring_goes, ring_ends, ring_done, rung_told, rung_quiet, rung_out, rung_heap, rung_timers, rung_list, rung_reported, rung_popped}
use Rattle.moves.proofs.rings.advanced.Invariants.{Going}
use Rattle.moves.proofs.rings.advanced.Goals as goal
use Rattle.moves.proofs.rings.advanced.Goals.{then-p-lt-CAP, then-rings, else-rings, else-p-lt-CAP}

-- after a pop it goes on
goes_on : {s : Set} {N : ℕ} {l : List ℕ} {r : Ring} {left k : ℕ} → Going s N l r left → left ≡ suc k → due_by r.set.heap N ≡ true
    → Going s N l (rung_of r) k
goes_on {N = N} {r = r} {k = k} v m d = record {
  heap_sound = rung_heap r v.heap_sound;
  timers_long = rung_timers r ∙ v.timers_long;
  list_long = rung_list r ∙ v.list_long;
  fewer = omega (arith, rung_reported r, rung_popped r, v.fewer);
  counted = omega (arith, rung_popped r, v.counted);
  rest = sym (ring_goes N k r d) ∙ ap (λ n. ring_from n r N) (sym m) ∙ v.rest;
}

-- the ring where a turn begins, and where it ends
abbrev old : goal.Joined-p-lt-CAP → Ring
old c = record {
  set = record { heap = c.loop.h; timers = c.loop.ts; first = c.args.s.first; closed = c.args.s.closed };
  list = c.loop.list;
  reported = c.loop.reported;
  popped = c.loop.popped;
}

abbrev new : goal.Joined-p-lt-CAP → Ring
new c = record {
  set = record { heap = c.pop_sound.result.state; timers = c.if-p-lt-CAP.ts; first = c.args.s.first; closed = c.args.s.closed };
  list = c.if-p-lt-CAP.list;
  reported = c.if-p-lt-CAP.reported;
  popped = c.loop.popped + 1;
}

-- a turn makes of the ring what the rule's pop makes of it: the timer is reported, or not, or there is none
turned : (c : goal.Joined-p-lt-CAP) → new c ≡ rung_of (old c)
turned c =
    let r = old c in
    let h = ap (λ (o : Outcome Heap Off). o.state) c.pop_sound.ensures in
    elim c.if-p-lt-CAP.branch [
      | then-p-lt-CAP w ↦
          elim w.if-rings.branch [
            | then-rings x ↦
                rw (w.list-is, w.ts-is, w.reported-is, w.rung.ensures, x.list-is, x.reported-is, x.handle_word.ensures, h)
                (sym (rung_told r (sym w.rings.ensures ∙ x.if-rings.true)))
            | else-rings x ↦ rw (w.list-is, w.ts-is, w.reported-is, w.rung.ensures, x.list-is, x.reported-is, h) (sym (rung_quiet r (sym w.rings.ensures ∙ x.if-rings.false)))
          ]
      | else-p-lt-CAP w ↦
          rw (w.list-is, w.ts-is, w.reported-is, h) (sym (rung_out r (omega (arith, w.if-p-lt-CAP.false, c.loop.invariant.timers_long))))
    ]

pub loop-init : goal.loop-init
unfolding advanced_of
loop-init c =
    let s = c.args.s in
    let h = c.requires.sound in
    let m : s.heap.len - 0 ≡ s.heap.len = omega arith in
    record {
      heap_sound = h;
      timers_long = search (rules, unmapped);
      list_long = refl;
      fewer = omega arith;
      counted = omega (arith, h.len_in);
      rest = ap (λ n. ring_from n (record { set = s; list = c.args.list.now; reported = 0; popped = 0 }) c.args.reading) m;
    }

pub loop-preserved : goal.loop-preserved
loop-preserved c =
    subst (λ (r : Ring). Going c.args.s c.args.reading c.args.list.now r (c.args.s.heap.len - (c.loop.counter + 1))) (sym (turned c))
    (goes_on c.loop.invariant (omega arith) (sym c.due.ensures ∙ c.if-not-due.false))

pub returns-after-loop : goal.returns-after-loop
returns-after-loop c = sym (ring_done _ _ (omega arith)) ∙ c.loop.invariant.rest

pub returns-then-not-due : goal.returns-then-not-due
returns-then-not-due c = sym (ring_ends _ _ _ (sym c.due.ensures ∙ c.if-not-due.true)) ∙ c.loop.invariant.rest
