-- The rest of the way up, from the heap whose hole is filled with the carried entry, is always the whole way; at its end nothing is
-- left of it.
-- Assumes nothing.
use mathlib.Core.Path.{◌≡◌, refl, sym, ◌∙◌, ap}
use mathlib.Core.Bool.{false}
use Prim.Native.Nat.{ℕ, ◌+◌, ◌-◌, ◌<◌}
use native.Mathlib.Nat.{sub-zero}
use native.Mathlib.Omega.{arith}
use lib.ListN.{length, length-set}
use borrow.Author.Rules.{rules}
use Rattle.theory.specs.Order.{parent}
use Rattle.theory.proofs.Stores.{unmapped}
use Rattle.heap.specs.Capacity.{cap}
use Rattle.heap.specs.declared.Entry.{Entry}
use Rattle.heap.specs.declared.Heap.{Heap}
use Rattle.heap.specs.Rules.{slot_at, put_at, rises_at, up_from}
use Rattle.heap.proofs.Walking.Laws.{top_stays, up_stop, up_step}
use Rattle.heap.proofs.Walking.Hole.{hole_step, carried_in, other_in, step_in, hole_rises}
use Rattle.heap.proofs.walk.percolate_up.Invariants.{Up}
use Rattle.heap.proofs.walk.percolate_up.Goals as goal
use Rattle.heap.proofs.walk.percolate_up.Goals.{else-loop-at-test, then-loop-at-test+then-not-before}

-- where the hole is is a position of the heap, and one of the array
within : {from : ℕ} {h : Heap} {e : Entry} {g : Heap} {i n : ℕ} → Up from h e g i n → (i < g.len) × (i < length g.entries)
within v = (omega (arith, v.left, v.here, v.as_long), omega (arith, v.left, v.here, v.as_long, v.long, v.room))

-- the slot of the carried entry is in the slab
own_in : {from : ℕ} {h : Heap} {e : Entry} {g : Heap} {i n : ℕ} → Up from h e g i n → e.slot.0 < cap
own_in {e = e} {g = g} {i = i} v = carried_in g i e (within v).1 (within v).0 v.range

-- and that of the parent
parent_in : {from : ℕ} {h : Heap} {e : Entry} {g : Heap} {i n : ℕ} → Up from h e g i n → 0 < i → slot_at g (parent i) < cap
parent_in {e = e} {g = g} {i = i} v p =
    let w = within v in
    other_in g i (parent i) e (λ q. omega (arith, p, q)) (omega (arith, w)) v.range

pub loop-at-init : goal.loop-at-init
unfolding put_at
loop-at-init c = record { range = c.requires.slots_in; long = search (rules, unmapped); room = c.requires.slots_in.len_in; as_long = refl; here = c.requires.from_lt_len; left = search rules; rest = simp sub-zero }

pub bounds-h-above : goal.bounds-h-above
bounds-h-above c = omega (arith, parent_in c.loop-at.invariant c.loop-at-test.true, own_in c.loop-at.invariant)

-- where the loop goes on, the parent gives way into the hole
pub loop-at-preserved : goal.loop-at-preserved
unfolding put_at
loop-at-preserved c =
    let l = c.loop-at in
    let v = l.invariant in
    let b = c.loop-at-test.true in
    let e = c.args.e in
    let p = parent l.at.0 in
    let w = within v in
    let n : p ≡ l.at.0 → ⊥ = λ q. omega (arith, b, q) in
    rw c.full.ensures
    (record {
      range = step_in l.h l.at.0 p e w.1 w.0 (omega (arith, w)) n v.range;
      long = simp length-set v.long;
      room = v.room;
      as_long = v.as_long;
      here = v.here;
      left = omega (arith, v.left, b);
      rest =
          ap (λ (x : Heap). up_from (c.args.from.0 - (l.swaps + 1)) x p (l.swaps + 1)) (sym (hole_step l.h l.at.0 p e w.1 n))
          ∙ sym (up_step _ _ (put_at l.h l.at.0 e) l.at.0 l.swaps (omega (arith, v.left, b))
          (hole_rises l.h l.at.0 e w.1 b ∙ sym c.before-in-loop-at.ensures ∙ c.if-not-before.false))
          ∙ v.rest;
    })

pub bounds-h-e : goal.bounds-h-e
bounds-h-e c = own_in c.loop-at.invariant

-- where the loop ends, at the head or below a parent that is no larger, the carried entry does not rise
stays : (c : goal.After-struct_known-3-1) → rises_at (put_at c.loop-at.h c.loop-at.at.0 c.args.e) c.loop-at.at.0 ≡ false
stays c =
    let l = c.loop-at in
    elim c.loop-at-test.branch [
      | else-loop-at-test w ↦ top_stays _ l.at.0 (omega (arith, w.loop-at-test.false))
      | then-loop-at-test+then-not-before w ↦ hole_rises l.h l.at.0 _ (within l.invariant).1 w.loop-at-test.true ∙ sym w.before-in-loop-at.ensures ∙ w.if-not-before.true
    ]

pub returns : goal.returns
unfolding put_at
returns c =
    let l = c.loop-at in
    rw c.full-2.ensures (sym (up_stop _ (put_at l.h l.at.0 c.args.e) l.at.0 l.swaps (stays c)) ∙ l.invariant.rest)
