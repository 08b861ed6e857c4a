-- The rest of the way down, from the heap whose hole is filled with the carried entry, is always the whole way; at its end nothing is
-- left of it.
-- Assumes nothing.
use mathlib.Core.Path.{◌≡◌, refl, sym, ◌∙◌, ap, subst}
use mathlib.Core.Bool.{Bool, true, false, cond}
use Prim.Native.Nat.{ℕ, ◌+◌, ◌-◌, ◌*◌, ◌<◌, ◌≤◌}
use mir.Val.{bool_byte}
use native.Mathlib.Nat.{sub-zero}
use native.Mathlib.Omega.{arith}
use lib.ListN.{length, length-set}
use borrow.Author.Rules.{rules}
use borrow.Author.Tests.{le-ltb}
use Rattle.theory.proofs.Stores.{unmapped}
use Rattle.heap.specs.Capacity.{cap}
use Rattle.heap.specs.declared.Entry.{Entry}
use Rattle.heap.specs.declared.Heap.{Heap}
use Rattle.heap.specs.Rules.{entry_at, slot_at, before, put_at, swap_at, child_of, down_from}
use Rattle.heap.proofs.Walking.Laws.{down_stop, down_step}
use Rattle.heap.proofs.Walking.Hole.{hole_step, carried_in, other_in, step_in, Lesser, only, left, right, in_heap, hole_leaf, hole_child}
use Rattle.heap.proofs.walk.percolate_down.Invariants.{Down}
use Rattle.heap.proofs.walk.percolate_down.Goals as goal
use Rattle.heap.proofs.walk.percolate_down.Goals.{then-len-l, else-len-l+then-not-before, then-l-len, else-l-len}

-- where the hole is is a position of the heap, and one of the array
within : {from : ℕ} {h : Heap} {e : Entry} {g : Heap} {i n : ℕ} → Down from h e g i n → (i < g.len) × (i < length g.entries) × (i < cap)
within v = (omega (arith, v.here, v.as_long), omega (arith, v.here, v.as_long, v.long, v.room), omega (arith, v.here, v.as_long, v.room))

-- the slot of the carried entry is in the slab
own_in : {from : ℕ} {h : Heap} {e : Entry} {g : Heap} {i n : ℕ} → Down from h e g i n → e.slot.0 < cap
own_in {e = e} {g = g} {i = i} v = carried_in g i e (within v).1 (within v).0 v.range

-- the number by which the child is picked is that of the lesser child: of the right one or the left one, or of the only one
of_two : {from : ℕ} {h : Heap} {e : Entry} {g : Heap} {i n : ℕ} → Down from h e g i n → {y : Bool} {k : ℕ} → 2 * i + 1 + 1 < h.len
    → before (entry_at g (2 * i + 1 + 1)) (entry_at g (2 * i + 1)) ≡ y → k ≡ bool_byte y → Lesser g i k
of_two {g = g} {i = i} v {y = true} a b e = subst (Lesser g i) (sym e) (right (omega (arith, a, v.as_long)) b)
of_two {g = g} {i = i} v {y = false} a b e = subst (Lesser g i) (sym e) (left (omega (arith, a, v.as_long)) b)

alone : {from : ℕ} {h : Heap} {e : Entry} {g : Heap} {i n : ℕ} → Down from h e g i n → {k : ℕ} → h.len ≤ 2 * i + 1 + 1 → k ≡ 0 → Lesser g i k
alone {g = g} {i = i} v a e = subst (Lesser g i) (sym e) (only (omega (arith, a, v.as_long)))

lesser : (c : goal.After-struct_known-in-loop-at-3-1) → Lesser c.loop-at.h c.loop-at.at.0 c.from.result
lesser c =
    let v = c.loop-at.invariant in
    elim c.if-l-len.branch [
      | then-l-len w ↦ of_two v w.if-l-len.true (sym w.before-right.ensures ∙ sym w.right-is) c.from.ensures
      | else-l-len w ↦ alone v w.if-l-len.false (c.from.ensures ∙ ap bool_byte (w.right-is ∙ le-ltb _ _ w.if-l-len.false))
    ]

-- the child stands below the hole, and in the heap
lower : {from : ℕ} {h : Heap} {e : Entry} {g : Heap} {i n : ℕ} → Down from h e g i n → {k : ℕ} → Lesser g i k → 2 * i + 1 < h.len → 2 * i + 1 + k < g.len
lower v s b = in_heap s (omega (arith, b, v.as_long))

-- and its slot is in the slab
child_in : {from : ℕ} {h : Heap} {e : Entry} {g : Heap} {i n : ℕ} → Down from h e g i n → {k : ℕ} → Lesser g i k → 2 * i + 1 < h.len → slot_at g (2 * i + 1 + k) < cap
child_in {e = e} {g = g} {i = i} v {k = k} s b = other_in g i (2 * i + 1 + k) e (λ q. omega (arith, q)) (lower v s b) v.range

-- where the rule goes, by whether the child is smaller than the carried entry
goes : {from : ℕ} {h : Heap} {e : Entry} {g : Heap} {i n : ℕ} → Down from h e g i n → {k : ℕ} → Lesser g i k → 2 * i + 1 < h.len → {y : Bool}
    → before (entry_at g (2 * i + 1 + k)) e ≡ y → child_of (put_at g i e) i ≡ cond y (2 * i + 1 + k) i
goes {e = e} {g = g} {i = i} v {k = k} s b q =
    hole_child g i k e (within v).1 (omega (arith, b, v.as_long)) s ∙ ap (λ (y : Bool). cond y (2 * i + 1 + k) i) q

pub loop-at-init : goal.loop-at-init
unfolding put_at
loop-at-init c =
    record {
      range = c.requires.slots_in;
      long = search (rules, unmapped);
      room = c.requires.slots_in.len_in;
      as_long = refl;
      here = c.requires.from_lt_len;
      passed = search rules;
      rest = simp sub-zero;
    }

pub bounds-h-below : goal.bounds-h-below
bounds-h-below c = child_in c.loop-at.invariant (lesser c) c.if-len-l.false

-- where the loop goes on, the child gives way into the hole
pub loop-at-preserved : goal.loop-at-preserved
unfolding put_at
loop-at-preserved c =
    let l = c.loop-at in
    let v = l.invariant in
    let h = c.args.h in
    let e = c.args.e in
    let w = within v in
    let j = 2 * l.at.0 + 1 + c.from.result in
    let b = lower v (lesser c) c.if-len-l.false in
    let g : child_of (put_at l.h l.at.0 e) l.at.0 ≡ j = goes v (lesser c) c.if-len-l.false (sym c.before-in-loop-at.ensures ∙ c.if-not-before.false) in
    let n : j ≡ l.at.0 → ⊥ = λ q. omega (arith, q) in
    rw c.full.ensures
    (record {
      range = step_in l.h l.at.0 j e w.1 w.0 b n v.range;
      long = simp length-set v.long;
      room = v.room;
      as_long = v.as_long;
      here = omega (arith, b, v.as_long);
      passed = omega (arith, v.passed);
      rest =
          ap (λ (x : Heap). down_from (h.len - (l.swaps + 1)) x j (l.swaps + 1)) (sym (hole_step l.h l.at.0 j e w.1 n))
          ∙ sym
          (subst
          (λ (x : ℕ). down_from (h.len - l.swaps) (put_at l.h l.at.0 e) l.at.0 l.swaps ≡ down_from (h.len - (l.swaps + 1)) (swap_at (put_at l.h l.at.0 e) l.at.0 x) x (l.swaps + 1))
          g
          (down_step _ _ (put_at l.h l.at.0 e) l.at.0 l.swaps (omega (arith, v.passed, v.here)) (λ q. omega (arith, g, q))))
          ∙ v.rest;
    })

-- where the loop ends, the entry is to stand at the hole, and the rule stays there too: there is no child, or the lesser one is no
-- smaller
ends : (c : goal.After-struct_known-3-1) → (c.if-len-l.last ≡ c.loop-at.at) × (child_of (put_at c.loop-at.h c.loop-at.at.0 c.args.e) c.loop-at.at.0 ≡ c.loop-at.at.0)
ends c =
    let l = c.loop-at in
    let v = l.invariant in
    elim c.if-len-l.branch [
      | then-len-l w ↦ (w.last-is, hole_leaf l.h l.at.0 _ (omega (arith, w.if-len-l.true, v.as_long)))
      | else-len-l+then-not-before w ↦
          let b = sym w.before-in-loop-at.ensures ∙ w.if-not-before.true in (
            w.last-is,
            elim w.if-l-len.branch [
              | then-l-len w' ↦ goes v (of_two v w'.if-l-len.true (sym w'.before-right.ensures ∙ sym w'.right-is) w.from.ensures) w.if-len-l.false b
              | else-l-len w' ↦ goes v (alone v w'.if-l-len.false (w.from.ensures ∙ ap bool_byte (w'.right-is ∙ le-ltb _ _ w'.if-l-len.false))) w.if-len-l.false b
            ],
          )
    ]

pub bounds-h-e : goal.bounds-h-e
bounds-h-e c = own_in c.loop-at.invariant

pub returns : goal.returns
unfolding put_at
returns c =
    let l = c.loop-at in
    rw (c.full-2.ensures, (ends c).0)
    (sym (down_stop _ (put_at l.h l.at.0 c.args.e) l.at.0 l.swaps (ends c).1) ∙ l.invariant.rest)
