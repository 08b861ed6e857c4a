-- A turn links the first of the slots that are left, and after the last turn none is.
-- Assumes nothing.
use Rattle.std.proofs.Common.{◌≡◌, ◌∙◌, ℕ, ◌+◌, ◌-◌, sym, ap, arith}
use Rattle.heap.specs.Capacity.{cap}
use Rattle.heap.specs.declared.Heap.{Heap}
use Rattle.heap.specs.Rules.{with_slots}
use Rattle.heap.specs.Calls.{fresh_of}
use Rattle.handmade.specs.Heaps.{empty_of, with_slot, link_from, one_slot_more_of}
use Rattle.handmade.proofs.Walks.{link_goes, link_done}
use Rattle.handmade.proofs.heaps.one_slot_more.Goals as goal

-- the heap that the loop begins with
abbrev first : Heap
first = with_slot fresh_of 0 (empty_of (cap + 1))

pub loop-i-preserved : goal.loop-i-preserved
loop-i-preserved c =
    let l = c.loop-i in
    let i = l.i in
    let fewer : cap - 1 - (i + 1) ≡ cap - 1 - i - 1 = omega arith in
    rw c.empty-in-loop-i.ensures
    (ap (λ (k : ℕ). link_from k (i + 1) (with_slot l.h (i + 1) (empty_of i))) fewer
    ∙ sym (link_goes (cap - 1 - i) i l.h (omega arith))
    ∙ l.invariant)

pub returns : goal.returns
unfolding one_slot_more_of
returns c =
    let l = c.loop-i in
    let whole : l.h ≡ link_from (cap - 1) 0 first = sym (link_done (cap - 1 - l.i) l.i l.h (omega arith)) ∙ l.invariant in
    c.freed.ensures ∙ ap (λ (h : Heap). with_slots h (cap + 1) (record { 0 = cap - 1 })) whole
