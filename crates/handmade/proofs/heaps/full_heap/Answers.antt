-- A turn fills the first of the positions that are left, and after the last turn none is.
-- Assumes nothing.
use Rattle.std.proofs.Common.{◌≡◌, ◌∙◌, ℕ, ◌+◌, ◌-◌, sym, ap, arith}
use Rattle.heap.specs.Capacity.{cap}
use Rattle.heap.specs.declared.Heap.{Heap}
use Rattle.heap.specs.Rules.{put_at, with_len, with_slots}
use Rattle.heap.specs.Calls.{fresh_of}
use Rattle.handmade.specs.Heaps.{entry_of, fill_from, full_heap_of}
use Rattle.handmade.proofs.Walks.{fill_goes, fill_done}
use Rattle.handmade.proofs.heaps.full_heap.Goals as goal

pub loop-i-preserved : goal.loop-i-preserved
unfolding put_at
loop-i-preserved c =
    let l = c.loop-i in
    let i = l.i in
    let fewer : cap - (i + 1) ≡ cap - i - 1 = omega arith in
    rw (c.full.ensures, c.entry.ensures)
    (ap (λ (k : ℕ). fill_from k (i + 1) (put_at l.h i (entry_of 5 i i))) fewer
    ∙ sym (fill_goes (cap - i) i l.h (omega arith))
    ∙ l.invariant)

pub returns : goal.returns
unfolding full_heap_of
returns c =
    let l = c.loop-i in
    let whole : l.h ≡ fill_from cap 0 fresh_of = sym (fill_done (cap - l.i) l.i l.h (omega arith)) ∙ l.invariant in
    c.freed.ensures ∙ ap (λ (h : Heap). with_slots (with_len h cap) cap (record { 0 = cap })) whole
