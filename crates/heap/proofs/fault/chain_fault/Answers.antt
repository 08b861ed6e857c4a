-- `fault::chain_fault` is right: it marks each slot that it meets, and as long as every one is empty and not marked the chain goes
-- wrong at no step behind it. There are as many to meet as are empty, since each slot that was made is empty or full; once all were
-- met, whatever comes is full, was not made or was met before.
-- Assumes nothing.
use native.Mathlib.Omega.{arith}
use Rattle.theory.proofs.Counting.{count_le}
use Rattle.heap.specs.Faults.{full_at}
use Rattle.heap.proofs.Testing.ChainLaws.{chain_starts, chain_past, chain_again, chain_full, chain_goes, chain_ends, chain_long}
use Rattle.heap.proofs.fault.chain_fault.Goals as goal
use Rattle.heap.proofs.fault.chain_fault.Goals.{then-h-s-via-then-h-s, then-h-s-via-else-h-s+then-met-s}

pub overflow_sub-empty : goal.overflow_sub-empty
overflow_sub-empty c = omega (arith, count_le (full_at c.args.h) c.args.h.made, c.requires.counted)

pub loop-step-init : goal.loop-step-init
loop-step-init c = chain_starts c.args.h c.requires

pub returns-then-h-s : goal.returns-then-h-s
returns-then-h-s c =
    elim c.then-h-s.branch [
      | then-h-s-via-then-h-s w ↦ chain_past c.args.h c.loop-step.invariant (omega arith) w.if-h-s.true
      | then-h-s-via-else-h-s+then-met-s w ↦ chain_again c.args.h c.loop-step.invariant w.if-h-s.false w.if-met-s.true
    ]

pub returns-in_default : goal.returns-in_default
returns-in_default c = chain_full c.args.h c.loop-step.invariant c.if-h-s.false c.in_default.is

pub loop-step-preserved : goal.loop-step-preserved
loop-step-preserved c =
    chain_goes c.args.h c.loop-step.invariant c.requires (omega arith) c.if-h-s.false c.if-met-s.false c.in-Empty.is

pub returns-then-at-h : goal.returns-then-at-h
returns-then-at-h c = chain_ends c.args.h c.loop-step.invariant (omega arith) c.if-at-h.true

pub returns-else-at-h : goal.returns-else-at-h
returns-else-at-h c = chain_long c.args.h c.loop-step.invariant (omega arith) c.if-at-h.false
