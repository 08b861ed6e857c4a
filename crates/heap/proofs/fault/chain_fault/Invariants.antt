-- `fault::chain_fault` is right: it marks each slot that it meets, and as long as every one is empty and not marked the chain goes
-- wrong at no step behind it. There are as many to meet as are empty, since each slot that was made is empty or full; once all were
-- met, whatever comes is full, was not made or was met before.
-- Assumes nothing.
use Rattle.heap.proofs.Testing.ChainLaws.{OnChain}
use Rattle.heap.proofs.fault.chain_fault.Given as goal

abbrev pub invariant-loop-step : goal.invariant-loop-step
invariant-loop-step l = OnChain l.h l.empty l.step l.at.0 l.met
