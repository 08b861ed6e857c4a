-- At each turn the words to go make of the run what all of them make of the first one.
-- Assumes nothing.
use Rattle.std.proofs.Common.{◌+◌, ◌-◌, length, sym, ap, ◌∙◌, arith}
use Rattle.rounds.specs.declared.Run.{Run}
use Rattle.rounds.specs.Rules.{reset_from}
use Rattle.rounds.proofs.Walks.{reset_goes, reset_done}
use Rattle.rounds.proofs.reset_all.Goals as goal

pub loop-word-preserved : goal.loop-word-preserved
loop-word-preserved c =
    let words = c.args.words.now in
    let l = c.loop-word in
    let left = length words - (l.word-index + 1) in
    ap (λ (r : Run). reset_from left words (l.word-index + 1) r) c.reset_one-run.ensures
    ∙ sym (reset_goes (length words - l.word-index) left words l.word-index l.run (omega arith))
    ∙ l.invariant

pub returns : goal.returns
returns c =
    let words = c.args.words.now in
    let l = c.loop-word in
    sym (reset_done (length words - l.word-index) words l.word-index l.run (omega arith)) ∙ l.invariant
