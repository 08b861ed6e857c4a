-- At each turn the words to go make of the run what all of them make of the first one.
-- Assumes nothing.
use Rattle.std.proofs.Common.{◌≡◌, ◌-◌, length}
use Rattle.rounds.specs.Rules.{reset_from}
use Rattle.rounds.proofs.reset_all.Given as goal

abbrev pub invariant-loop-word : goal.invariant-loop-word
invariant-loop-word l =
    reset_from (length l.words - l.word-index) l.words l.word-index l.run ≡ reset_from (length l.words) l.words 0 l.initial.run
