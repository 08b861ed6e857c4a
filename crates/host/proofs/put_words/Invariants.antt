-- Each turn puts one word behind those before it.
-- Assumes nothing.
use Rattle.std.proofs.Common.{◌*◌, take}
use Rattle.digits.specs.Digits.{digits}
use Rattle.digits.specs.Promises.{Puts}
use Rattle.digits.specs.Rows.{blocks}
use Rattle.host.proofs.put_words.Given as goal

-- the words that were passed are put
abbrev pub invariant-loop-word : goal.invariant-loop-word
invariant-loop-word l = Puts (l.word-index * 8) l.initial.out 0 (blocks (digits 8) (take l.word-index l.words)) l.out l.next
