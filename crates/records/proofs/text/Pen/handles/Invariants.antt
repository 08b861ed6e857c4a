-- Each turn puts the handle of the next word behind those before it.
-- Assumes nothing.
use Rattle.std.proofs.Common.{◌*◌, take}
use Rattle.records.specs.Lines.{handle_room, handles_text}
use Rattle.records.specs.Puts.{Puts}
use Rattle.records.proofs.text.Pen.handles.Given as goal

-- the handles of the words that were passed are put
abbrev pub invariant-loop-word : goal.invariant-loop-word
invariant-loop-word l = Puts (l.word-index * handle_room) l.initial.self (handles_text (take l.word-index l.words)) l.self
