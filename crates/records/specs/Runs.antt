-- What the records of a whole run print: each is replayed on the set and the list that the one before it left.
-- Assumes nothing.
use Rattle.std.specs.Prelude.{List, [], ◌∷◌, ◌++◌, ℕ}
use Rattle.timers.specs.Calls.{Lent}
use Rattle.records.specs.Answers.{replay_of}
use Rattle.records.specs.Lines.{line_of}

-- the lines of records, each of 14 bytes, one behind the other
abbrev pub lines_of : List (List ℕ) → Lent → List ℕ
lines_of [] s = []
lines_of (b ∷ bs) s = let a = replay_of s.set b s.list in line_of a.told a.state.list ++ lines_of bs a.state
