-- Row 13 of the bench sheet, from its records' bytes to its lines' bytes, by computation on the rules without the test, which looks at
-- every place.
-- Assumes nothing.
use mathlib.Core.Path.{◌≡◌, refl, sym, ◌∙◌}
use mathlib.Core.List.{List, [], ◌∷◌}
use Prim.Native.Nat.{ℕ}
use lib.ListN.{replicate}
use Rattle.theory.specs.First.{first_bad}
use Rattle.heap.specs.Capacity.{cap}
use Rattle.heap.specs.Rules.{put_at, swap_at, rises_at, up_from, child_of, down_from, taken_of, added_of, pushed_of, vacated_of, filled_of, removed_of}
use Rattle.heap.specs.Calls.{push_sound, remove_sound, pop_sound, peek_sound}
use Rattle.state.specs.State.{fresh_of}
use Rattle.moves.specs.Rules.{touched_of, taken, lowest_free, settled_of, drain_from, due_by, rung_of, ring_from, advanced_of}
use Rattle.timers.specs.Calls.{lent, live_at}
use Rattle.laws.specs.Unguarded.{unguarded}
use Rattle.laws.proofs.Soundness.StepSound.{fresh_fit}
use Rattle.records.specs.Records.{fields_of, provided, call_of, decode_of}
use Rattle.records.specs.Lines.{text, decimal, values_text, answer_text, line_of}
use Rattle.records.specs.Runs.{lines_of}
use Rattle.records.proofs.Untested.{lines_unguarded, lines_same}

-- a record by its first two bytes and its last one; the others are zero
abbrev bytes : ℕ → ℕ → ℕ → List ℕ
bytes a b v = a ∷ b ∷ 0 ∷ 0 ∷ 0 ∷ 0 ∷ 0 ∷ 0 ∷ 0 ∷ 0 ∷ 0 ∷ 0 ∷ 0 ∷ v ∷ []

-- adds at 10, 5 and 10, a turn to 10, a poll, a cancel and a poll of 1:0
abbrev row_thirteen : List (List ℕ)
row_thirteen = bytes 0 0 10 ∷ bytes 0 0 5 ∷ bytes 0 0 10 ∷ bytes 0x50 0 10 ∷ bytes 0x70 1 0 ∷ bytes 0x20 1 0 ∷ bytes 0x70 1 0 ∷ []

pub row_thirteen_lem : lines_of row_thirteen (lent fresh_of (replicate cap 0)) ≡ text "0 0 0 0\n0 0 1 0\n0 0 2 0\n5 0 3 1:0 0:0 2:0 w -\n7 0 1\n2 0\n7 3\n"
unfolding fields_of provided call_of decode_of decimal values_text answer_text line_of unguarded live_at touched_of taken lowest_free settled_of drain_from due_by rung_of ring_from advanced_of push_sound remove_sound pop_sound peek_sound pushed_of removed_of filled_of vacated_of added_of taken_of down_from child_of up_from rises_at swap_at put_at first_bad
row_thirteen_lem =
    let e : lines_unguarded row_thirteen (lent fresh_of (replicate cap 0))
    ≡ text "0 0 0 0\n0 0 1 0\n0 0 2 0\n5 0 3 1:0 0:0 2:0 w -\n7 0 1\n2 0\n7 3\n" = refl in
    sym (lines_same row_thirteen (lent fresh_of (replicate cap 0)) fresh_fit) ∙ e
