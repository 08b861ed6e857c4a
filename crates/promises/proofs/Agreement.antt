-- The worked traces hold: none of them is wrong, by computation on the rules and on the ledger. They are computed on the engine
-- without its test of soundness, which looks at every place; on the engine itself the same traces are wrong.
-- Assumes nothing.
use mathlib.Core.Path.{◌≡◌, refl, sym, ◌∙◌}
use mathlib.Core.List.{[], filter_map}
use native.Mathlib.Decide.{ℕ_discrete}
use Rattle.theory.specs.First.{first_bad}
use Rattle.theory.specs.Update.{upd}
use Rattle.theory.specs.Occurs as Occurs
use Rattle.heap.specs.Rules.{put_at, swap_at, rises_at, up_from, child_of, down_from, taken_of, added_of, pushed_of, vacated_of, filled_of, removed_of}
use Rattle.heap.specs.Calls.{push_sound, remove_sound, pop_sound, peek_sound}
use Rattle.state.specs.Handles.{handle_discrete}
use Rattle.moves.specs.Rules.{touched_of, taken, lowest_free, settled_of, drain_from, due_by, rung_of, ring_from, advanced_of, unlisted_of, unlist_from, popped_of, empty_from, closed_of}
use Rattle.timers.specs.Calls.{live_at}
use Rattle.promises.specs.Turns.{note, next, from}
use Rattle.promises.specs.Engine.{ours}
use Rattle.laws.specs.Unguarded.{unguarded}
use Rattle.promises.specs.Untested.{untested}
use Rattle.promises.specs.Tracing.{wrong}
use Rattle.promises.specs.Traces.{traces}
use Rattle.promises.proofs.Untested.{traces_same}

pub traces_right : wrong ours traces ≡ []
unfolding note next from upd ℕ_discrete handle_discrete filter_map Occurs.has unguarded live_at touched_of taken lowest_free settled_of drain_from due_by rung_of ring_from advanced_of unlist_from unlisted_of popped_of empty_from closed_of push_sound remove_sound pop_sound peek_sound pushed_of removed_of filled_of vacated_of added_of taken_of down_from child_of up_from rises_at swap_at put_at first_bad
traces_right = let e : wrong untested traces ≡ [] = refl in sym (traces_same traces) ∙ e
