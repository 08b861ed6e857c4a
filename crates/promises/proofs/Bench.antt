-- The bench sheet holds: no row of it is wrong, by computation on the rules, calls on a set without the test, which looks at every place.
-- Assumes nothing.
use mathlib.Core.Path.{◌≡◌, refl, sym, ◌∙◌}
use mathlib.Core.List.{[]}
use Rattle.theory.specs.Counting.{count}
use Rattle.theory.specs.WrongStep.{met_at, met_before, step_ok, wrong_step}
use Rattle.theory.specs.First.{first_bad}
use Rattle.heap.specs.Rules.{put_at, swap_at, rises_at, up_from, child_of, down_from, taken_of, added_of, pushed_of, vacated_of, filled_of, removed_of}
use Rattle.heap.specs.Faults.{full_at, empty_at, next_at, count_ok, position_ok, order_ok, count_fault, position_fault, order_fault, chain_fault, fault_of, consistent_of}
use Rattle.heap.specs.Calls.{guard_of, push_sound, remove_sound, pop_sound, peek_sound}
use Rattle.moves.specs.Rules.{touched_of, taken, lowest_free, settled_of, drain_from, due_by, rung_of, ring_from, advanced_of}
use Rattle.timers.specs.Calls.{step, live_at}
use Rattle.laws.specs.Unguarded.{unguarded}
use Rattle.promises.specs.Bench.{rows, wrong}
use Rattle.promises.proofs.Untested.{rows_same}

pub bench_sheet : wrong step rows ≡ []
unfolding unguarded live_at touched_of taken lowest_free settled_of drain_from due_by rung_of ring_from advanced_of guard_of push_sound remove_sound pop_sound peek_sound pushed_of removed_of filled_of vacated_of added_of taken_of down_from child_of up_from rises_at swap_at put_at consistent_of fault_of count_fault position_fault order_fault chain_fault count_ok position_ok order_ok next_at empty_at full_at first_bad wrong_step step_ok met_at met_before count
bench_sheet = let e : wrong unguarded rows ≡ [] = refl in sym (rows_same rows) ∙ e
