-- The worked rows of chains that go wrong hold.
-- Assumes nothing.
use mathlib.Core.Path.{refl}
use Rattle.theory.specs.Counting.{count}
use Rattle.theory.specs.First.{first_bad}
use Rattle.theory.specs.WrongStep.{met_at, met_before, step_ok, wrong_step}
use Rattle.theory.specs.WrongRows.{step, Rows}

-- each by computation
pub rows : Rows
unfolding step wrong_step step_ok met_at met_before first_bad count
rows = record {
  early_loop = refl;
  late_loop = refl;
  own_loop = refl;
  loop_after_head = refl;
  too_short = refl;
  no_head = refl;
  out_of_range = refl;
  not_one_of_them = refl;
  too_long = refl;
  right = refl;
  empty = refl;
}
