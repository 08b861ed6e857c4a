-- The sets whose numbers fit the fields of an image. Room that is not in use has no part in it. A sound set fits whose numbers have
-- the widths of the code's types: `Widths` of the crate `state`.
-- Assumes nothing.
use Rattle.std.specs.Prelude.{◌≡◌, ℕ, ◌<◌, length, get_or}
use Rattle.heap.specs.Capacity.{cap}
use Rattle.heap.specs.Rules.{no_entry}
use Rattle.state.specs.State.{no_timer}
use Rattle.state.specs.declared.Set.{Set}
use Rattle.cells.specs.Ranges.{HeaderIn, EntryIn, StateIn, TimerIn}
use Rattle.cells.specs.Cells.{zero_slot}
use Rattle.image.specs.Image.{header_for}

pub record SetIn (s : Set) : Type 0 where
  pub timers_long : length s.timers ≡ cap
  pub header_in_range : HeaderIn (header_for s)
  pub entries_in_range : (j : ℕ) → j < s.heap.len → EntryIn (get_or s.heap.entries j no_entry)
  pub slots_in_range : (j : ℕ) → j < s.heap.made → StateIn (get_or s.heap.slots j zero_slot).state
  pub each_timer_in : (j : ℕ) → j < cap → TimerIn (get_or s.timers j no_timer)
