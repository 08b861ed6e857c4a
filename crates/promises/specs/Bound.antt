-- The calls that show that the premise of demand 3 (specs/Turns.antt) is exact: a timer is added at 10 and drained, and then reset to
-- 20 so many times, with no drain among them.
-- Assumes nothing.
use Rattle.std.specs.Prelude.{List, ◌∷◌, ℕ, replicate}
use Rattle.heap.specs.Capacity.{cap}
use Rattle.state.specs.declared.Handle.{Handle}
use Rattle.timers.specs.declared.Call.{Call}
use Rattle.timers.specs.declared.Call.TheVariants as C
use Rattle.promises.specs.Turns.{Seen, seen, run}
use Rattle.promises.specs.Engine.{ours}

-- the list that is lent for each call: there is room for every report
abbrev pub words : List ℕ
words = replicate cap 0

-- the timer's handle, 0:0
abbrev pub its : Handle
its = record { place = record { 0 = 0 }; uses = 0 }

-- the first call first
abbrev pub resetting : ℕ → List (Call × List ℕ)
resetting n = (C.Add 10, words) ∷ (C.Drain, words) ∷ replicate n (C.Reset its 20, words)

-- what the caller sees of an advance to 10 after them
abbrev pub reporting : ℕ → Seen
reporting n = seen (ours.step (run ours (resetting n)).state (C.Advance 10) words)
