-- How a set of timers is read: its places and its links.
-- Assumes nothing.
use Rattle.std.specs.Prelude.{Bool, true, false, ℕ, get_or, replicate, None, Some}
use Rattle.std.specs.Prelude as Code
use Rattle.std.proofs.Math.Option.{Option, none, some}
use Rattle.heap.specs.Capacity.{cap}
use Rattle.heap.specs.Calls as Heap
use Rattle.heap.specs.declared.Place.{Place}
use Rattle.state.specs.declared.Life.TheVariants.{Free}
use Rattle.state.specs.declared.Waiting.{Waiting}
use Rattle.state.specs.declared.Waiting.TheVariants.{No, Last, Before}
use Rattle.state.specs.declared.Timer.{Timer}
use Rattle.state.specs.declared.Set.{Set}

-- a free place that nobody has used
abbrev pub no_timer : Timer
no_timer = record { life = Free; waiting = No; held = None; uses = 0 }

-- the timer at a place
abbrev pub timer_at : Set → ℕ → Timer
timer_at s p = get_or s.timers p no_timer

abbrev pub is_waiting : Waiting → Bool
is_waiting No = false
is_waiting Last = true
is_waiting (Before q) = true

-- who comes after a waiting timer
abbrev pub next_in : Waiting → Option ℕ
next_in No = none
next_in Last = none
next_in (Before q) = some q.0

-- who is at the head of the list
abbrev pub head_of : Code.Option Place → Option ℕ
head_of None = none
head_of (Some p) = some p.0

-- the head of the list once its first timer is taken off
abbrev pub head_after : Waiting → Code.Option Place
head_after No = None
head_after Last = None
head_after (Before q) = Some q

-- the fresh set: open, every place free with use number 0, the list empty, the heap fresh
abbrev pub fresh_of : Set
fresh_of = record { heap = Heap.fresh_of; timers = replicate cap no_timer; first = None; closed = false }
