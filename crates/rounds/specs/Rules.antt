-- The rules of the rounds: which calls are made, one after the other, and what the checksum takes from their answers. What each
-- call does is in the rules of `timers`.
-- Assumes nothing.
use Rattle.std.specs.Prelude.{ℕ, zero, suc, ◌+◌, ◌%◌, ◌^◌, cond, List, replicate, nat_lt, slice_index}
use Rattle.std.proofs.Math.Option.{Option, none, some}
use Rattle.refusals.specs.Answer.{Answer, accepted, refused, unsound, Outcome}
use Rattle.heap.specs.Capacity.{cap}
use Rattle.state.specs.declared.Set.{Set}
use Rattle.state.specs.declared.Handle.{Handle}
use Rattle.state.specs.State.{fresh_of}
use Rattle.state.specs.Handles.{named_by}
use Rattle.timers.specs.Calls as Calls
use Rattle.timers.specs.Calls.{Value, nothing, handle, counts, wake, polled, time}
use Rattle.rounds.specs.declared.Run.{Run}
use Rattle.rounds.specs.declared.Counts.{Counts}

-- a number of 64 bits
abbrev pub wrap : ℕ → ℕ
wrap n = n % 2 ^ 64

-- the less of a number and the capacity
abbrev pub least_of : ℕ → ℕ
least_of n = cond (nat_lt n cap) n cap

-- the checksum with one more number
abbrev pub mixed_of : ℕ → ℕ → ℕ
mixed_of c n = wrap (wrap (wrap (c + c) + c) + n)

-- the counts of a turn
abbrev pub counts_of : ℕ → ℕ → Counts
counts_of n m = record { reported = n; popped = m }

abbrev pub counts_in : Answer Value → Counts
counts_in (accepted nothing) = counts_of 0 0
counts_in (accepted (handle h)) = counts_of 0 0
counts_in (accepted (counts n m)) = counts_of n m
counts_in (accepted (wake t)) = counts_of 0 0
counts_in (accepted (polled n)) = counts_of 0 0
counts_in (accepted (time t)) = counts_of 0 0
counts_in (refused n) = counts_of 0 0
counts_in (unsound x) = counts_of 0 0

-- so many adds, due at d and after
unfoldable pub add_from : ℕ → ℕ → Set → Set
add_from zero d s = s
add_from (suc k) d s = add_from k (d + 1) (Calls.add_of s d).state

-- the set that the rounds begin with: full, and drained
unfoldable pub start_of : Set
start_of = (Calls.drain_of (add_from cap 1 fresh_of)).state

-- the timer that is named is reset to d; where nobody is named nothing changes
abbrev pub reset_by : Set → Option Handle → ℕ → Set
reset_by s none d = s
reset_by s (some h) d = (Calls.reset_of s h d).state

-- the timer that a word names is reset to the deadline after the last one
unfoldable pub reset_of : Run → ℕ → Run
reset_of r w =
    let d = wrap (r.last + 1) in
    record { set = reset_by r.set (named_by w) d; last = d; sum = mixed_of r.sum w }

-- so many words of a report list, from the j-th on
unfoldable pub reset_from : ℕ → List ℕ → ℕ → Run → Run
reset_from zero l j r = r
reset_from (suc k) l j r = reset_from k l (j + 1) (reset_of r (slice_index l j))

-- a run with the report list
pub record Lent : Type 0 where
  pub run : Run
  pub list : List ℕ

-- what a turn leaves of a run: the counts go into the checksum, and the timers that are reported are reset
abbrev pub turned_by : Run → List ℕ → Set → Counts → Run
turned_by r l s c =
    reset_from (least_of c.reported) l 0
    (record { set = s; last = r.last; sum = mixed_of (mixed_of r.sum c.reported) c.popped })

abbrev pub turned_of : Run → Outcome Calls.Lent Value → Lent
turned_of r o = record { run = turned_by r o.state.list o.state.set (counts_in o.answer); list = o.state.list }

-- a round at a reading
unfoldable pub round_of : Lent → ℕ → Lent
round_of x N = turned_of x.run (Calls.turn_of x.run.set N x.list)

-- so many rounds, each n after the reading N of the one before
unfoldable pub rounds_from : ℕ → ℕ → ℕ → Lent → ℕ
rounds_from zero n N x = x.run.sum
rounds_from (suc k) n N x = rounds_from k n (wrap (N + n)) (round_of x (wrap (N + n)))

-- all of them, from the start
unfoldable pub rounds_of : ℕ → ℕ → ℕ
rounds_of n k = rounds_from k (least_of n) 0 (record { run = record { set = start_of; last = cap; sum = 0 }; list = replicate cap 0 })
