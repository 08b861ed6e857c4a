-- Worked traces: what calls on the fresh engine must answer and report, and what the ledger must have then. Each is worked out from the
-- rules by hand; specs/Tracing.antt says how one is read. The last line of a trace: whether it is closed, the least deadline owed, and
-- the next wake.
-- Assumes nothing.
use Rattle.std.specs.Prelude.{◌-◌, true, false, List, [], ◌∷◌}
use Rattle.std.proofs.Math.Option.{none, some}
use Rattle.refusals.specs.Answer.{accepted, refused}
use Rattle.heap.specs.Capacity.{cap}
use Rattle.interval.specs.declared.Policy.TheVariants.{Burst, Delay, Skip}
use Rattle.timers.specs.declared.Call.TheVariants as C
use Rattle.timers.specs.Values.{nothing, handle, counts, wake, polled, time}
use Rattle.promises.specs.Bench.{ms, ◌with_use◌}
use Rattle.promises.specs.Tracing.{Trace, trace, ◌answers◌, ◌reporting◌, ◌lending◌, is_owed, not_owed}

-- BENCH ROW 11: the entry of the old deadline is popped and not reported, and the timer stays owed, by its new deadline
abbrev pub stale_popped : Trace
stale_popped =
    trace 1
    (C.Add 10 answers accepted (handle (0 with_use 0))
    ∷ C.Drain answers accepted nothing
    ∷ C.Reset (0 with_use 0) 20 answers accepted nothing
    ∷ C.Advance 10 answers accepted (counts 0 1)
    ∷ C.Drain answers accepted nothing
    ∷ [])
    (is_owed (0 with_use 0) (record { live = true; due = 20; reported = false; drained = true; resets = 0; leaving = false }) ∷ [])
    false (some 20) (some 20)

-- BENCH ROW 13: three are reported, the earliest first; one of them is cancelled
abbrev pub bench_thirteen : Trace
bench_thirteen =
    trace 2
    (C.Add 10 answers accepted (handle (0 with_use 0))
    ∷ C.Add 5 answers accepted (handle (1 with_use 0))
    ∷ C.Add 10 answers accepted (handle (2 with_use 0))
    ∷ C.Turn 10 answers accepted (counts 3 3) reporting (1 with_use 0 ∷ 0 with_use 0 ∷ 2 with_use 0 ∷ [])
    ∷ C.NextWake answers accepted (wake none)
    ∷ C.Poll (1 with_use 0) answers accepted (polled 1)
    ∷ C.Cancel (1 with_use 0) answers accepted nothing
    ∷ C.Poll (1 with_use 0) answers refused 3
    ∷ [])
    (not_owed (0 with_use 0) (record { live = true; due = 10; reported = true; drained = true; resets = 0; leaving = false })
    ∷ not_owed (1 with_use 0) (record { live = false; due = 5; reported = true; drained = true; resets = 0; leaving = true })
    ∷ not_owed (2 with_use 0) (record { live = true; due = 10; reported = true; drained = true; resets = 0; leaving = false })
    ∷ [])
    false none none

-- A STALE ENTRY IS REPLACED AT A TURN: its drain removes the entry of the old deadline, so that none is popped
abbrev pub stale_replaced : Trace
stale_replaced =
    trace 3
    (C.Add 10 answers accepted (handle (0 with_use 0))
    ∷ C.Drain answers accepted nothing
    ∷ C.Reset (0 with_use 0) 20 answers accepted nothing
    ∷ C.Turn 10 answers accepted (counts 0 0)
    ∷ C.NextWake answers accepted (wake (some 20))
    ∷ C.Turn 20 answers accepted (counts 1 1) reporting (0 with_use 0 ∷ [])
    ∷ [])
    (not_owed (0 with_use 0) (record { live = true; due = 20; reported = true; drained = true; resets = 0; leaving = false }) ∷ [])
    false none none

-- A CANCEL BETWEEN A DRAIN AND AN ADVANCE: both entries are popped, and the cancelled timer is not reported
abbrev pub cancelled_between : Trace
cancelled_between =
    trace 4
    (C.Add 10 answers accepted (handle (0 with_use 0))
    ∷ C.Add 20 answers accepted (handle (1 with_use 0))
    ∷ C.Drain answers accepted nothing
    ∷ C.Cancel (0 with_use 0) answers accepted nothing
    ∷ C.Advance 20 answers accepted (counts 1 2) reporting (1 with_use 0 ∷ [])
    ∷ [])
    (not_owed (0 with_use 0) (record { live = false; due = 10; reported = false; drained = true; resets = 0; leaving = true })
    ∷ not_owed (1 with_use 0) (record { live = true; due = 20; reported = true; drained = true; resets = 0; leaving = false })
    ∷ [])
    false none none

-- A RESET OF A FIRED TIMER: it is pending and owed again. Not yet drained, it has no entry, and there is no wake
abbrev pub owed_again : Trace
owed_again =
    trace 5
    (C.Add 10 answers accepted (handle (0 with_use 0))
    ∷ C.Turn 10 answers accepted (counts 1 1) reporting (0 with_use 0 ∷ [])
    ∷ C.Poll (0 with_use 0) answers accepted (polled 1)
    ∷ C.Reset (0 with_use 0) 30 answers accepted nothing
    ∷ C.Poll (0 with_use 0) answers accepted (polled 0)
    ∷ [])
    (is_owed (0 with_use 0) (record { live = true; due = 30; reported = false; drained = false; resets = 1; leaving = false }) ∷ [])
    false (some 30) none

-- THE SAME, and turns: it is reported a second time, at its new deadline and not before
abbrev pub reported_again : Trace
reported_again =
    trace 6
    (C.Add 10 answers accepted (handle (0 with_use 0))
    ∷ C.Turn 10 answers accepted (counts 1 1) reporting (0 with_use 0 ∷ [])
    ∷ C.Reset (0 with_use 0) 30 answers accepted nothing
    ∷ C.Turn 29 answers accepted (counts 0 0)
    ∷ C.NextWake answers accepted (wake (some 30))
    ∷ C.Turn 30 answers accepted (counts 1 1) reporting (0 with_use 0 ∷ [])
    ∷ C.Turn 30 answers accepted (counts 0 0)
    ∷ [])
    (not_owed (0 with_use 0) (record { live = true; due = 30; reported = true; drained = true; resets = 0; leaving = false }) ∷ [])
    false none none

-- A TIE: of two equal deadlines both are reported. The heap gives the order: the drain is last in, first out, so 1:0 was pushed first
abbrev pub tie : Trace
tie =
    trace 7
    (C.Add 7 answers accepted (handle (0 with_use 0))
    ∷ C.Add 7 answers accepted (handle (1 with_use 0))
    ∷ C.Add 9 answers accepted (handle (2 with_use 0))
    ∷ C.Turn 8 answers accepted (counts 2 2) reporting (1 with_use 0 ∷ 0 with_use 0 ∷ [])
    ∷ [])
    (not_owed (0 with_use 0) (record { live = true; due = 7; reported = true; drained = true; resets = 0; leaving = false })
    ∷ not_owed (1 with_use 0) (record { live = true; due = 7; reported = true; drained = true; resets = 0; leaving = false })
    ∷ is_owed (2 with_use 0) (record { live = true; due = 9; reported = false; drained = true; resets = 0; leaving = false })
    ∷ [])
    false (some 9) (some 9)

-- THREE ALIKE: 2:0 was pushed first; when it is popped 0:0, which came last, moves into the hole and stays there
abbrev pub tie_of_three : Trace
tie_of_three =
    trace 8
    (C.Add 7 answers accepted (handle (0 with_use 0))
    ∷ C.Add 7 answers accepted (handle (1 with_use 0))
    ∷ C.Add 7 answers accepted (handle (2 with_use 0))
    ∷ C.Turn 7 answers accepted (counts 3 3) reporting (2 with_use 0 ∷ 0 with_use 0 ∷ 1 with_use 0 ∷ [])
    ∷ [])
    (not_owed (0 with_use 0) (record { live = true; due = 7; reported = true; drained = true; resets = 0; leaving = false })
    ∷ not_owed (1 with_use 0) (record { live = true; due = 7; reported = true; drained = true; resets = 0; leaving = false })
    ∷ not_owed (2 with_use 0) (record { live = true; due = 7; reported = true; drained = true; resets = 0; leaving = false })
    ∷ [])
    false none none

-- A READING THAT GOES BACK: it reports nothing twice, takes no report back, and a timer added then is reported by it
abbrev pub reading_back : Trace
reading_back =
    trace 9
    (C.Add 10 answers accepted (handle (0 with_use 0))
    ∷ C.Add 20 answers accepted (handle (1 with_use 0))
    ∷ C.Turn 15 answers accepted (counts 1 1) reporting (0 with_use 0 ∷ [])
    ∷ C.Turn 12 answers accepted (counts 0 0)
    ∷ C.Add 5 answers accepted (handle (2 with_use 0))
    ∷ C.Turn 4 answers accepted (counts 0 0)
    ∷ C.Turn 5 answers accepted (counts 1 1) reporting (2 with_use 0 ∷ [])
    ∷ [])
    (not_owed (0 with_use 0) (record { live = true; due = 10; reported = true; drained = true; resets = 0; leaving = false })
    ∷ is_owed (1 with_use 0) (record { live = true; due = 20; reported = false; drained = true; resets = 0; leaving = false })
    ∷ not_owed (2 with_use 0) (record { live = true; due = 5; reported = true; drained = true; resets = 0; leaving = false })
    ∷ [])
    false (some 20) (some 20)

-- A PLACE USED AGAIN: not before the drain. Then the old handle is dead, and the new one, with use number 1, is reported
abbrev pub place_reused : Trace
place_reused =
    trace 10
    (C.Add 10 answers accepted (handle (0 with_use 0))
    ∷ C.Cancel (0 with_use 0) answers accepted nothing
    ∷ C.Add 15 answers accepted (handle (1 with_use 0))
    ∷ C.Drain answers accepted nothing
    ∷ C.Add 20 answers accepted (handle (0 with_use 1))
    ∷ C.Poll (0 with_use 0) answers refused 3
    ∷ C.Poll (0 with_use 1) answers accepted (polled 0)
    ∷ C.Turn 20 answers accepted (counts 2 2) reporting (1 with_use 0 ∷ 0 with_use 1 ∷ [])
    ∷ [])
    (not_owed (0 with_use 0) (record { live = false; due = 10; reported = false; drained = true; resets = 0; leaving = false })
    ∷ not_owed (1 with_use 0) (record { live = true; due = 15; reported = true; drained = true; resets = 0; leaving = false })
    ∷ not_owed (0 with_use 1) (record { live = true; due = 20; reported = true; drained = true; resets = 0; leaving = false })
    ∷ [])
    false none none

-- AN ADVANCE WITHOUT A DRAIN: what was added since the last drain is due, and is not reported; it stays owed
abbrev pub add_undrained : Trace
add_undrained =
    trace 11
    (C.Add 10 answers accepted (handle (0 with_use 0))
    ∷ C.Drain answers accepted nothing
    ∷ C.Add 5 answers accepted (handle (1 with_use 0))
    ∷ C.Advance 10 answers accepted (counts 1 1) reporting (0 with_use 0 ∷ [])
    ∷ [])
    (not_owed (0 with_use 0) (record { live = true; due = 10; reported = true; drained = true; resets = 0; leaving = false })
    ∷ is_owed (1 with_use 0) (record { live = true; due = 5; reported = false; drained = false; resets = 0; leaving = false })
    ∷ [])
    false (some 5) none

-- A RESET NOT DRAINED: an advance does not see the earlier deadline, and the wake is the old one. The turn reports it
abbrev pub reset_undrained : Trace
reset_undrained =
    trace 12
    (C.Add 10 answers accepted (handle (0 with_use 0))
    ∷ C.Drain answers accepted nothing
    ∷ C.Reset (0 with_use 0) 5 answers accepted nothing
    ∷ C.Advance 7 answers accepted (counts 0 0)
    ∷ C.NextWake answers accepted (wake (some 10))
    ∷ C.Turn 7 answers accepted (counts 1 1) reporting (0 with_use 0 ∷ [])
    ∷ [])
    (not_owed (0 with_use 0) (record { live = true; due = 5; reported = true; drained = true; resets = 0; leaving = false }) ∷ [])
    false none none

-- A LATE TICK UNDER DELAY: refused with 10 until the timer has fired; then it answers 1,000 ms and resets to 1,250 + 100 ms
abbrev pub tick_delay : Trace
tick_delay =
    trace 13
    (C.Add (ms 1000) answers accepted (handle (0 with_use 0))
    ∷ C.Tick (0 with_use 0) Delay (ms 100) (ms 1250) answers refused 10
    ∷ C.Turn (ms 1000) answers accepted (counts 1 1) reporting (0 with_use 0 ∷ [])
    ∷ C.Tick (0 with_use 0) Delay (ms 100) (ms 1250) answers accepted (time (ms 1000))
    ∷ C.Turn (ms 1349) answers accepted (counts 0 0)
    ∷ [])
    (is_owed (0 with_use 0) (record { live = true; due = ms 1350; reported = false; drained = true; resets = 0; leaving = false }) ∷ [])
    false (some (ms 1350)) (some (ms 1350))

-- LATE TICKS UNDER BURST: each resets to one period after the deadline it answers, which is due at once and reported again
abbrev pub tick_burst : Trace
tick_burst =
    trace 14
    (C.Add (ms 1000) answers accepted (handle (0 with_use 0))
    ∷ C.Turn (ms 1250) answers accepted (counts 1 1) reporting (0 with_use 0 ∷ [])
    ∷ C.Tick (0 with_use 0) Burst (ms 100) (ms 1250) answers accepted (time (ms 1000))
    ∷ C.Turn (ms 1250) answers accepted (counts 1 1) reporting (0 with_use 0 ∷ [])
    ∷ C.Tick (0 with_use 0) Burst (ms 100) (ms 1250) answers accepted (time (ms 1100))
    ∷ [])
    (is_owed (0 with_use 0) (record { live = true; due = ms 1200; reported = false; drained = false; resets = 1; leaving = false }) ∷ [])
    false (some (ms 1200)) none

-- TICKS UNDER SKIP: 5 ms past the deadline is not late, so one period more; then 1,250 ms is, and the next is 1,300 ms
abbrev pub tick_skip : Trace
tick_skip =
    trace 15
    (C.Add (ms 900) answers accepted (handle (0 with_use 0))
    ∷ C.Turn (ms 905) answers accepted (counts 1 1) reporting (0 with_use 0 ∷ [])
    ∷ C.Tick (0 with_use 0) Skip (ms 100) (ms 905) answers accepted (time (ms 900))
    ∷ C.Turn (ms 1000) answers accepted (counts 1 1) reporting (0 with_use 0 ∷ [])
    ∷ C.Tick (0 with_use 0) Skip (ms 100) (ms 1250) answers accepted (time (ms 1000))
    ∷ C.Drain answers accepted nothing
    ∷ [])
    (is_owed (0 with_use 0) (record { live = true; due = ms 1300; reported = false; drained = true; resets = 0; leaving = false }) ∷ [])
    false (some (ms 1300)) (some (ms 1300))

-- INTERVAL RESETS: to the reading and the period, of a pending timer and of a fired one. A sum above 2^64-1 is refused with 6
abbrev pub restarted : Trace
restarted =
    trace 16
    (C.Add 10 answers accepted (handle (0 with_use 0))
    ∷ C.Restart (0 with_use 0) 7 20 answers accepted nothing
    ∷ C.Turn 26 answers accepted (counts 0 0)
    ∷ C.Turn 27 answers accepted (counts 1 1) reporting (0 with_use 0 ∷ [])
    ∷ C.Restart (0 with_use 0) 7 28 answers accepted nothing
    ∷ C.Restart (0 with_use 0) 1 18446744073709551615 answers refused 6
    ∷ [])
    (is_owed (0 with_use 0) (record { live = true; due = 35; reported = false; drained = false; resets = 1; leaving = false }) ∷ [])
    false (some 35) none

-- RESETS ARE COUNTED, those of a tick and of an interval reset too, each of its own timer, since the last drain
abbrev pub resets_counted : Trace
resets_counted =
    trace 17
    (C.Add 10 answers accepted (handle (0 with_use 0))
    ∷ C.Add 40 answers accepted (handle (1 with_use 0))
    ∷ C.Reset (0 with_use 0) 20 answers accepted nothing
    ∷ C.Turn 20 answers accepted (counts 1 1) reporting (0 with_use 0 ∷ [])
    ∷ C.Tick (0 with_use 0) Burst 10 20 answers accepted (time 20)
    ∷ C.Reset (0 with_use 0) 50 answers accepted nothing
    ∷ C.Restart (0 with_use 0) 5 60 answers accepted nothing
    ∷ C.Reset (1 with_use 0) 45 answers accepted nothing
    ∷ [])
    (is_owed (0 with_use 0) (record { live = true; due = 65; reported = false; drained = false; resets = 3; leaving = false })
    ∷ is_owed (1 with_use 0) (record { live = true; due = 45; reported = false; drained = false; resets = 1; leaving = false })
    ∷ [])
    false (some 45) (some 40)

-- REFUSALS CHANGE NOTHING: a list too short by one, none at all, and handles of no place, no timer or another use
abbrev pub refusals_between : Trace
refusals_between =
    trace 18
    (C.Add 10 answers accepted (handle (0 with_use 0))
    ∷ C.Turn 10 answers refused 5 lending (cap - 1)
    ∷ C.Advance 10 answers refused 5 lending 0
    ∷ C.Reset (1 with_use 0) 5 answers refused 3
    ∷ C.Cancel (0 with_use 1) answers refused 3
    ∷ C.Poll (cap with_use 0) answers refused 3
    ∷ C.Restart (1 with_use 0) 5 5 answers refused 3
    ∷ C.Tick (0 with_use 1) Burst 5 5 answers refused 3
    ∷ [])
    (is_owed (0 with_use 0) (record { live = true; due = 10; reported = false; drained = false; resets = 0; leaving = false })
    ∷ not_owed (1 with_use 0) (record { live = false; due = 0; reported = false; drained = false; resets = 0; leaving = false })
    ∷ not_owed (0 with_use 1) (record { live = false; due = 0; reported = false; drained = false; resets = 0; leaving = false })
    ∷ [])
    false (some 10) none

-- AFTER A REFUSED TURN the same turn with room reports what was owed
abbrev pub refused_then_turn : Trace
refused_then_turn =
    trace 19
    (C.Add 10 answers accepted (handle (0 with_use 0))
    ∷ C.Turn 10 answers refused 5 lending (cap - 1)
    ∷ C.Turn 10 answers accepted (counts 1 1) reporting (0 with_use 0 ∷ [])
    ∷ [])
    (not_owed (0 with_use 0) (record { live = true; due = 10; reported = true; drained = true; resets = 0; leaving = false }) ∷ [])
    false none none

-- DEADLINES AND READINGS at both ends of the range
abbrev pub ends_of_time : Trace
ends_of_time =
    trace 20
    (C.Add 18446744073709551615 answers accepted (handle (0 with_use 0))
    ∷ C.Add 0 answers accepted (handle (1 with_use 0))
    ∷ C.Turn 0 answers accepted (counts 1 1) reporting (1 with_use 0 ∷ [])
    ∷ C.Turn 18446744073709551614 answers accepted (counts 0 0)
    ∷ C.NextWake answers accepted (wake (some 18446744073709551615))
    ∷ C.Turn 18446744073709551615 answers accepted (counts 1 1) reporting (0 with_use 0 ∷ [])
    ∷ [])
    (not_owed (0 with_use 0) (record { live = true; due = 18446744073709551615; reported = true; drained = true; resets = 0; leaving = false })
    ∷ not_owed (1 with_use 0) (record { live = true; due = 0; reported = true; drained = true; resets = 0; leaving = false })
    ∷ [])
    false none none

-- A CLOSE: the ledger is closed. What was owed stays so in it, and nothing more is reported: refused with 2, room or none.
-- The fired timer polls fired; those of the heap and of the list are gone
abbrev pub shut : Trace
shut =
    trace 21
    (C.Add 10 answers accepted (handle (0 with_use 0))
    ∷ C.Add 20 answers accepted (handle (1 with_use 0))
    ∷ C.Turn 10 answers accepted (counts 1 1) reporting (0 with_use 0 ∷ [])
    ∷ C.Add 30 answers accepted (handle (2 with_use 0))
    ∷ C.Close answers accepted nothing
    ∷ C.Turn 20 answers refused 2
    ∷ C.Advance 20 answers refused 2 lending 0
    ∷ C.Add 5 answers refused 2
    ∷ C.Poll (0 with_use 0) answers accepted (polled 1)
    ∷ C.Poll (1 with_use 0) answers accepted (polled 2)
    ∷ C.Poll (2 with_use 0) answers accepted (polled 2)
    ∷ [])
    (not_owed (0 with_use 0) (record { live = true; due = 10; reported = true; drained = true; resets = 0; leaving = false })
    ∷ is_owed (1 with_use 0) (record { live = true; due = 20; reported = false; drained = true; resets = 0; leaving = false })
    ∷ is_owed (2 with_use 0) (record { live = true; due = 30; reported = false; drained = false; resets = 0; leaving = false })
    ∷ [])
    true (some 20) none

abbrev pub traces : List Trace
traces =
    stale_popped
    ∷ bench_thirteen
    ∷ stale_replaced
    ∷ cancelled_between
    ∷ owed_again
    ∷ reported_again
    ∷ tie
    ∷ tie_of_three
    ∷ reading_back
    ∷ place_reused
    ∷ add_undrained
    ∷ reset_undrained
    ∷ tick_delay
    ∷ tick_burst
    ∷ tick_skip
    ∷ restarted
    ∷ resets_counted
    ∷ refusals_between
    ∷ refused_then_turn
    ∷ ends_of_time
    ∷ shut
    ∷ []
