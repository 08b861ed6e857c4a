-- Further rows, beside the bench sheet: rules that no row of it asks, and that a run alone, or the comparison with the Rust, would show.
-- Each is worked out from RULES.md by hand. A row is right where the rules compute its answer.
-- Assumes nothing.
use Rattle.std.specs.Prelude.{Bool, cond, ◌&&◌, List, [], ◌∷◌, ◌++◌, ℕ, ◌-◌, eqb, replicate, Some, None}
use Rattle.std.specs.Prelude as Code
use Rattle.heap.specs.declared.Slot.{Slot}
use Rattle.std.proofs.Math.Option.{Option, none, some}
use Rattle.refusals.specs.Faults.{kind_of, where_of}
use Rattle.refusals.specs.Answer.{Answer, accepted, refused, unsound}
use Rattle.heap.specs.Capacity.{cap}
use Rattle.word.specs.Rules.{poll_of}
use Rattle.interval.specs.declared.Policy.TheVariants.{Skip}
use Rattle.interval.specs.Rules.{tick_of}
use Rattle.state.specs.declared.Life.{Life}
use Rattle.state.specs.declared.Life.TheVariants.{Free, Live, Cancelled, Retired}
use Rattle.state.specs.declared.Waiting.{Waiting}
use Rattle.state.specs.declared.Waiting.TheVariants.{No, Last, Before}
use Rattle.state.specs.declared.Timer.{Timer}
use Rattle.state.specs.declared.Set.{Set}
use Rattle.state.specs.declared.Handle.{Handle}
use Rattle.state.specs.State.{fresh_of, timer_at}
use Rattle.state.specs.Handles.{named_by}
use Rattle.timers.specs.declared.Call.{Call}
use Rattle.timers.specs.declared.Call.TheVariants as C
use Rattle.timers.specs.Calls.{Value, nothing, handle, counts, wake, polled, time, lent, step}
use Rattle.promises.specs.Bench.{same_numbers, Way, answered, ◌with_use◌}
use Rattle.promises.specs.States.{Drawn, set_of, numbered, an_open, a_closed, bare, timer, live, from, nobody, no_slot}

-- what a row asks, with the answer that it must get
pub data Corner : Type 0 where
  -- a poll of this word answers this number
  poll : ℕ → ℕ → Corner
  -- a late tick under Skip, of a timer due at T with this period, at the reading N, answers this
  skip : (T period N : ℕ) → Answer ℕ → Corner
  -- these calls on this set, with a long enough list lent, answer this
  calls : Set → List Call → List (Answer Value) → Corner
  -- a drain of this set leaves this at place 0
  drain : Set → Timer → Corner
  -- a word names this handle, or nobody
  names : ℕ → Option Handle → Corner

pub record Row : Type 0 where
  pub number : ℕ
  pub asked : Corner

abbrev pub row : ℕ → Corner → Row
row n c = record { number = n; asked = c }

-- an answer, a place, and whom a word names, as numbers to compare them by
abbrev pub time_code : Answer ℕ → List ℕ
time_code (accepted t) = 0 ∷ t ∷ []
time_code (refused n) = 1 ∷ n ∷ []
time_code (unsound f) = 2 ∷ kind_of f ∷ where_of f ∷ []

abbrev pub life_code : Life → List ℕ
life_code Free = 0 ∷ []
life_code (Live w d) = 1 ∷ w ∷ d ∷ []
life_code (Cancelled w) = 2 ∷ w ∷ []
life_code Retired = 3 ∷ []

abbrev pub waiting_code : Waiting → List ℕ
waiting_code No = 0 ∷ []
waiting_code Last = 1 ∷ []
waiting_code (Before q) = 2 ∷ q.0 ∷ []

abbrev pub held_code : Code.Option Slot → List ℕ
held_code None = 0 ∷ []
held_code (Some q) = 1 ∷ q.0 ∷ []

abbrev pub name_code : Option Handle → List ℕ
name_code none = []
name_code (some h) = h.place.0 ∷ h.uses ∷ []

abbrev pub same_place : Timer → Timer → Bool
same_place t u =
    same_numbers (life_code t.life) (life_code u.life)
    && (same_numbers (waiting_code t.waiting) (waiting_code u.waiting)
    && (same_numbers (held_code t.held) (held_code u.held) && eqb t.uses u.uses))

-- whether a row is right, where calls are made in this way
abbrev pub right_by : Way → Corner → Bool
right_by way (poll w n) = same_numbers (time_code (poll_of w)) (time_code (accepted n))
right_by way (skip T period N a) = same_numbers (time_code (tick_of Skip T period N)) (time_code a)
right_by way (calls s cs answers) = answered way (lent s (replicate cap 0)) cs answers
right_by way (drain s t) = same_place (timer_at (way s C.Drain []).state.set 0) t
right_by way (names w h) = same_numbers (name_code (named_by w)) (name_code h)

-- the numbers of the rows that are wrong then
abbrev pub wrong_by : Way → List Row → List ℕ
wrong_by way [] = []
wrong_by way (r ∷ rs) = cond (right_by way r.asked) (wrong_by way rs) (r.number ∷ wrong_by way rs)

-- and where they are made by the rules
abbrev pub wrong : List Row → List ℕ
wrong = wrong_by step

-- a place with a use number, and nothing else but what it is
abbrev pub place : Life → ℕ → Timer
place l u = record { life = l; waiting = No; held = None; uses = u }

-- a cancelled timer with this use number, which a drain reaches
abbrev pub cancelled_at : ℕ → Timer
cancelled_at u = record { life = Cancelled 0; waiting = Last; held = None; uses = u }

-- it is at place 0: of a set whose other places are free, and of one whose other places are all live
abbrev pub alone : ℕ → Drawn
alone u = an_open bare (cancelled_at u ∷ []) (from 0)

abbrev pub crowded : ℕ → Drawn
crowded u = an_open bare (cancelled_at u ∷ numbered (λ i. live No no_slot) (cap - 1) 1) (from 0)

-- a closed set with a live timer of each of the words 0 to 3
abbrev pub marked : Drawn
marked =
    a_closed bare
    (timer (Live 0 5) No no_slot ∷ timer (Live 1 5) No no_slot ∷ timer (Live 2 5) No no_slot ∷ timer (Live 3 5) No no_slot ∷ [])
    nobody

-- rows 1 and 2: the last use numbers
abbrev pub last_uses : List Row
last_uses =
    -- THE LAST USE NUMBER BUT ONE: the drain frees the place, with the last one. A timer gets it, and then the place is retired
    row 1 (drain (set_of (alone 4294967294)) (place Free 4294967295))
    ∷ row 1
    (calls (set_of (alone 4294967294))
    (C.Drain ∷ C.Add 10 ∷ C.Cancel (0 with_use 4294967295) ∷ C.Drain ∷ C.Add 20 ∷ [])
    (accepted nothing ∷ accepted (handle (0 with_use 4294967295)) ∷ accepted nothing ∷ accepted nothing
    ∷ accepted (handle (1 with_use 0)) ∷ []))
    -- THE LAST USE NUMBER: the drain retires the place, and an add gets another
    ∷ row 2 (drain (set_of (alone 4294967295)) (place Retired 4294967295))
    ∷ row 2
    (calls (set_of (alone 4294967295)) (C.Add 10 ∷ C.Drain ∷ C.Add 20 ∷ [])
    (accepted (handle (1 with_use 0)) ∷ accepted nothing ∷ accepted (handle (2 with_use 0)) ∷ []))
    ∷ []

-- rows 3 and 4: the same where no other place is free
abbrev pub none_free : List Row
none_free =
    -- WITH NO OTHER PLACE FREE: the one that the drain frees is given out, and one that it retires is not
    row 3
    (calls (set_of (crowded 4294967294)) (C.Add 10 ∷ C.Drain ∷ C.Add 10 ∷ C.Add 10 ∷ [])
    (refused 4 ∷ accepted nothing ∷ accepted (handle (0 with_use 4294967295)) ∷ refused 4 ∷ []))
    ∷ row 4
    (calls (set_of (crowded 4294967295)) (C.Add 10 ∷ C.Drain ∷ C.Add 10 ∷ [])
    (refused 4 ∷ accepted nothing ∷ refused 4 ∷ []))
    ∷ []

-- rows 5 to 10
abbrev pub others : List Row
others =
    -- POLL: pending, fired, gone; and with both marks fired
    row 5 (poll 0 0)
    ∷ row 5 (poll 1 1)
    ∷ row 5 (poll 2 2)
    ∷ row 5 (poll 3 1)
    -- the same of timers with these words
    ∷ row 6
    (calls (set_of marked)
    (C.Poll (0 with_use 0) ∷ C.Poll (1 with_use 0) ∷ C.Poll (2 with_use 0) ∷ C.Poll (3 with_use 0) ∷ [])
    (accepted (polled 0) ∷ accepted (polled 1) ∷ accepted (polled 2) ∷ accepted (polled 1) ∷ []))
    -- A LATE SKIP: N + 10 is 2^64-1, and 5 is taken from it. With N one later the sum is 2^64: refused, though 6 less would fit
    ∷ row 7 (skip 0 10 18446744073709551605 (accepted 18446744073709551610))
    ∷ row 7 (skip 0 10 18446744073709551606 (refused 6))
    -- the same by the period: 5,000,001 and the period are 2^64-1, or one more. The remainder is 5,000,001
    ∷ row 8 (skip 0 18446744073704551614 5000001 (accepted 18446744073704551614))
    ∷ row 8 (skip 0 18446744073704551615 5000001 (refused 6))
    -- the same of a timer: after the refusal it has its deadline and its mark still
    ∷ row 9
    (calls fresh_of
    (C.Add 0 ∷ C.Turn 0 ∷ C.Tick (0 with_use 0) Skip 10 18446744073709551606 ∷ C.Poll (0 with_use 0)
    ∷ C.Tick (0 with_use 0) Skip 10 18446744073709551605 ∷ C.Drain ∷ C.NextWake ∷ [])
    (accepted (handle (0 with_use 0)) ∷ accepted (counts 1 1) ∷ refused 6 ∷ accepted (polled 1)
    ∷ accepted (time 0) ∷ accepted nothing ∷ accepted (wake (some 18446744073709551610)) ∷ []))
    -- WHOM A WORD NAMES: 2^32 + 1 names use 1 of place 1. 2^16, with the lowest of the zero bits set, and 2^31, with the highest, name
    -- nobody; with the bits beside them set, the largest place and the next use
    ∷ row 10 (names 4294967297 (some (1 with_use 1)))
    ∷ row 10 (names 65536 none)
    ∷ row 10 (names 2147483648 none)
    ∷ row 10 (names 65535 (some (65535 with_use 0)))
    ∷ row 10 (names 4294967296 (some (0 with_use 1)))
    ∷ []

-- all of them
abbrev pub corners : List Row
corners = last_uses ++ (none_free ++ others)
