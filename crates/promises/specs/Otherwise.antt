-- How a useless engine is made from the project's own: which calls it makes otherwise, and in what way.
-- Assumes nothing.
use Rattle.std.specs.Prelude.{Bool, cond, ◌||◌, List, ℕ, eqb, ltb}
use Rattle.refusals.specs.Answer.{Answer, accepted, refused, Outcome, kept, unsound}
use Rattle.interval.specs.Rules.{tick_of}
use Rattle.state.specs.declared.Set.{Set}
use Rattle.state.specs.State.{fresh_of}
use Rattle.timers.specs.declared.Call.{Call}
use Rattle.timers.specs.declared.Call.TheVariants as C
use Rattle.timers.specs.Values.{Value}
use Rattle.timers.specs.Calls.{opened, alive, live_at, ticked_by, with_list}
use Rattle.promises.specs.Turns.{Engine}
use Rattle.promises.specs.Engine.{handed}
use Rattle.promises.specs.Untested.{untested}

-- what a call leaves of a state and the lent list, and answers
abbrev pub Left : Type 0 → Type 0
Left S = Outcome (S × List ℕ) Value

-- WHICH CALL IT IS: by the number of its operation in a record, and 9 and 10 for the two that no record has
abbrev pub operation : Call → ℕ
operation (C.Add d) = 0
operation (C.Reset h d) = 1
operation (C.Cancel h) = 2
operation C.Drain = 3
operation (C.Advance N) = 4
operation (C.Turn N) = 5
operation C.NextWake = 6
operation (C.Poll h) = 7
operation C.Close = 8
operation (C.Tick h p period N) = 9
operation (C.Restart h period N) = 10

-- the calls that some engine makes otherwise
abbrev pub adds : Call → Bool
adds c = eqb (operation c) 0

abbrev pub cancels : Call → Bool
cancels c = eqb (operation c) 2

abbrev pub drains : Call → Bool
drains c = eqb (operation c) 3

abbrev pub turns : Call → Bool
turns c = eqb (operation c) 5

abbrev pub wakes : Call → Bool
wakes c = eqb (operation c) 6

abbrev pub polls : Call → Bool
polls c = eqb (operation c) 7

abbrev pub closes : Call → Bool
closes c = eqb (operation c) 8

abbrev pub ticks : Call → Bool
ticks c = eqb (operation c) 9

-- an advance or a turn
abbrev pub rings : Call → Bool
rings c = eqb (operation c) 4 || turns c

-- a reset, by whatever call, or a cancel
abbrev pub touches : Call → Bool
touches c = eqb (operation c) 1 || (cancels c || ltb 8 (operation c))

-- a way to make a call
abbrev pub Way : Type 0
Way = Set → Call → List ℕ → Left Set

-- OURS, BUT some calls are made otherwise. It is the engine without its test, from fresh the same (proofs/Untested.antt)
abbrev pub but : (Call → Bool) → Way → Engine
but those otherwise = record { State = Set; fresh = fresh_of; step = λ s c l. cond (those c) (otherwise s c l) (untested.step s c l) }

-- refused by this answer, and nothing done
abbrev pub refused_by : Answer Value → Way
refused_by a s c l = kept (s, l) a

-- refused with n, and nothing done
abbrev pub refused_with : ℕ → Way
refused_with n = refused_by (refused n)

-- answered, and not made
abbrev pub unmade : Way
unmade s c l = record { state = (s, l); answer = (untested.step s c l).answer }

-- made, and answered otherwise
abbrev pub answering : (Answer Value → Answer Value) → Way
answering f s c l = let o = untested.step s c l in record { state = o.state; answer = f o.answer }

-- where it is accepted, by v
abbrev pub said : Value → Answer Value → Answer Value
said v (accepted w) = accepted v
said v (refused n) = refused n
said v (unsound f) = unsound f

abbrev pub saying : Value → Way
saying v = answering (said v)

-- made with a part left out: a drain is but answered, a turn makes no drain, a tick does not ask whether the timer has fired
abbrev pub lax : Way
lax s (C.Add d) l = untested.step s (C.Add d) l
lax s (C.Reset h d) l = untested.step s (C.Reset h d) l
lax s (C.Cancel h) l = untested.step s (C.Cancel h) l
lax s C.Drain l = unmade s C.Drain l
lax s (C.Advance N) l = untested.step s (C.Advance N) l
lax s (C.Turn N) l = untested.step s (C.Advance N) l
lax s C.NextWake l = untested.step s C.NextWake l
lax s (C.Poll h) l = untested.step s (C.Poll h) l
lax s C.Close l = untested.step s C.Close l
lax s (C.Tick h p period N) l =
    handed (with_list l (opened s s (alive s (live_at s h) (λ t. ticked_by s h t (tick_of p t.due period N)))))
lax s (C.Restart h period N) l = untested.step s (C.Restart h period N) l

-- WITH A MARK beside the set
abbrev pub marked : Bool → Left Set → Left (Set × Bool)
marked b o = record { state = ((o.state.0, b), o.state.1); answer = o.answer }
