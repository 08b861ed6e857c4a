-- Useless engines, each the project's own but for one thing, which the line above it says. None of them meets the statement of demand 3
-- (proofs/Useless.antt, proofs/Overfull.antt).
-- Assumes nothing.
use Rattle.std.specs.Prelude.{Bool, true, false, cond, ◌||◌, List, [], ℕ, eqb, set, length, replicate}
use Rattle.std.proofs.Math.Option.{none, some}
use Rattle.refusals.specs.declared.fault.Fault.TheVariants.{Place}
use Rattle.refusals.specs.Answer.{Answer, accepted, refused, unsound, is_accepted}
use Rattle.heap.specs.Capacity.{cap}
use Rattle.state.specs.declared.Set.{Set}
use Rattle.state.specs.State.{fresh_of}
use Rattle.state.specs.Handles.{handle_word}
use Rattle.timers.specs.declared.Call.{Call}
use Rattle.timers.specs.declared.Call.TheVariants as C
use Rattle.timers.specs.Values.{Value, nothing, handle, counts, wake, polled}
use Rattle.promises.specs.Bench.{◌with_use◌}
use Rattle.promises.specs.Turns.{Engine}
use Rattle.promises.specs.Untested.{untested}
use Rattle.promises.specs.Otherwise.{Left, adds, cancels, drains, turns, rings, wakes, polls, closes, ticks, touches, but, refused_by, refused_with, answering, unmade, saying, lax, marked}

-- REFUSING: every call is refused with 2
abbrev pub refusing : Engine
refusing = but (λ c. true) (refused_with 2)

-- COMPLAINING: every call is refused with 1, for a fault of place 0
abbrev pub complaining : Engine
complaining = but (λ c. true) (refused_by (unsound (Place 0)))

-- FULL: every add is refused with 4
abbrev pub full : Engine
full = but adds (refused_with 4)

-- DEAF: every reset, cancel, tick and interval reset is refused with 3, so no cancel is taken and each timeout goes off
abbrev pub deaf : Engine
deaf = but touches (refused_with 3)

-- CLOGGED: every drain is refused with 2
abbrev pub clogged : Engine
clogged = but drains (refused_with 2)

-- UNCLOSED: every close is refused with 2
abbrev pub unclosed : Engine
unclosed = but closes (refused_with 2)

-- NAMELESS: an add answers no handle
abbrev pub nameless : Engine
nameless = but adds (saying nothing)

-- REPEATING: every add answers 0:0, which may be live
abbrev pub repeating : Engine
repeating = but adds (saying (handle (0 with_use 0)))

-- OVERFULL: an add is never refused: where it would be, it answers the place after the last
abbrev pub one_place_more : Answer Value → Answer Value
one_place_more (accepted v) = accepted v
one_place_more (refused n) = accepted (handle (cap with_use 0))
one_place_more (unsound x) = accepted (handle (cap with_use 0))

abbrev pub overfull : Engine
overfull = but adds (answering one_place_more)

-- REOPENED: an add after a close is taken, by a fresh set
abbrev pub reopened : Engine
reopened = but adds (λ s c l. untested.step (cond s.closed fresh_of s) c l)

-- FREEING: an accepted cancel drains, so its place is free at once
abbrev pub drained_too : Left Set → Left Set
drained_too o = record {
  state = cond (is_accepted o.answer) (untested.step o.state.0 C.Drain o.state.1).state o.state;
  answer = o.answer;
}

abbrev pub freeing : Engine
freeing = but cancels (λ s c l. drained_too (untested.step s c l))

-- PENDING: a poll of a live timer answers pending, whatever has happened
abbrev pub pending : Engine
pending = but polls (saying (polled 0))

-- EAGER: a tick is taken of a timer that has not fired
abbrev pub eager : Engine
eager = but ticks lax

-- IDLE: a drain does nothing; a turn is as it should be
abbrev pub idle : Engine
idle = but drains lax

-- UNDRAINED: a drain does nothing, and a turn is but an advance
abbrev pub undrained : Engine
undrained = but (λ c. drains c || turns c) lax

-- ROOMLESS: a turn with a list of no words is taken, as one with room
abbrev pub roomless : Engine
roomless = but turns (λ s c l. untested.step s c (cond (eqb (length l) 0) (replicate cap 0) l))

-- MUTE: every advance and turn answers that nothing was reported
abbrev pub mute : Engine
mute = but rings (saying (counts 0 0))

-- STUCK: every advance and turn reports one timer, always 0:0
abbrev pub first_only : Left Set → Left Set
first_only o = record {
  state = (o.state.0, cond (is_accepted o.answer) (set o.state.1 0 (handle_word (0 with_use 0))) o.state.1);
  answer = o.answer;
}

abbrev pub stuck : Engine
stuck = but rings (λ s c l. first_only (saying (counts 1 1) s c l))

-- HEEDLESS: a reset, a cancel, a tick or an interval reset is answered as it should be, and not made
abbrev pub heedless : Engine
heedless = but touches unmade

-- ASLEEP: next wake answers none, whatever is owed
abbrev pub asleep : Engine
asleep = but wakes (saying (wake none))

-- DOZING: next wake answers none but directly after a turn. The mark says whether the last call was one
abbrev pub dozing : Engine
dozing = record {
  State = Set × Bool;
  fresh = (fresh_of, false);
  step = λ s c l. marked (turns c) (cond s.1 (untested.step s.0 c l) (asleep.step s.0 c l));
}

-- RESTLESS: next wake answers 0 but directly after a turn, though nothing may be owed then. The mark says whether the last call was one
abbrev pub restless : Engine
restless = record {
  State = Set × Bool;
  fresh = (fresh_of, false);
  step = λ s c l. marked (turns c) (cond s.1 (untested.step s.0 c l) ((but wakes (saying (wake (some 0)))).step s.0 c l));
}

-- SCRIBBLING: a turn that is refused empties the lent list
abbrev pub emptied : Left Set → Left Set
emptied o = record { state = (o.state.0, cond (is_accepted o.answer) o.state.1 []); answer = o.answer }

abbrev pub scribbling : Engine
scribbling = but turns (λ s c l. emptied (untested.step s c l))

-- HASTY: the first accepted turn reports all owed timers, as one at the last reading there is does; later ones report none. The mark
-- says whether there was one
abbrev pub all_at_once : Bool → Set → Call → List ℕ → Left (Set × Bool)
all_at_once false s c l = let o = untested.step s (C.Turn 18446744073709551615) l in marked (is_accepted o.answer) o
all_at_once true s c l = marked true (mute.step s c l)

abbrev pub hasty : Engine
hasty = record {
  State = Set × Bool;
  fresh = (fresh_of, false);
  step = λ s c l. cond (turns c) (all_at_once s.1 s.0 c l) (marked s.1 (untested.step s.0 c l));
}
