-- No public function on the set has a second answer.
-- Assumes nothing.
use mathlib.Core.Path.{◌≡◌, refl}
use mathlib.Core.Bool.{Bool}
use mathlib.Core.Option.{Option, none, some}
use Prim.Native.Nat.{ℕ}
use Rattle.std.specs.Prelude as Code
use Rattle.std.specs.Prelude.{Some, None}
use Rattle.heap.specs.declared.Place.{Place}
use Rattle.theory.specs.Promise.{NoSecond, TellsApart}
use Rattle.theory.proofs.Promise.{by_rule, plain_apart, undone_apart}
use Rattle.state.specs.declared.Set.{Set}
use Rattle.state.specs.declared.Handle.{Handle}
use Rattle.state.specs.State.{is_waiting, head_after, fresh_of}
use Rattle.state.specs.Handles.{handle_word, named_by, said_named}
use Rattle.refusals.specs.Faults.{said_verdict}
use Rattle.refusals.proofs.Apart.{verdict_apart}
use Rattle.state.specs.Faults.{fault_of, sound_of}
use Rattle.state.specs.Promises.{Fresh, Faults, IsSound, Words, Names, Waits, Follows}

-- whom a word is said to name tells any two answers apart
pub named_apart : TellsApart said_named
named_apart = undone_apart said_named back told
  where
    back : Option Handle → Code.Option Handle
    back none = None
    back (some h) = Some h

    told : (r : Code.Option Handle) → back (said_named r) ≡ r
    told None = refl
    told (Some h) = refl

pub fresh_no_second : NoSecond (λ (q : Unit {0}) (r : Set). Fresh r)
fresh_no_second = by_rule (λ (r : Set). r) (λ (q : Unit {0}). fresh_of) plain_apart

pub first_fault_no_second : NoSecond Faults
first_fault_no_second = by_rule said_verdict fault_of verdict_apart

pub sound_no_second : NoSecond IsSound
sound_no_second = by_rule (λ (r : Bool). r) sound_of plain_apart

pub handle_word_no_second : NoSecond Words
handle_word_no_second = by_rule (λ (r : ℕ). r) handle_word plain_apart

pub handle_of_no_second : NoSecond Names
handle_of_no_second = by_rule said_named named_by named_apart

pub waits_no_second : NoSecond Waits
waits_no_second = by_rule (λ (r : Bool). r) is_waiting plain_apart

pub after_no_second : NoSecond Follows
after_no_second = by_rule (λ (r : Code.Option Place). r) head_after plain_apart
