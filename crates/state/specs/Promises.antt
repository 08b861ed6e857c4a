-- What each function on the set promises of its answer r.
-- Assumes nothing.
use Rattle.std.specs.Prelude.{◌≡◌, Bool, ℕ, Option, Result, ⊤}
use Rattle.heap.specs.declared.Place.{Place}
use Rattle.state.specs.declared.Waiting.{Waiting}
use Rattle.state.specs.declared.Set.{Set}
use Rattle.state.specs.declared.Handle.{Handle}
use Rattle.refusals.specs.declared.fault.Fault.{Fault}
use Rattle.refusals.specs.Faults.{said_verdict}
use Rattle.state.specs.State.{is_waiting, head_after, fresh_of}
use Rattle.state.specs.Handles.{handle_word, named_by, said_named}
use Rattle.state.specs.Faults.{fault_of, sound_of}

abbrev pub Fresh : Set → Type 0
Fresh r = r ≡ fresh_of

abbrev pub Faults : Set → Result ⊤ Fault → Type 0
Faults s r = said_verdict r ≡ fault_of s

abbrev pub IsSound : Set → Bool → Type 0
IsSound s r = r ≡ sound_of s

abbrev pub Words : Handle → ℕ → Type 0
Words h r = r ≡ handle_word h

abbrev pub Names : ℕ → Option Handle → Type 0
Names w r = said_named r ≡ named_by w

abbrev pub Waits : Waiting → Bool → Type 0
Waits w r = r ≡ is_waiting w

abbrev pub Follows : Waiting → Option Place → Type 0
Follows w r = r ≡ head_after w
