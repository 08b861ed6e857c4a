-- The wake that a line tells after an advance or a turn is that of the heap then: of a set that calls lead to from fresh, the
-- question is never refused.
-- Assumes nothing.
use mathlib.Core.Path.{◌≡◌}
use mathlib.Core.List.{List}
use Prim.Native.Nat.{ℕ}
use Rattle.refusals.specs.Answer.{accepted}
use Rattle.heap.specs.Calls.{peek_sound}
use Rattle.state.specs.declared.Set.{Set}
use Rattle.state.specs.Sound.{Sound}
use Rattle.state.proofs.Test.{sound_tells}
use Rattle.timers.proofs.Guarding.{sound_none}
use Rattle.timers.specs.declared.Call.{Call}
use Rattle.timers.specs.Calls.{counts, wake_by, guarded, next_wake_of, step}
use Rattle.laws.specs.Words.{Fit}
use Rattle.laws.proofs.Soundness.StepSound.{step_sound}
use Rattle.records.specs.Answers.{wake_in, wake_after}

-- the next wake of a sound set is its head's deadline, or none, and no refusal
asked : (s : Set) → Sound s → wake_in (next_wake_of s).answer ≡ wake_by (peek_sound s.heap)
unfolding next_wake_of guarded
asked s o = rw (sound_none s (sound_tells s o))

pub wake_told : (s : Set) → Fit s → (c : Call) (l : List ℕ) (n m : ℕ) → (step s c l).answer ≡ accepted (counts n m)
    → wake_after (step s c l).state.set (step s c l).answer ≡ wake_by (peek_sound (step s c l).state.set.heap)
wake_told s f c l n m e = rw e (asked (step s c l).state.set (step_sound s f.sound f.words c l))
