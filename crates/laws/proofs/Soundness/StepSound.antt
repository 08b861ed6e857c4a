-- Every call keeps a sound set sound, and the fresh set is sound: so from fresh, refusal 1 never comes.
-- Assumes nothing.
use mathlib.Core.Path.{◌≡◌}
use mathlib.Core.Bool.{true}
use mathlib.Core.List.{List, [], ◌∷◌}
use Prim.Native.Nat.{ℕ}
use Rattle.state.specs.declared.Set.{Set}
use Rattle.state.specs.State.{fresh_of}
use Rattle.state.specs.Faults.{sound_of}
use Rattle.state.specs.Sound.{Sound}
use Rattle.state.proofs.FreshSound.{fresh_sound}
use Rattle.state.proofs.Test.{sound_tells}
use Rattle.timers.specs.declared.Call.{Call}
use Rattle.moves.specs.Rules.{drained_of}
use Rattle.timers.specs.Calls.{step, after}
use Rattle.laws.specs.Words.{Words, Fit}
use Rattle.laws.proofs.PlaceByPlace.Words.{fresh_words}
use Rattle.laws.proofs.Soundness.DrainSound.{drained_sound}
use Rattle.laws.proofs.AnyCall.CallsKeep.{step_keeps_it}
use Rattle.laws.proofs.Soundness.CallsSound.{sound_kept, step_words}
use Rattle.laws.proofs.Soundness.AdvancedSound.{advanced_sound}
use Rattle.laws.proofs.Soundness.ClosedSound.{closed_sound}

-- every call keeps a sound set sound, whether it is accepted or not
pub step_sound : (s : Set) → Sound s → Words s → (c : Call) (l : List ℕ) → Sound (step s c l).state.set
step_sound s o w =
    step_keeps_it Sound s (sound_kept s o)
    (record {
      drains = λ c. drained_sound s o c w;
      advances = λ N l _. advanced_sound s N l o;
      turns = λ N l c. advanced_sound (drained_of s) N l (drained_sound s o c w);
      closes = λ _. closed_sound s o;
    })

-- so a call leads from a set that fits to one that fits
pub step_fit : (s : Set) → Fit s → (c : Call) (l : List ℕ) → Fit (step s c l).state.set
step_fit s f c l = record { sound = step_sound s f.sound f.words c l; words = step_words s f.words c l }

-- after any calls from fresh, each with a lent list of its own, the set is sound
pub after_fit : (cs : List (Call × List ℕ)) (s : Set) → Fit s → Fit (after cs s)
after_fit [] s f = f
after_fit (c ∷ cs) s f =
    after_fit cs (step s c.0 c.1).state.set (step_fit s f c.0 c.1)

pub fresh_fit : Fit fresh_of
fresh_fit = record { sound = fresh_sound; words = fresh_words }

pub fresh_stays_sound : (cs : List (Call × List ℕ)) → Sound (after cs fresh_of)
fresh_stays_sound cs = (after_fit cs fresh_of fresh_fit).sound

-- so the test says yes of it, and refusal 1 never comes
pub never_unsound : (cs : List (Call × List ℕ)) → sound_of (after cs fresh_of) ≡ true
never_unsound cs = sound_tells (after cs fresh_of) (fresh_stays_sound cs)
