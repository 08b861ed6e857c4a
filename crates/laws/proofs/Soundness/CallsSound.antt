-- The changes that an add, a reset and a cancel make keep a set sound; and every call keeps what the code's types say of a set.
-- Assumes nothing.
use mathlib.Core.Path.{◌≡◌, refl}
use mathlib.Core.Bool.{false}
use mathlib.Core.Option.{some}
use mathlib.Core.List.{List}
use Prim.Native.Nat.{ℕ}
use native.Mathlib.Omega.{arith}
use Rattle.word.specs.Rules as Word
use Rattle.state.specs.declared.Life.TheVariants.{Live, Cancelled}
use Rattle.state.specs.declared.Set.{Set}
use Rattle.state.specs.declared.Handle.{Handle}
use Rattle.state.specs.Sound.{Sound}
use Rattle.timers.specs.declared.Call.{Call}
use Rattle.moves.specs.Rules.{touched_of, lowest_free, drained_of}
use Rattle.timers.specs.declared.Timing.{Timing}
use Rattle.timers.specs.Calls.{live_at, reset_to, step}
use Rattle.laws.specs.Words.{Words}
use Rattle.laws.proofs.PlaceByPlace.Words.{live_small, other_small, touched_words, drained_words}
use Rattle.laws.proofs.PlaceByPlace.WordsKept.{advanced_words_kept, closed_words}
use Rattle.laws.proofs.AnyCall.Found.{reset_unmarked, reset_small, lowest_in, live_in}
use Rattle.laws.proofs.Soundness.Touch.{touched_sound}
use Rattle.laws.proofs.AnyCall.CallsKeep.{Kept, Any, step_keeps_it}

module _ (s : Set) (o : Sound s) where
  -- an add, in the lowest free place
  added_sound : (p d : ℕ) → s.closed ≡ false → lowest_free s ≡ some p → Sound (touched_of s p (Live 0 d))
  added_sound p d c e = touched_sound s p (Live 0 d) o c (lowest_in s p e) refl

  -- a reset of a timer that is live
  reset_to_sound : (h : Handle) (t : Timing) (d : ℕ) → s.closed ≡ false → live_at s h ≡ some t → Sound (reset_to s h d t)
  reset_to_sound h t d c e =
      touched_sound s h.place.0 (Live (Word.reset_of t.word) d) o c (live_in s h t e).0 (reset_unmarked t.word)

  -- a cancel of a timer that is live: its word is not marked, since the set is open
  cancelled_sound : (h : Handle) (t : Timing) → s.closed ≡ false → live_at s h ≡ some t → Sound (touched_of s h.place.0 (Cancelled t.word))
  cancelled_sound h t c e =
      let q = live_in s h t e in
      touched_sound s h.place.0 (Cancelled t.word) o c q.0 (o.live_unmarked h.place.0 t.word t.due q.0 c q.1)

  -- the changes of one timer
  pub sound_kept : Kept Any Sound s
  sound_kept = record { now = o; adds = λ p d _. added_sound p d; resets = λ h t d _. reset_to_sound h t d; cancels = cancelled_sound }

-- every call, of any set
pub step_words : (s : Set) → Words s → (c : Call) (l : List ℕ) → Words (step s c l).state.set
step_words s w =
    step_keeps_it Words s
    (record {
      now = w;
      adds = λ p d _ _ _. touched_words s p (Live 0 d) w (live_small 0 d (omega arith));
      resets = λ h t d _ _ _. touched_words s h.place.0 (Live (Word.reset_of t.word) d) w (live_small (Word.reset_of t.word) d (reset_small t.word));
      cancels = λ h t _ _. touched_words s h.place.0 (Cancelled t.word) w (other_small (Cancelled t.word) (λ v d e. cc));
    })
    (record {
      drains = λ _. drained_words s w;
      advances = λ N l _. advanced_words_kept s N l w;
      turns = λ N l _. advanced_words_kept (drained_of s) N l (drained_words s w);
      closes = λ _. closed_words s w;
    })
