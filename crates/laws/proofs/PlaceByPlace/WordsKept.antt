-- An advance and a close keep what the code's types say of a set: the marks that they make are bits of the word's 32.
-- Assumes nothing.
use mathlib.Core.Path.{refl}
use mathlib.Core.Bool.{Bool, true, false, cond}
use mathlib.Core.List.{List}
use Prim.Native.Nat.{ℕ, ◌<◌, ◌^◌}
use native.Mathlib.Omega.{arith}
use Rattle.heap.specs.Rules.{entry_at}
use Rattle.heap.specs.Calls.{pop_sound}
use Rattle.word.specs.Rules.{fired_of, matches_in}
use Rattle.state.specs.declared.Life.{Life}
use Rattle.state.specs.declared.Life.TheVariants.{Free, Live, Cancelled, Retired}
use Rattle.state.specs.declared.Set.{Set}
use Rattle.state.specs.State.{timer_at, head_after}
use Rattle.moves.specs.Rules.{Ring, rung_word, rung_life, rung_of, advanced_of, marked_life, unlisted_of, popped_of, closed_of}
use Rattle.laws.specs.Words.{Small, Words}
use Rattle.laws.proofs.PlaceByPlace.Words.{live_small, other_small, words_changed}
use Rattle.laws.proofs.AnyCall.Walks.{advance_walk, close_walk}

-- a firing sets a bit of the 32
rung_small : (g : ℕ) (l : Life) → Small l → Small (rung_life g l)
rung_small g Free b = b
rung_small g Retired b = b
rung_small g (Cancelled v) b = other_small (Cancelled (rung_word v g)) (λ w d e. cc)
rung_small g (Live v d) b = live_small (rung_word v g) d (go (matches_in v g) (b.bits v d refl))
  where
    go : (t : Bool) → v < 2 ^ 32 → cond t (fired_of v) v < 2 ^ 32
    go true c = omega arith
    go false c = c

-- so does the invalid mark
marked_small : (l : Life) → Small l → Small (marked_life l)
marked_small Free b = b
marked_small Retired b = b
marked_small (Cancelled v) b = other_small (marked_life (Cancelled v)) (λ w d e. cc)
marked_small (Live v d) b = let c : v < 2 ^ 32 = b.bits v d refl in live_small _ d (omega arith)

rung_words : (r : Ring) → Words r.set → Words (rung_of r).set
unfolding rung_of
rung_words r w =
    words_changed r.set _ (entry_at r.set.heap 0).place.0 _ r.set.first w
    (λ b. rung_small (entry_at r.set.heap 0).generation _ (w.small (entry_at r.set.heap 0).place.0 b))

-- an advance
pub advanced_words_kept : (s : Set) (N : ℕ) (l : List ℕ) → Words s → Words (advanced_of s N l).set
advanced_words_kept = advance_walk Words rung_words

unlisted_words : (s : Set) (p : ℕ) → Words s → Words (unlisted_of s p)
unfolding unlisted_of
unlisted_words s p w = words_changed s s.heap p _ (head_after (timer_at s p).waiting) w (λ b. marked_small (timer_at s p).life (w.small p b))

popped_words : (s : Set) → Words s → Words (popped_of s)
unfolding popped_of
popped_words s w =
    words_changed s (pop_sound s.heap).state (entry_at s.heap 0).place.0 _ s.first w
    (λ b. marked_small _ (w.small (entry_at s.heap 0).place.0 b))

-- a close
pub closed_words : (s : Set) → Words s → Words (closed_of s)
closed_words = close_walk Words unlisted_words popped_words (λ s w. record { long = w.long; small = w.small })
