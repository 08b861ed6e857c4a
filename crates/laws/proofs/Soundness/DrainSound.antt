-- A drain keeps an open set sound, and no timer waits after it: each turn takes one timer off the list, and there are no more of
-- them than turns.
-- Assumes nothing.
use mathlib.Core.Path.{◌≡◌, refl, sym, ◌∙◌, ap}
use mathlib.Core.Bool.{false}
use Prim.Native.Nat.{ℕ, zero, suc, ◌<◌, ◌≤◌}
use native.Mathlib.Omega.{arith}
use Rattle.std.specs.Prelude.{Option, Some, None}
use Rattle.heap.specs.declared.Place.{Place}
use Rattle.theory.specs.Counting.{count}
use Rattle.theory.specs.Chain.{chain_okb}
use Rattle.theory.proofs.Tests.{is_false}
use Rattle.theory.proofs.Counting.{count_le, count_zero}
use Rattle.theory.proofs.ChainTest.{ok_none}
use Rattle.heap.specs.Capacity.{cap}
use Rattle.state.specs.declared.Waiting.{Waiting}
use Rattle.state.specs.declared.Waiting.TheVariants.{No, Last, Before}
use Rattle.state.specs.declared.Set.{Set}
use Rattle.state.specs.State.{timer_at, is_waiting, head_of}
use Rattle.state.specs.Faults.{waits_at, after_at}
use Rattle.state.specs.Sound.{Sound}
use Rattle.moves.specs.Rules.{settled_of, list_turn, drain_from, drained_of}
use Rattle.laws.specs.Words.{Words}
use Rattle.laws.proofs.PlaceByPlace.Words.{settled_words}
use Rattle.laws.proofs.Parts.OpenSet.{Open, sound_open, open_sound}
use Rattle.laws.proofs.Parts.ListChange.{waits_in, list_empty}
use Rattle.laws.proofs.Soundness.Settle.{settled_settles}

-- an open set in which no timer waits
pub record Drained (s : Set) : Type 0 where
  pub is_open : Open s
  pub first_none : s.first ≡ None
  pub none_waits : count (waits_at s) cap ≡ 0

-- no timer waits where the list is empty
pub empty_none : (s : Set) → Open s → s.first ≡ None → count (waits_at s) cap ≡ 0
empty_none s o e = ok_none (waits_at s) (after_at s) cap (ap (λ (f : Option Place). chain_okb (waits_at s) (after_at s) cap (head_of f)) (sym e) ∙ o.listed)

-- as many turns as timers wait are enough
drain_drained : (k : ℕ) (s : Set) → Open s → Words s → count (waits_at s) cap ≤ k → Drained (drain_from k s)
unfolding drain_from
drain_drained zero s o w l =
    let e : count (waits_at s) cap ≡ 0 = omega arith in
    record { is_open = o; first_none = list_empty s o.listed e; none_waits = e }
drain_drained (suc k) s o w l = go s.first refl (λ r t v b. drain_drained k r t v b)
  where
    go : (f : Option Place) → s.first ≡ f → ((r : Set) → Open r → Words r → count (waits_at r) cap ≤ k → Drained (drain_from k r))
        → Drained (list_turn s f (λ p. drain_from k (settled_of s p)))
    go None e rest = record { is_open = o; first_none = e; none_waits = empty_none s o e }
    go (Some p) e rest =
        let t = settled_settles s o w p.0 e in
        rest (settled_of s p.0) t.is_open (settled_words s p.0 w) (omega (arith, t.fewer))

no_wait : (w : Waiting) → is_waiting w ≡ false → w ≡ No
no_wait No e = refl
no_wait Last e = cc
no_wait (Before q) e = cc

module _ (s : Set) (sound : Sound s) (c : s.closed ≡ false) (words : Words s) where
  -- what a drain leaves
  drained_drained : Drained (drained_of s)
  drained_drained = drain_drained cap s (sound_open s sound c) words (count_le (waits_at s) cap)

  -- a drain keeps a set that is open sound
  pub drained_sound : Sound (drained_of s)
  drained_sound = open_sound (drained_of s) drained_drained.is_open

  -- the set stays open
  pub drained_open : (drained_of s).closed ≡ false
  drained_open = drained_drained.is_open.not_closed

  -- no timer waits after it
  pub drained_none_waits : (p : ℕ) → p < cap → (timer_at (drained_of s) p).waiting ≡ No
  drained_none_waits p b =
      no_wait (timer_at (drained_of s) p).waiting
      (sym (waits_in (drained_of s) p b)
      ∙ is_false (waits_at (drained_of s) p) (count_zero (waits_at (drained_of s)) cap drained_drained.none_waits p b))
