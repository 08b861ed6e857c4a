-- What the code's types say of a set, as many places as the capacity and words of 32 bits, is kept by every rule on any set.
-- Assumes nothing.
use mathlib.Core.Path.{◌≡◌, refl, ◌∙◌, ap, subst}
use Prim.Native.Nat.{ℕ, ◌<◌, ◌^◌}
use native.Mathlib.Omega.{arith}
use lib.ListN.{length, set, length-set, length-replicate, get_or-replicate}
use lib.Seq.{set_out}
use Rattle.std.specs.Prelude.{Option}
use Rattle.heap.specs.declared.Place.{Place}
use Rattle.theory.proofs.Stores.{set_all}
use Rattle.theory.proofs.Tests.{by-ref, ref_lt}
use Rattle.heap.specs.Capacity.{cap}
use Rattle.heap.specs.declared.Heap.{Heap}
use Rattle.state.specs.declared.Life.{Life}
use Rattle.state.specs.declared.Life.TheVariants.{Free, Live, Cancelled, Retired}
use Rattle.state.specs.declared.Timer.{Timer}
use Rattle.state.specs.declared.Set.{Set}
use Rattle.state.specs.State.{no_timer, timer_at, is_waiting, head_after, fresh_of}
use Rattle.moves.specs.Rules.{with_first, waiting_by, head_by, touched_of, freed_of, settled_by, settled_of, drained_of}
use Rattle.laws.specs.Words.{Small, Words}
use Rattle.laws.proofs.Parts.Freed.{freed_by}
use Rattle.laws.proofs.Parts.Change.{changed}
use Rattle.laws.proofs.AnyCall.Walks.{drain_walk}

-- a live word that has 32 bits
pub live_small : (w d : ℕ) → w < 2 ^ 32 → Small (Live w d)
live_small w d b = record { bits = λ v c e. let q : w ≡ v = cc in omega arith }

-- a life that is not live
pub other_small : (l : Life) → ((w d : ℕ) → l ≡ Live w d → ◌≡◌ {A = ℕ} 0 1) → Small l
other_small l f = record { bits = λ w d e. absurd (omega (arith, f w d e)) }

-- of the fresh set
pub fresh_words : Words fresh_of
fresh_words = record {
  long = length-replicate cap no_timer;
  small = λ p b. other_small (timer_at fresh_of p).life (λ w d e. cc (ap (λ (t : Timer). t.life) (get_or-replicate cap p no_timer no_timer b), e));
}

-- a change of one place, in range or not, with a word that has 32 bits if the place is in range
pub words_changed : (s : Set) (h : Heap) (p : ℕ) (t : Timer) (f : Option Place) → Words s → (p < cap → Small t.life) → Words (changed s h p t f)
words_changed s h p t f w new = by-ref (ref_lt p (length s.timers)) within out
  where
    within : p < length s.timers → Words (changed s h p t f)
    within b = record {
      long = length-set s.timers p t ∙ w.long;
      small = set_all no_timer s.timers p t b (λ (y : ℕ) (u : Timer). y < cap → Small u.life) new (λ y _. w.small y);
    }

    out : (p < length s.timers → ⊥) → Words (changed s h p t f)
    out n =
        let e : set s.timers p t ≡ s.timers = set_out s.timers p t (omega arith) in
        record { long = rw e w.long; small = rw e w.small }

-- a touch
pub touched_words : (s : Set) (p : ℕ) (l : Life) → Words s → Small l → Words (touched_of s p l)
unfolding touched_of
touched_words s p l w b =
    words_changed s s.heap p (record {
      life = l;
      waiting = waiting_by (is_waiting (timer_at s p).waiting) (timer_at s p) s.first;
      held = (timer_at s p).held;
      uses = (timer_at s p).uses;
    }) (head_by (is_waiting (timer_at s p).waiting) p s.first) w (λ _. b)

freed_small : (u : ℕ) → Small (freed_of u).life
freed_small u = freed_by (λ t. Small t.life) u (other_small Retired (λ w d e. cc)) (other_small Free (λ w d e. cc))

-- a turn of a drain
pub settled_words : (s : Set) (p : ℕ) → Words s → Words (settled_of s p)
unfolding settled_of
settled_words s p w = go (timer_at s p).life refl
  where
    go : (l : Life) → (timer_at s p).life ≡ l → Words (settled_by (with_first s (head_after (timer_at s p).waiting)) p (timer_at s p) l)
    go (Live v d) e =
        words_changed s _ p _ (head_after (timer_at s p).waiting) w (λ b. subst Small e (w.small p b))
    go (Cancelled v) e = words_changed s _ p _ (head_after (timer_at s p).waiting) w (λ b. freed_small (timer_at s p).uses)
    go Free e = words_changed s _ p _ (head_after (timer_at s p).waiting) w (λ b. subst Small e (w.small p b))
    go Retired e = words_changed s _ p _ (head_after (timer_at s p).waiting) w (λ b. subst Small e (w.small p b))

-- a drain
pub drained_words : (s : Set) → Words s → Words (drained_of s)
drained_words = drain_walk Words settled_words
