-- What a drain does to the entries of the live timers: one that waited has an entry with its deadline and its generation, and one
-- that did not wait keeps the entry that it had.
-- Assumes nothing.
use mathlib.Core.Path.{◌≡◌, refl, sym, ◌∙◌, ap, subst}
use mathlib.Core.Bool.{true, false}
use mathlib.Core.Option.{Option}
use Prim.Native.Nat.{ℕ, zero, suc, ◌<◌, ◌≤◌}
use native.Mathlib.Omega.{arith}
use Rattle.std.specs.Prelude as Code
use Rattle.std.specs.Prelude.{Some, None}
use Rattle.heap.specs.declared.Place.{Place}
use Rattle.theory.specs.Counting.{count}
use Rattle.theory.proofs.Tests.{by-ref, ref_eq, true_false}
use Rattle.theory.proofs.Counting.{count_le, count_zero}
use Rattle.heap.specs.Capacity.{cap}
use Rattle.heap.specs.declared.Entry.{Entry}
use Rattle.word.specs.Rules.{generation_of}
use Rattle.state.specs.declared.Life.TheVariants.{Live}
use Rattle.state.specs.declared.Timer.{Timer}
use Rattle.state.specs.declared.Set.{Set}
use Rattle.state.specs.State.{timer_at, is_waiting}
use Rattle.state.specs.Faults.{waits_at}
use Rattle.state.specs.Sound.{Sound}
use Rattle.moves.specs.Rules.{settled_of, list_turn, drain_from, drained_of}
use Rattle.laws.specs.Words.{Words}
use Rattle.laws.specs.EntryOf.{entry_of, waiting, Armed}
use Rattle.laws.proofs.PlaceByPlace.Words.{settled_words}
use Rattle.laws.proofs.Parts.OpenSet.{Open, sound_open}
use Rattle.laws.proofs.Parts.ListChange.{waits_in}
use Rattle.laws.proofs.Soundness.Settle.{first_in, first_waiting, settled_settles}
use Rattle.laws.proofs.Soundness.DrainSound.{empty_none}
use Rattle.laws.proofs.Entries.EntryOfSettle.{settled_other, settled_live, settled_still, settled_entry_other, settled_armed}

-- what the entry of x is in r, where in s the timer at x is live with the word w and the deadline d
record EntryAfter (s r : Set) (x w d : ℕ) : Type 0 where
  -- it waited: the entry has its deadline and its generation
  armed : waiting s x ≡ true → Armed (entry_of r x) d (generation_of w)
  -- it did not wait: the entry is the one that it had
  stays : waiting s x ≡ false → entry_of r x ≡ entry_of s x

-- where no timer waits there is nothing to do
none_drains : (s : Set) → count (waits_at s) cap ≡ 0 → (x w d : ℕ) → x < cap → EntryAfter s s x w d
none_drains s e x w d b = record { armed = λ t. absurd (count_zero (waits_at s) cap e x b (waits_in s x b ∙ t)); stays = λ _. refl }

-- a turn with the timer at p, and then turns that end in r
module _ (s : Set) (o : Open s) (words : Words s) (p : ℕ) (at : s.first ≡ Some (record { 0 = p })) (r : Set)
    (rest : (x w d : ℕ) → x < cap → (timer_at (settled_of s p) x).life ≡ Live w d → EntryAfter (settled_of s p) r x w d)
  where
    -- the timer at p gets its entry in this turn, and waits no more
    here_drains : (w d : ℕ) → (timer_at s p).life ≡ Live w d → EntryAfter s r p w d
    here_drains w d e =
        let b = first_in s o words p at in
        let t = rest p w d b (settled_live s p o.timers_long b w d e) in
        record {
          armed = λ _.
              subst (λ (y : Option Entry). Armed y d (generation_of w)) (sym (t.stays (settled_still s p o.timers_long b)))
              (settled_armed s o words p at w d e);
          stays = λ f. true_false (first_waiting s o words p at) f;
        }

    -- another timer is after this turn what it was before
    other_drains : (x w d : ℕ) → x < cap → (x ≡ p → ⊥) → (timer_at s x).life ≡ Live w d → EntryAfter s r x w d
    other_drains x w d b n e =
        let same = settled_other s p x n in
        let t = rest x w d b (ap (λ (u : Timer). u.life) same ∙ e) in
        record {
          armed = λ f. t.armed (ap (λ (u : Timer). is_waiting u.waiting) same ∙ f);
          stays = λ f. t.stays (ap (λ (u : Timer). is_waiting u.waiting) same ∙ f) ∙ settled_entry_other s o words p at x b n;
        }

    -- every live timer is one of the two
    turn_drains : (x w d : ℕ) → x < cap → (timer_at s x).life ≡ Live w d → EntryAfter s r x w d
    turn_drains x w d b e =
        by-ref (ref_eq x p)
        (λ q. subst (λ y. EntryAfter s r y w d) (sym q) (here_drains w d (ap (λ (y : ℕ). (timer_at s y).life) (sym q) ∙ e)))
        (λ n. other_drains x w d b n e)

-- as many turns as timers wait are enough
drain_drains : (k : ℕ) (s : Set) → Open s → Words s → count (waits_at s) cap ≤ k
    → (x w d : ℕ) → x < cap → (timer_at s x).life ≡ Live w d → EntryAfter s (drain_from k s) x w d
unfolding drain_from
drain_drains zero s o words l = λ x w d b _. none_drains s (omega arith) x w d b
drain_drains (suc k) s o words l = go s.first refl (λ r t v c. drain_drains k r t v c)
  where
    go : (f : Code.Option Place) → s.first ≡ f
        → ((r : Set) → Open r → Words r → count (waits_at r) cap ≤ k
        → (x w d : ℕ) → x < cap → (timer_at r x).life ≡ Live w d → EntryAfter r (drain_from k r) x w d)
        → (x w d : ℕ) → x < cap → (timer_at s x).life ≡ Live w d → EntryAfter s (list_turn s f (λ p. drain_from k (settled_of s p))) x w d
    go None e rest = λ x w d b _. none_drains s (empty_none s o e) x w d b
    go (Some p) e rest =
        let t = settled_settles s o words p.0 e in
        turn_drains s o words p.0 e (drain_from k (settled_of s p.0))
        (rest (settled_of s p.0) t.is_open (settled_words s p.0 words) (omega (arith, t.fewer)))

module _ (s : Set) (sound : Sound s) (c : s.closed ≡ false) (words : Words s) (x w d : ℕ) (b : x < cap) (live : (timer_at s x).life ≡ Live w d) where
  -- both, of a drain
  drained_drains : EntryAfter s (drained_of s) x w d
  drained_drains = drain_drains cap s (sound_open s sound c) words (count_le (waits_at s) cap) x w d b live

  -- after a drain a live timer that waited has an entry with its deadline and its generation
  pub drained_armed : waiting s x ≡ true → Armed (entry_of (drained_of s) x) d (generation_of w)
  drained_armed = drained_drains.armed

  -- one that did not wait has the entry that it had
  pub drained_entry : waiting s x ≡ false → entry_of (drained_of s) x ≡ entry_of s x
  drained_entry = drained_drains.stays
