-- A set that is drawn, breaks no clause, and whose live timers have words of 32 bits is sound and fits: calls on it answer as they do
-- without the test (proofs/Untested.antt). Where few elements are drawn, what it breaks is computed from those.
-- Assumes nothing.
use mathlib.Core.Path.{◌≡◌, refl, subst, ◌∙◌}
use mathlib.Core.Bool.{Bool, true}
use mathlib.Core.List.{List, [], ◌∷◌}
use Prim.Native.Nat.{ℕ, zero, suc, ◌+◌, ◌≤◌, ◌^◌}
use native.Mathlib.Omega.{arith}
use lib.Dec.{ltb, leb}
use lib.ListN.{length, get_or}
use borrow.Author.Tests.{ltb-true}
use Rattle.theory.proofs.Tests.{ref_le, ref_true, and_left, and_right}
use Rattle.heap.specs.Capacity.{cap}
use Rattle.heap.specs.Rules.{no_entry}
use Rattle.state.specs.declared.Life.{Life}
use Rattle.state.specs.declared.Timer.{Timer}
use Rattle.state.specs.State.{no_timer, timer_at}
use Rattle.laws.specs.Words.{Small, Fit}
use Rattle.promises.specs.Clauses.{each, there, live_word, broken_of, broken}
use Rattle.promises.specs.States.{Drawn, empty, heap_of, set_of}
use Rattle.promises.proofs.ByClause.ClauseKept.{broken_kept}
use Rattle.promises.proofs.ByClause.ClausesEnough.{kept_sound}
use Rattle.promises.proofs.Drawn.Room.{drawn, room_length, drawn_length, room_each}
use Rattle.promises.proofs.Drawn.Few.{clauses_few, fits}
use Rattle.promises.proofs.Drawn.Same.{few_broken}

-- the word of a timer, where it is live, has 32 bits
abbrev pub word_fits : Timer → Bool
word_fits t = there true (λ w. ltb w (2 ^ 32)) (live_word t.life)

word_small : (t : Timer) → word_fits t ≡ true → Small t.life
word_small t e = record {
  bits = λ w d q. ltb-true w (2 ^ 32) (subst (λ (l : Life). there true (λ w. ltb w (2 ^ 32)) (live_word l) ≡ true) q e);
}

-- what every element passes, and the unused one, is passed at every number
each_at : {A : Type 0} (d : A) (f : A → Bool) → f d ≡ true → (k : ℕ) (xs : List A) → each k (λ i x. f x) xs ≡ true
    → (p : ℕ) → f (get_or xs p d) ≡ true
each_at d f e k [] h p = e
each_at d f e k (x ∷ xs) h zero = and_left (f x) _ h
each_at d f e k (x ∷ xs) h (suc p) = each_at d f e (suc k) xs (and_right (f x) _ h) p

module _ (d : Drawn) where
  -- the words that are drawn have 32 bits
  abbrev pub words_fit : Bool
  words_fit = each d.start (λ p t. word_fits t) d.timers

  -- a set fits where it breaks no clause, and its words have
  pub drawn_fit : d.start + length d.timers ≤ cap → length d.heap.entries ≤ cap → length d.heap.slots ≤ cap
      → broken (set_of d) ≡ [] → words_fit ≡ true → Fit (set_of d)
  unfolding set_of heap_of
  drawn_fit t e q b w =
      let n = drawn_length no_timer d.start d.timers t in
      let m = room_length no_entry 0 d.heap.entries (omega (arith, e)) in
      let k = room_length (empty 0) 0 d.heap.slots (omega (arith, q)) in
      let h = room_each no_timer (λ p t. word_fits t) (λ i. refl) d.start d.timers ∙ w in
      record {
        sound = kept_sound (set_of d) n (omega (arith, m)) (omega (arith, k)) (broken_kept (set_of d) b);
        words = record {
          long = n;
          small = λ p l. word_small (timer_at (set_of d) p) (each_at no_timer word_fits refl 0 (drawn no_timer d.start d.timers) h p);
        };
      }

  -- by what is drawn
  pub few_fit : fits d ≡ true → broken_of (set_of d) (clauses_few d) ≡ [] → words_fit ≡ true → Fit (set_of d)
  few_fit f b w =
      let n = leb (d.start + length d.timers) cap in
      let m = leb (length d.heap.entries) cap in
      let k = leb (length d.heap.slots) cap in
      drawn_fit (ref_true (ref_le _ cap) (and_left n _ f)) (ref_true (ref_le _ cap) (and_left m _ (and_right n _ f)))
      (ref_true (ref_le _ cap) (and_left k _ (and_right m _ (and_right n _ f)))) (few_broken d f ∙ b) w
