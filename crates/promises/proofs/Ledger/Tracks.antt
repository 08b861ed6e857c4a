-- How a set stands to the ledger of its calls, handle by handle, and what a reset, a drain and a pop make of it. B is the premise on
-- resets: what is said under it is needed for bare advances and for the next wake alone.
-- Assumes nothing.
use mathlib.Core.Path.{◌≡◌, refl, sym, ap, subst, ◌∙◌}
use mathlib.Core.Bool.{Bool, true, false, not, ◌||◌}
use mathlib.Core.Option.{Option, none, some}
use Prim.Native.Nat.{ℕ, suc, ◌+◌, ◌*◌, ◌%◌, ◌≤◌, ◌<◌, ◌^◌}
use native.Mathlib.Omega.{arith}
use Rattle.theory.specs.Tests.{bit}
use Rattle.theory.proofs.Tests.{none_some, true_false}
use Rattle.heap.specs.declared.Entry.{Entry}
use Rattle.word.specs.Rules.{generation_of, fired_of, reset_of}
use Rattle.state.specs.declared.Set.{Set}
use Rattle.state.specs.declared.Handle.{Handle}
use Rattle.timers.specs.declared.Timing.{Timing}
use Rattle.timers.specs.Calls.{live_at}
use Rattle.laws.specs.EntryOf.{entry_of, waiting, Armed}
use Rattle.promises.specs.Turns.{Line, Ledger, begun, moved, cleared, rung}

-- an entry that n resets have outdated: the word's generation is n further, wrapping at 30 bits
pub record Stale (e : Entry) (generation n : ℕ) : Type 0 where
  pub young : e.generation < 2 ^ 30
  pub outdated : 1 ≤ n
  pub further : generation ≡ (e.generation + n) % 2 ^ 30

-- how a live timer, by its word and deadline, whether it waits, and its entry, stands to its line
pub record Living (B : Type 0) (t : Timing) (wait : Bool) (o : Option Entry) (l : Line) : Type 0 where
  pub known : l.live ≡ true
  pub agreed : l.due ≡ t.due
  pub generation : ℕ
  pub young : generation < 2 ^ 30
  pub word_is : t.word ≡ generation * 4 + bit l.reported
  pub drained_is : l.drained ≡ not wait
  pub calm : wait ≡ false → l.resets ≡ 0
  pub armed : wait ≡ false → l.reported ≡ false → Armed o t.due generation
  pub stale : B → wait ≡ true → (e : Entry) → o ≡ some e → Stale e generation l.resets
  pub unrung : B → wait ≡ true → l.reported ≡ false
  pub quiet : B → l.reported ≡ true → o ≡ none

-- of a dead handle the ledger says so
abbrev pub Stands : Type 0 → Option Timing → Bool → Option Entry → Line → Type 0
Stands B none wait o l = l.live ≡ false
Stands B (some t) wait o l = Living B t wait o l

-- the set is as the ledger says
abbrev pub Tracks : Type 0 → Set → Ledger → Type 0
Tracks B s L = (h : Handle) → Stands B (live_at s h) (waiting s h.place.0) (entry_of s h.place.0) (L.line h)

-- a stronger premise will do
pub stands_under : (B C : Type 0) → (C → B) → (o : Option Timing) (wait : Bool) (e : Option Entry) (l : Line) → Stands B o wait e l → Stands C o wait e l
stands_under B C f none wait e l k = k
stands_under B C f (some t) wait e l k = record {
  known = k.known;
  agreed = k.agreed;
  generation = k.generation;
  young = k.young;
  word_is = k.word_is;
  drained_is = k.drained_is;
  calm = k.calm;
  armed = k.armed;
  stale = λ b. k.stale (f b);
  unrung = λ b. k.unrung (f b);
  quiet = λ b. k.quiet (f b);
}

-- what stands so still does where each part is the same
pub stands_same : (B : Type 0) {o o' : Option Timing} {w w' : Bool} {e e' : Option Entry} {l l' : Line} → o' ≡ o → w' ≡ w → e' ≡ e → l' ≡ l
    → Stands B o w e l → Stands B o' w' e' l'
stands_same B p q r u k = rw (p, q, r, u) k

-- a mark is at most one
pub bit_small : (b : Bool) → bit b ≤ 1
bit_small true = omega arith
bit_small false = omega arith

-- a reset's word has the next generation, and no mark
reset_word : (g m : ℕ) → g < 2 ^ 30 → m ≤ 1 → reset_of (g * 4 + m) ≡ (g + 1) % 2 ^ 30 * 4 + 0
reset_word g m a b = omega arith

-- one reset more
stale_more : (e : Entry) (g n : ℕ) → Stale e g n → Stale e ((g + 1) % 2 ^ 30) (suc n)
stale_more e g n s =
    let y = s.young in
    let f = s.further in
    record { young = y; outdated = omega arith; further = omega arith }

-- fewer than 2^30 resets never come back to the entry's generation
pub stale_apart : (e : Entry) (g n : ℕ) → Stale e g n → n < 2 ^ 30 → e.generation ≡ g → ⊥
stale_apart e g n s b q =
    let y = s.young in
    let f = s.further in
    let o = s.outdated in
    omega arith

module _ (B : Type 0) (t : Timing) (wait : Bool) (o : Option Entry) (l : Line) (k : Living B t wait o l) where
  -- after a reset
  pub living_reset : (d : ℕ) → Living B (record { word = reset_of t.word; due = d }) true o (moved d l)
  living_reset d =
      let y = k.young in
      record {
        known = k.known;
        agreed = refl;
        generation = (k.generation + 1) % 2 ^ 30;
        young = omega arith;
        word_is = ap reset_of k.word_is ∙ reset_word k.generation (bit l.reported) k.young (bit_small l.reported);
        drained_is = refl;
        calm = λ e. true_false refl e;
        armed = λ e. true_false refl e;
        stale = λ b _. outdated b wait refl;
        unrung = λ _ _. refl;
        quiet = λ _ e. true_false e refl;
      }
    where
      fresh : (b : B) → wait ≡ false → (r : Bool) → l.reported ≡ r → (e : Entry) → o ≡ some e → Stale e ((k.generation + 1) % 2 ^ 30) (suc l.resets)
      fresh b w true r e q = absurd (none_some (k.quiet b r) q)
      fresh b w false r e q =
          let a = k.armed w r in
          let z : a.it ≡ e = cc (a.found, q) in
          let g : e.generation ≡ k.generation = ap (λ (x : Entry). x.generation) (sym z) ∙ a.same_generation in
          let y = k.young in
          let n = k.calm w in
          record { young = omega arith; outdated = omega arith; further = omega arith }

      outdated : (b : B) (w : Bool) → wait ≡ w → (e : Entry) → o ≡ some e → Stale e ((k.generation + 1) % 2 ^ 30) (suc l.resets)
      outdated b true w e q = stale_more e k.generation l.resets (k.stale b w e q)
      outdated b false w e q = fresh b w l.reported refl e q

  -- after a drain: one that waited has an entry of its own now, the other keeps what it had
  pub living_drained : (r : Option Entry) → (wait ≡ true → Armed r t.due (generation_of t.word)) → (wait ≡ false → r ≡ o) → Living B t false r (cleared l)
  living_drained r new old = record {
    known = k.known;
    agreed = k.agreed;
    generation = k.generation;
    young = k.young;
    word_is = k.word_is;
    drained_is = refl;
    calm = λ _. refl;
    armed = λ _ q. aimed wait refl q;
    stale = λ _ e. true_false e refl;
    unrung = λ _ e. true_false e refl;
    quiet = λ b q. bare b wait refl q;
  }
    where
      aimed : (w : Bool) → wait ≡ w → l.reported ≡ false → Armed r t.due k.generation
      aimed true w q =
          let g : generation_of t.word ≡ k.generation = omega (arith, k.word_is, bit_small l.reported) in
          subst (Armed r t.due) g (new w)
      aimed false w q = subst (λ (x : Option Entry). Armed x t.due k.generation) (sym (old w)) (k.armed w q)

      bare : (b : B) (w : Bool) → wait ≡ w → l.reported ≡ true → r ≡ none
      bare b true w q = true_false q (k.unrung b w)
      bare b false w q = old w ∙ k.quiet b q

  module _ (e : Entry) (has : o ≡ some e) where
    -- a pop whose entry matches the word: it is reported, and was owed
    pub living_fired : (B → l.resets < 2 ^ 30) → t.word ≡ e.generation * 4 → Living B (record { word = fired_of t.word; due = t.due }) wait none (rung true l)
    living_fired low m =
        let z = bit_small l.reported in
        let w = k.word_is in
        let g : e.generation ≡ k.generation = omega arith in
        record {
          known = k.known;
          agreed = k.agreed;
          generation = k.generation;
          young = k.young;
          word_is = rings l.reported (omega (arith, w, m, g));
          drained_is = k.drained_is;
          calm = k.calm;
          armed = λ _ q. true_false (marked l.reported) q;
          stale = λ _ _ x q. absurd (none_some refl q);
          unrung = λ b v. absurd (stale_apart e k.generation l.resets (k.stale b v e has) (low b) g);
          quiet = λ _ _. refl;
        }
      where
        marked : (b : Bool) → b || true ≡ true
        marked true = refl
        marked false = refl

        rings : (b : Bool) → fired_of t.word ≡ k.generation * 4 + 1 → fired_of t.word ≡ k.generation * 4 + bit (b || true)
        rings true q = q
        rings false q = q

    -- a pop whose entry does not match: the entry is gone, and that is all
    pub living_stale : (t.word ≡ e.generation * 4 → ⊥) → Living B t wait none l
    living_stale m = record {
      known = k.known;
      agreed = k.agreed;
      generation = k.generation;
      young = k.young;
      word_is = k.word_is;
      drained_is = k.drained_is;
      calm = k.calm;
      armed = λ v q. absurd (m (aim v q));
      stale = λ _ _ x q. absurd (none_some refl q);
      unrung = k.unrung;
      quiet = λ _ _. refl;
    }
      where
        aim : wait ≡ false → l.reported ≡ false → t.word ≡ e.generation * 4
        aim v q =
            let a = k.armed v q in
            let z : a.it ≡ e = cc (a.found, has) in
            let g : e.generation ≡ k.generation = ap (λ (x : Entry). x.generation) (sym z) ∙ a.same_generation in
            let w : t.word ≡ k.generation * 4 + bit false = k.word_is ∙ ap (λ (b : Bool). k.generation * 4 + bit b) q in
            omega arith

    -- one that matches was not reported before
    pub fired_unreported : t.word ≡ e.generation * 4 → l.reported ≡ false
    fired_unreported m = go l.reported k.word_is
      where
        go : (b : Bool) → t.word ≡ k.generation * 4 + bit b → b ≡ false
        go false w = refl
        go true w = absurd (omega arith)

-- a timer just added, at a place that has no entry
pub living_begun : (B : Type 0) (d : ℕ) (o : Option Entry) (l : Line) → o ≡ none → Living B (record { word = 0; due = d }) true o (begun d l)
living_begun B d o l n = record {
  known = refl;
  agreed = refl;
  generation = 0;
  young = omega arith;
  word_is = refl;
  drained_is = refl;
  calm = λ e. true_false refl e;
  armed = λ e. true_false refl e;
  stale = λ _ _ e q. absurd (none_some n q);
  unrung = λ _ _. refl;
  quiet = λ _ e. true_false e refl;
}
