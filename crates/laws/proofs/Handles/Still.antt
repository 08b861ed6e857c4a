-- What a handle names, before a change and after it: a dead handle stays dead, and a live one stays live with its deadline, its word
-- changed by a given relation at most. A firing and an invalid mark are two such.
-- Assumes nothing.
use mathlib.Core.Path.{◌≡◌, refl, ◌∙◌, ap, subst}
use mathlib.Core.Logic.{inl, inr, ⊎_elim}
use mathlib.Core.Bool.{Bool, true, false, cond}
use mathlib.Core.Option.{Option, none, some}
use Prim.Native.Nat.{ℕ, ◌*◌, ◌%◌}
use native.Mathlib.Omega.{arith}
use lib.Dec.{eqb}
use Rattle.std.specs.Prelude as Code
use Rattle.std.specs.Prelude.{None}
use Rattle.heap.specs.declared.Slot.{Slot}
use Rattle.theory.proofs.Tests.{none_some, cond-ref, ref_eq}
use Rattle.word.specs.Rules.{fired_in, invalid_of}
use Rattle.state.specs.declared.Life.{Life}
use Rattle.state.specs.declared.Life.TheVariants.{Free, Live, Cancelled, Retired}
use Rattle.state.specs.declared.Waiting.{Waiting}
use Rattle.state.specs.declared.Timer.{Timer}
use Rattle.moves.specs.Rules.{rung_word, rung_life, rung_timer, marked_life}
use Rattle.timers.specs.declared.Timing.{Timing}
use Rattle.timers.specs.Calls.{timing_of}
use Rattle.laws.specs.ByHandle.{Same, Fires, Marks, Still}
use Rattle.laws.proofs.Handles.Naming.{names}
use Rattle.laws.proofs.PlaceByPlace.Places.{Order}

-- and the fired bit
pub marks_fired : (w v : ℕ) → Marks w v → fired_in v ≡ fired_in w
marks_fired w v = ⊎_elim (λ e. ap fired_in e) (λ e. let q : v % 2 ≡ w % 2 = omega arith in ap (λ (b : ℕ). eqb b 1) q)

-- to every handle the timer is what it was, but for the word
abbrev pub StaysFor : (ℕ → ℕ → Type 0) → Timer → Timer → Type 0
StaysFor W t r = (u : ℕ) → Still W (names t u) (names r u)

-- relations of words under which the same word stands, and two changes make one
pub record Changes (W : ℕ → ℕ → Type 0) : Type 0 where
  pub none_made : (w : ℕ) → W w w
  pub two_made : (a b c : ℕ) → W a b → W b c → W a c

-- a word that stays
pub same_changes : Changes Same
same_changes = record { none_made = λ w. refl; two_made = λ a b c p q. q ∙ p }

-- a word that was fired does not fire again
pub fires_changes : Changes Fires
fires_changes = record {
  none_made = λ w. inl refl;
  two_made = λ a b c p q. ⊎_elim
      (λ e. subst (λ (x : ℕ). Fires x c) e q)
      (λ e. ⊎_elim (λ f. inr (e.0, f ∙ e.1)) (λ f. absurd (omega (arith, e.0, e.1, f.0))) q)
      p;
}

-- a second mark changes nothing
pub marks_changes : Changes Marks
marks_changes = record {
  none_made = λ w. inl refl;
  two_made = λ a b c p q. ⊎_elim
      (λ e. subst (λ (x : ℕ). Marks x c) e q)
      (λ e. ⊎_elim (λ f. inr (f ∙ e)) (λ f. inr (omega arith)) q)
      p;
}

module _ (W : ℕ → ℕ → Type 0) (c : Changes W) where
  -- what is the same is so still
  pub still_same : (o r : Option Timing) → r ≡ o → Still W o r
  still_same o r e = record { dead = λ n. e ∙ n; live = λ t l. (t.word, c.none_made t.word, e ∙ l) }

  still_then : (o r q : Option Timing) → Still W o r → Still W r q → Still W o q
  still_then o r q a b = record {
    dead = λ n. b.dead (a.dead n);
    live = λ t l.
        let x = a.live t l in
        let y = b.live (record { word = x.0; due = t.due }) x.2 in
        (y.0, c.two_made t.word x.0 y.0 x.1 y.1, y.2);
  }

  -- this is such a relation of timers as the walks ask for
  pub stays_order : Order (StaysFor W)
  unfolding names
  stays_order = record {
    blind = λ t r l e u. still_same (names t u) (names r u) (cc);
    then = λ x y z a b u. still_then (names x u) (names y u) (names z u) (a u) (b u);
  }

  -- the use number stays, and a life of the same kind, with a word that is related
  stays_by : (b : Bool) (l m : Life) → ((w d : ℕ) → l ≡ Live w d → (v : ℕ) × (W w v) × (m ≡ Live v d)) → (timing_of l ≡ none → timing_of m ≡ none)
      → Still W (cond b (timing_of l) none) (cond b (timing_of m) none)
  stays_by false l m f g = still_same none none refl
  stays_by true Free m f g = record { dead = λ _. g refl; live = λ t e. absurd (none_some refl e) }
  stays_by true (Live w d) m f g = record {
    dead = λ e. absurd (none_some e refl);
    live = λ t e. let x = f w d refl in let a : w ≡ t.word = cc in let b : d ≡ t.due = cc in
        (x.0, subst (λ (y : ℕ). W y x.0) a x.1, ap timing_of x.2 ∙ ap (λ (y : ℕ). some (record { word = x.0; due = y })) b);
  }
  stays_by true (Cancelled w) m f g = record { dead = λ _. g refl; live = λ t e. absurd (none_some refl e) }
  stays_by true Retired m f g = record { dead = λ _. g refl; live = λ t e. absurd (none_some refl e) }

  -- a timer whose live word changes as the relation says, and whose deadline and use number stay
  stays_life : (t : Timer) (m : Life) (w : Waiting) (d : Code.Option Slot)
      → ((w d : ℕ) → t.life ≡ Live w d → (v : ℕ) × (W w v) × (m ≡ Live v d)) → (timing_of t.life ≡ none → timing_of m ≡ none)
      → StaysFor W t (record { life = m; waiting = w; held = d; uses = t.uses })
  unfolding names
  stays_life t m w d f g u = stays_by (eqb t.uses u) t.life m f g

-- a word rings only where it is a generation times four
rung_fires : (w g : ℕ) → Fires w (rung_word w g)
rung_fires w g = cond-ref (λ v. Fires w v) (ref_eq w (g * 4)) (λ e. inr (omega arith, refl)) (λ n. inl refl)

-- a pop's timer
pub rung_stays : (g : ℕ) (t : Timer) → StaysFor Fires t (rung_timer g t)
rung_stays g t =
    stays_life Fires fires_changes t (rung_life g t.life) t.waiting None
    (λ w d e. (rung_word w g, rung_fires w g, ap (rung_life g) e)) (dead t.life)
  where
    dead : (l : Life) → timing_of l ≡ none → timing_of (rung_life g l) ≡ none
    dead Free e = refl
    dead (Live w d) e = absurd (none_some e refl)
    dead (Cancelled w) e = refl
    dead Retired e = refl

-- a timer that a close meets
pub marked_stays : (t : Timer) (w : Waiting)
    → StaysFor Marks t (record { life = marked_life t.life; waiting = w; held = None; uses = t.uses })
marked_stays t w =
    stays_life Marks marks_changes t (marked_life t.life) w None
    (λ w d e. (invalid_of w, inr refl, ap marked_life e)) (dead t.life)
  where
    dead : (l : Life) → timing_of l ≡ none → timing_of (marked_life l) ≡ none
    dead Free e = refl
    dead (Live w d) e = absurd (none_some e refl)
    dead (Cancelled w) e = refl
    dead Retired e = refl
