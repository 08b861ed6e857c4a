-- What is known of the least of some values.
-- Assumes nothing.
use mathlib.Core.Path.{◌≡◌, refl, sym, ap, subst, ◌∙◌}
use mathlib.Core.Bool.{Bool, true, false, cond}
use mathlib.Core.Option.{Option, none, some}
use Prim.Native.Nat.{ℕ, zero, suc, ◌≤◌, ◌<◌}
use native.Mathlib.Omega.{arith}
use lib.Dec.{ltb}
use borrow.Author.Tests.{ltb-true, ltb-false}
use Rattle.theory.specs.Least.{through, lesser, least_below}
use Rattle.theory.proofs.Tests.{by-ref, ref_eq, none_some}

-- the least of values made into others is the least one made so, where that keeps the order
pub least_through : {A B : Type 0} (a : A → A → Bool) (b : B → B → Bool) (g : A → B) → ((x y : A) → b (g x) (g y) ≡ a x y)
    → (f : ℕ → Option A) (n : ℕ) → least_below b (λ i. through g (f i)) n ≡ through g (least_below a f n)
unfolding least_below
least_through a b g same f zero = refl
least_through {A} {B} a b g same f (suc n) =
    ap (λ (o : Option B). lesser b o (through g (f n))) (least_through a b g same f n) ∙ two (least_below a f n) (f n)
  where
    pick : (t : Bool) (x y : A) → cond t (g y) (g x) ≡ g (cond t y x)
    pick true x y = refl
    pick false x y = refl

    two : (o p : Option A) → lesser b (through g o) (through g p) ≡ through g (lesser a o p)
    two none p = refl
    two (some x) none = refl
    two (some x) (some y) = ap some (ap (λ (t : Bool). cond t (g y) (g x)) (same y x) ∙ pick (a y x) x y)

module _ (f : ℕ → Option ℕ) where
  -- a least number: some number below n has it, and none below n has less
  pub record Found (n t : ℕ) : Type 0 where
    pub it : ℕ
    pub below : it < n
    pub has : f it ≡ some t
    pub least : (i u : ℕ) → i < n → f i ≡ some u → t ≤ u

  -- what the least tells, whether there is one or not
  abbrev pub Told : ℕ → Option ℕ → Type 0
  Told n none = (i : ℕ) → i < n → f i ≡ none
  Told n (some t) = Found n t

  pub least_told : (n : ℕ) → Told n (least_below ltb f n)
  unfolding least_below
  least_told zero = λ i l. absurd (omega arith)
  least_told (suc n) = step (least_below ltb f n) (least_told n) (f n) refl
    where
      both : (P : ℕ → Type 0) → ((i : ℕ) → i < n → P i) → P n → (i : ℕ) → i < suc n → P i
      both P lower last i l = by-ref (ref_eq i n) (λ e. subst P (sym e) last) (λ d. lower i (omega arith))

      step : (o : Option ℕ) → Told n o → (x : Option ℕ) → f n ≡ x → Told (suc n) (lesser ltb o x)
      step none k none e = both (λ i. f i ≡ none) k e
      step none k (some u) e = record {
        it = n;
        below = omega arith;
        has = e;
        least = λ i v l. both (λ i. f i ≡ some v → u ≤ v) (λ j b q. absurd (none_some (k j b) q)) (λ q. let z : u ≡ v = cc in omega arith) i l;
      }
      step (some t) k none e = record {
        it = k.it;
        below = let b = k.below in omega arith;
        has = k.has;
        least = λ i v l. both (λ i. f i ≡ some v → t ≤ v) (λ j b q. k.least j v b q) (λ q. absurd (none_some e q)) i l;
      }
      step (some t) k (some u) e = go (ltb u t) refl
        where
          go : (b : Bool) → ltb u t ≡ b → Found (suc n) (cond b u t)
          go true q =
              let c = ltb-true u t q in
              record {
                it = n;
                below = omega arith;
                has = e;
                least = λ i v l. both (λ i. f i ≡ some v → u ≤ v) (λ j b q. let m = k.least j v b q in omega arith) (λ q. let z : u ≡ v = cc in omega arith) i l;
              }
          go false q =
              let c = ltb-false u t q in
              record {
                it = k.it;
                below = let b = k.below in omega arith;
                has = k.has;
                least = λ i v l. both (λ i. f i ≡ some v → t ≤ v) (λ j b q. k.least j v b q) (λ q. let z : u ≡ v = cc in omega arith) i l;
              }
