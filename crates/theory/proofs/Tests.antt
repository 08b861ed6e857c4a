-- How to go between a Boolean test and the fact that it tells. A proof about `cond t x y` goes by `cond-ref`.
-- Assumes nothing.
use mathlib.Core.Path.{◌≡◌, refl, sym, ◌∙◌}
use mathlib.Core.Bool.{Bool, true, false, not, cond, ◌&&◌, true≢false, false≢true}
use mathlib.Core.Option.{Option, none, some, none-ne-some}
use Prim.Native.Nat.{ℕ, ◌≤◌, ◌<◌}
use native.Mathlib.Omega.{arith}
use lib.Dec.{ltb, leb, eqb}
use borrow.Author.Tests.{ltb-true, ltb-false, leb-true, leb-false, eqb-true, eqb-false}
use Rattle.theory.specs.Tests.{Ref, holds, fails, is_yes}

-- a test tells P where its being true gives P and its being false refutes P
pub ref_by : {P : Type 0} (t : Bool) → (t ≡ true → P) → (t ≡ false → ¬ P) → Ref P t
ref_by true f g = holds (f refl)
ref_by false f g = fails (g refl)

-- `ltb` tells less than
pub ref_lt : (a b : ℕ) → Ref (a < b) (ltb a b)
ref_lt a b = ref_by (ltb a b) (ltb-true a b) (λ e. let h : b ≤ a = ltb-false a b e in omega arith)

-- `leb` tells at most
pub ref_le : (a b : ℕ) → Ref (a ≤ b) (leb a b)
ref_le a b = ref_by (leb a b) (leb-true a b) (λ e. let h : b < a = leb-false a b e in omega arith)

-- `eqb` tells equality
pub ref_eq : (a b : ℕ) → Ref (a ≡ b) (eqb a b)
ref_eq a b = ref_by (eqb a b) (eqb-true a b) (eqb-false a b)

-- two tests in a row tell both facts
pub ref_and : {P Q : Type 0} {s t : Bool} → Ref P s → Ref Q t → Ref (P × Q) (s && t)
ref_and (holds p) (holds q) = holds (p, q)
ref_and (holds p) (fails q) = fails (λ r. q r.1)
ref_and (fails p) r = fails (λ r. p r.0)

-- a negated test tells that the fact does not hold
pub ref_not : {P : Type 0} {t : Bool} → Ref P t → Ref (¬ P) (not t)
ref_not (holds p) = fails (λ n. n p)
ref_not (fails n) = holds n

-- a test of one fact is a test of an equivalent one
pub ref_map : {P Q : Type 0} {t : Bool} → Ref P t → (P → Q) → (Q → P) → Ref Q t
ref_map (holds p) f g = holds (f p)
ref_map (fails n) f g = fails (λ q. n (g q))

-- what both branches have, the choice between them has
pub cond-ref {ℓ κ} : {B : Type ℓ} (P : B → Type κ) {Q : Type 0} {t : Bool} {x y : B} → Ref Q t → (Q → P x) → (¬ Q → P y) → P (cond t x y)
cond-ref P (holds q) f g = f q
cond-ref P (fails n) f g = g n

-- the same of a choice by two tests, in three cases, so that `omega` can read what each one says
pub cond-and {ℓ κ} : {B : Type ℓ} (P : B → Type κ) {Q R : Type 0} {s t : Bool} {x y : B} → Ref Q s → Ref R t
    → (Q → R → P x) → (¬ Q → P y) → (Q → ¬ R → P y) → P (cond (s && t) x y)
cond-and P (holds q) (holds r) f g h = f q r
cond-and P (holds q) (fails n) f g h = h q n
cond-and P (fails n) r f g h = g n

-- any goal at all, by what a test tells
pub by-ref {ℓ} : {G : Type ℓ} {Q : Type 0} {t : Bool} → Ref Q t → (Q → G) → (¬ Q → G) → G
by-ref (holds q) f g = f q
by-ref (fails n) f g = g n

-- the fact, where the test is true
pub ref_true : {P : Type 0} {t : Bool} → Ref P t → t ≡ true → P
ref_true (holds p) e = p
ref_true (fails n) e = absurd (false≢true e)

-- the test is true where the fact holds
pub true_ref : {P : Type 0} {t : Bool} → Ref P t → P → t ≡ true
true_ref (holds p) h = refl
true_ref (fails n) h = absurd (n h)

-- the test is false where the fact does not hold
pub false_ref : {P : Type 0} {t : Bool} → Ref P t → ¬ P → t ≡ false
false_ref (holds p) h = absurd (h p)
false_ref (fails n) h = refl

-- no test is both true and false
pub true_false : {A : Type 0} {b : Bool} → b ≡ true → b ≡ false → A
true_false p q = absurd (true≢false (sym p ∙ q))

-- a test that cannot be true is false
pub is_false : (b : Bool) → (b ≡ true → ⊥) → b ≡ false
is_false true h = absurd (h refl)
is_false false h = refl

-- the first of two tests that are true together is true
pub and_left : (a b : Bool) → (a && b) ≡ true → a ≡ true
and_left true b h = refl
and_left false b h = h

-- the second of two tests that are true together is true
pub and_right : (a b : Bool) → (a && b) ≡ true → b ≡ true
and_right true b h = h
and_right false b h = absurd (false≢true h)

-- no option is both empty and filled
pub none_some : {A : Type 0} {o : Option A} {a : A} → o ≡ none → o ≡ some a → ⊥
none_some {a = a} p q = none-ne-some a (sym p ∙ q)

-- what holds is decided as yes
pub yes-isYes {ℓ} : {P : Type ℓ} (c : Dec P) → P → is_yes c ≡ true
yes-isYes (yes p) x = refl
yes-isYes (no n) x = absurd (n x)

-- what does not hold is decided as no
pub no-isYes {ℓ} : {P : Type ℓ} (c : Dec P) → ¬ P → is_yes c ≡ false
no-isYes (yes p) x = absurd (x p)
no-isYes (no n) x = refl
