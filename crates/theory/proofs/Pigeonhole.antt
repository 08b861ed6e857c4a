-- A list that names each number that passes a test once is as long as their count, and the other way round.
-- Assumes nothing.
use mathlib.Core.Path.{◌≡◌, refl, sym, ◌∙◌, ap, subst}
use mathlib.Core.Logic.{inl, inr, ⊎_elim}
use mathlib.Core.Bool.{Bool, true, false, not, and-true, and-false}
use mathlib.Core.List.{List, [], ◌∷◌}
use Prim.Native.Nat.{ℕ, suc, ◌<◌, ◌≤◌}
use native.Mathlib.Decide.{ℕ_discrete}
use native.Mathlib.Omega.{arith}
use lib.Dec.{eqb}
use lib.ListN.{length}
use borrow.Author.Tests.{eq-eqb, ne_eqb}
use Rattle.theory.specs.Counting.{count, but, Mem, Distinct, Lists}
use Rattle.theory.proofs.Tests.{true_false, is_false, and_left}
use Rattle.theory.proofs.Counting.{count_off, count_none, count_zero}

but_self : (f : ℕ → Bool) (x : ℕ) → but f x x ≡ false
unfolding but
but_self f x = rw (eq-eqb x x refl) (and-false (f x))

but_other : (f : ℕ → Bool) (x i : ℕ) → (i ≡ x → ⊥) → but f x i ≡ f i
unfolding but
but_other f x i h = rw (ne_eqb i x h) (and-true (f i))

but_left : (f : ℕ → Bool) (x i : ℕ) → but f x i ≡ true → f i ≡ true
unfolding but
but_left f x i = and_left (f i) (not (eqb i x))

count_but : (f : ℕ → Bool) (n x : ℕ) → x < n → f x ≡ true → count f n ≡ suc (count (but f x) n)
count_but f n x l t = count_off (but f x) f n x (but_other f x) (but_self f x) t l

-- what x ∷ l names passes, so what l names passes still where x is left out
but_sound : (f : ℕ → Bool) (n x : ℕ) (l : List ℕ) → Distinct (x ∷ l) → ((y : ℕ) → Mem y (x ∷ l) → (y < n) × (f y ≡ true))
    → (y : ℕ) → Mem y l → (y < n) × (but f x y ≡ true)
but_sound f n x l d h y m = ((h y (inr m)).0, but_other f x y (λ e. d.0 (subst (λ (k : ℕ). Mem k l) e m)) ∙ (h y (inr m)).1)

-- the pigeonhole: a list that repeats nothing, names only numbers that pass, and is as long as their count names all of them
pub pigeonhole : (l : List ℕ) (f : ℕ → Bool) (n : ℕ) → Distinct l → ((y : ℕ) → Mem y l → (y < n) × (f y ≡ true))
    → length l ≡ count f n → (i : ℕ) → i < n → f i ≡ true → Mem i l
pigeonhole [] f n d h e i b t = count_zero f n (sym e) i b t
pigeonhole (x ∷ l) f n d h e i b t =
    elim (ℕ_discrete i x) [
      | yes q ↦ inl q
      | no q ↦
          inr
          (pigeonhole l (but f x) n d.1 (but_sound f n x l d h)
          (omega (arith, e, count_but f n x (h x (inl refl)).0 (h x (inl refl)).1)) i b (but_other f x i q ∙ t))
    ]

-- a list that repeats nothing and names only numbers that pass is no longer than their count
pub few : (l : List ℕ) (f : ℕ → Bool) (n : ℕ) → Distinct l → ((y : ℕ) → Mem y l → (y < n) × (f y ≡ true)) → length l ≤ count f n
few [] f n d h = omega arith
few (x ∷ l) f n d h =
    omega (arith, few l (but f x) n d.1 (but_sound f n x l d h), count_but f n x (h x (inl refl)).0 (h x (inl refl)).1)

-- a list that names each number that passes once, and no other, is as long as their count
pub lists_length : (l : List ℕ) (f : ℕ → Bool) (n : ℕ) → Lists f n l → length l ≡ count f n
lists_length [] f n h = sym (count_none f n (λ i b. is_false (f i) (h.whole i b)))
lists_length (x ∷ l) f n h =
    ap suc
    (lists_length l (but f x) n
    (record {
      once = h.once.1;
      sound = but_sound f n x l h.once h.sound;
      whole = λ y b t. ⊎_elim
          (λ e. true_false t (subst (λ (k : ℕ). but f x k ≡ false) (sym e) (but_self f x))) (λ m. m)
          (h.whole y b (but_left f x y t));
    }))
    ∙ sym (count_but f n x (h.sound x (inl refl)).0 (h.sound x (inl refl)).1)
