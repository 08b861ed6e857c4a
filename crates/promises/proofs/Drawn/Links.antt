-- The numbers met along links within a few steps tell which are met within many, where by then the links have ended or run in a loop.
-- Assumes nothing.
use mathlib.Core.Path.{◌≡◌, refl, sym, ap, subst, ◌∙◌}
use mathlib.Core.Logic.{⊎_elim, inl, inr}
use mathlib.Core.Bool.{Bool, true, false, not, ◌&&◌, ◌||◌, false≢true}
use mathlib.Core.Option.{Option, none, some}
use mathlib.Core.List.{List, [], ◌∷◌}
use Prim.Native.Nat.{ℕ, zero, suc, ◌≤◌, ◌<◌}
use native.Mathlib.Omega.{arith}
use lib.Dec.{ltb, eqb}
use lib.ListN.{length}
use Rattle.theory.specs.Tests.{Ref}
use Rattle.theory.specs.Counting.{Mem, Distinct}
use Rattle.theory.specs.Chain.{nodes}
use Rattle.theory.proofs.Tests.{ref_lt, ref_eq, ref_map, ref_by, ref_true, true_ref, false_ref, true_false, and_left, and_right}
use Rattle.promises.specs.Clauses.{each, there, times, ends_in, is_empty}
use Rattle.promises.proofs.ByClause.ClauseLists.{ref_mem, ref_members, ref_empty, once_distinct, distinct_once, ends_tail}

-- tests that tell equivalent facts are the same
pub ref_same : {P Q : Type 0} (a b : Bool) → Ref P a → Ref Q b → (P → Q) → (Q → P) → a ≡ b
ref_same true b r q f g = sym (true_ref q (f (ref_true r refl)))
ref_same false b r q f g = sym (false_ref q (λ x. false≢true (true_ref r (g x))))

-- a test of a list's numbers, each by itself, tells that every one of them passes
ref_passes : (f : ℕ → Bool) (l : List ℕ) → Ref ((x : ℕ) → Mem x l → f x ≡ true) (each 0 (λ i x. f x) l)
ref_passes f l = ref_members (λ x. f x ≡ true) f l 0 (λ x. ref_by (f x) (λ e. e) (λ e t. true_false t e))

-- whether no number stands twice in a list
abbrev pub once : List ℕ → Bool
once l = each 0 (λ k p. eqb (times p l) 1) l

-- it tells just that
ref_once : (l : List ℕ) → Ref (Distinct l) (once l)
ref_once l =
    ref_map (ref_members (λ x. times x l ≡ 1) (λ x. eqb (times x l) 1) l 0 (λ x. ref_eq (times x l) 1)) (once_distinct l) (distinct_once l)

-- two lists have the same numbers, and both repeat none or both repeat one
pub record Alike (l m : List ℕ) : Type 0 where
  pub forth : (x : ℕ) → Mem x l → Mem x m
  pub back : (x : ℕ) → Mem x m → Mem x l
  pub apart : Distinct l → Distinct m
  pub apart_back : Distinct m → Distinct l

-- then the tests of them say the same
module _ (l m : List ℕ) (a : Alike l m) where
  pub alike_has : (x : ℕ) → ltb 0 (times x l) ≡ ltb 0 (times x m)
  alike_has x = ref_same _ _ (ref_mem x l) (ref_mem x m) (a.forth x) (a.back x)

  pub alike_each : (f : ℕ → Bool) → each 0 (λ i x. f x) l ≡ each 0 (λ i x. f x) m
  alike_each f = ref_same _ _ (ref_passes f l) (ref_passes f m) (λ h x y. h x (a.back x y)) (λ h x y. h x (a.forth x y))

  pub alike_once : once l ≡ once m
  alike_once = ref_same _ _ (ref_once l) (ref_once m) a.apart a.apart_back

  pub alike_empty : is_empty l ≡ is_empty m
  alike_empty = ref_same _ _ (ref_empty l) (ref_empty m) (λ e. none_in m (λ x y. subst (Mem x) e (a.back x y))) (λ e. none_in l (λ x y. subst (Mem x) e (a.forth x y)))
    where
      none_in : (k : List ℕ) → ((x : ℕ) → Mem x k → ⊥) → k ≡ []
      none_in [] h = refl
      none_in (x ∷ k) h = absurd (h x (inl refl))

module _ (next : ℕ → Option ℕ) where
  -- fewer steps meet no more, and repeat none where more do not
  met_more : (m n : ℕ) → m ≤ n → (h : Option ℕ) (x : ℕ) → Mem x (nodes next m h) → Mem x (nodes next n h)
  unfolding nodes
  met_more zero n l h x y = absurd y
  met_more (suc m) zero l h x y = absurd (omega arith)
  met_more (suc m) (suc n) l none x y = y
  met_more (suc m) (suc n) l (some z) x (inl e) = inl e
  met_more (suc m) (suc n) l (some z) x (inr y) = inr (met_more m n (omega arith) (next z) x y)

  apart_fewer : (m n : ℕ) → m ≤ n → (h : Option ℕ) → Distinct (nodes next n h) → Distinct (nodes next m h)
  unfolding nodes
  apart_fewer zero n l h d = tt
  apart_fewer (suc m) zero l h d = absurd (omega arith)
  apart_fewer (suc m) (suc n) l none d = tt
  apart_fewer (suc m) (suc n) l (some z) d = (λ y. d.0 (met_more m n (omega arith) (next z) z y), apart_fewer m n (omega arith) (next z) d.1)

  -- where the links have ended, more steps meet nothing more
  pub met_ended : (m n : ℕ) → m ≤ n → (h : Option ℕ) → length (nodes next m h) < m → nodes next n h ≡ nodes next m h
  unfolding nodes
  met_ended zero n l h e = absurd (omega arith)
  met_ended (suc m) zero l h e = absurd (omega arith)
  met_ended (suc m) (suc n) l none e = refl
  met_ended (suc m) (suc n) l (some z) e = ap (◌∷◌ z) (met_ended m n (omega arith) (next z) (omega arith))

  -- every link from a number of the list leads to one of it
  abbrev pub closed : List ℕ → Bool
  closed l = each 0 (λ k x. there true (λ y. ltb 0 (times y l)) (next x)) l

  -- then nothing else is met from a number of it on
  met_inside : (l : List ℕ) → closed l ≡ true → (n : ℕ) (h : Option ℕ) → ((y : ℕ) → h ≡ some y → Mem y l) → (x : ℕ) → Mem x (nodes next n h) → Mem x l
  unfolding nodes
  met_inside l c zero h i x m = absurd m
  met_inside l c (suc n) none i x m = absurd m
  met_inside l c (suc n) (some z) i x (inl e) = subst (λ (k : ℕ). Mem k l) (sym e) (i z refl)
  met_inside l c (suc n) (some z) i x (inr m) = met_inside l c n (next z) (λ y e. leads z (i z refl) y e) x m
    where
      leads : (z : ℕ) → Mem z l → (y : ℕ) → next z ≡ some y → Mem y l
      leads z a y e =
          let t = ref_true (ref_passes (λ x. there true (λ y. ltb 0 (times y l)) (next x)) l) c z a in
          ref_true (ref_mem y l) (ap (there true (λ y. ltb 0 (times y l))) (sym e) ∙ t)

  -- what is met within m steps is all that is ever met, and it is known whether a number is met twice
  abbrev pub settled : ℕ → Option ℕ → Bool
  settled m h = let l = nodes next m h in closed l && (ltb (length l) m || not (once l))

  module _ (m n : ℕ) (b : 0 < m) (l : m ≤ n) (h : Option ℕ) where
    -- the head is the first that is met
    head_met : (m : ℕ) → 0 < m → (y : ℕ) → h ≡ some y → Mem y (nodes next m h)
    unfolding nodes
    head_met zero b y e = absurd (omega arith)
    head_met (suc m) b y e = rw e (inl refl)

    -- so what is met within n steps is met within m where those lead nowhere else, and a test of the one is a test of the other
    pub met_within : closed (nodes next m h) ≡ true → (x : ℕ) → Mem x (nodes next n h) → Mem x (nodes next m h)
    met_within c x y = met_inside (nodes next m h) c n h (head_met m b) x y

    pub settled_alike : settled m h ≡ true → Alike (nodes next n h) (nodes next m h)
    settled_alike s = record {
      forth = met_within (and_left (closed k) _ s);
      back = met_more m n l h;
      apart = apart_fewer m n l h;
      apart_back = λ d. go (ltb (length k) m) refl (and_right (closed k) _ s) d;
    }
      where
        k : List ℕ
        k = nodes next m h

        go : (b : Bool) → ltb (length k) m ≡ b → (b || not (once k)) ≡ true → Distinct k → Distinct (nodes next n h)
        go true e t d = subst Distinct (sym (met_ended m n l h (ref_true (ref_lt (length k) m) e))) d
        go false e t d = true_false t (ap not (true_ref (ref_once k) d))

-- a number in which a list ends is one of it
pub ends_mem : (x : ℕ) (l : List ℕ) → ends_in x l ≡ true → Mem x l
ends_mem x [] e = absurd (false≢true e)
ends_mem x (y ∷ l) e = ⊎_elim inl (λ d. inr (ends_mem x l d)) (ends_tail x y l e)
