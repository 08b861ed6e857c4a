-- What the small tests on lists in specs/Clauses.antt tell: of every element, of one element, of how often a number stands in a list,
-- and of the numbers that are met along links.
-- Assumes nothing.
use mathlib.Core.Path.{◌≡◌, refl, sym, ap, subst, ◌∙◌}
use mathlib.Core.Logic.{◌⊎◌, inl, inr}
use mathlib.Core.Bool.{Bool, true, false, not, cond, ◌||◌, true≢false, false≢true}
use mathlib.Core.Option.{Option, none, some}
use mathlib.Core.List.{List, [], ◌∷◌, ◌++◌}
use Prim.Native.Nat.{ℕ, zero, suc, ◌+◌, ◌≤◌, ◌<◌}
use native.Mathlib.Omega.{arith}
use lib.Dec.{ltb, eqb}
use lib.ListN.{length, get_or}
use borrow.Author.Tests.{eqb-true, eq-eqb, ne_eqb}
use Rattle.theory.specs.Tests.{Ref, holds, fails, bit}
use Rattle.theory.specs.Counting.{tally, count, Mem, Distinct}
use Rattle.theory.specs.Chain.{nodes, Chain}
use Rattle.theory.proofs.Tests.{ref_lt, ref_and, ref_map, by-ref, none_some}
use Rattle.promises.specs.Clauses.{each, element, there, times, ends_in, is_empty}

-- every element passes exactly where each has what its test tells
pub ref_each : {A : Type 0} (d : A) (P : ℕ → Type 0) (f : ℕ → A → Bool) (xs : List A) (k : ℕ)
    → ((i : ℕ) → i < length xs → Ref (P (k + i)) (f (k + i) (get_or xs i d))) → Ref ((i : ℕ) → i < length xs → P (k + i)) (each k f xs)
ref_each d P f [] k r = holds (λ i l. absurd (omega arith))
ref_each d P f (x ∷ xs) k r =
    ref_map
    (ref_and (subst (λ (n : ℕ). Ref (P n) (f n x)) (zeroth k) (r 0 (omega arith)))
    (ref_each d P f xs (suc k) (λ i l. subst (λ (n : ℕ). Ref (P n) (f n (get_or xs i d))) (next k i) (r (suc i) (omega arith)))))
    (λ t. apart t)
    (λ t. (subst P (zeroth k) (t 0 (omega arith)), λ i l. subst P (next k i) (t (suc i) (omega arith))))
  where
    zeroth : (k : ℕ) → k + 0 ≡ k
    zeroth k = omega arith

    next : (k i : ℕ) → k + suc i ≡ suc k + i
    next k i = omega arith

    apart : (P k) × ((i : ℕ) → i < length xs → P (suc k + i)) → (i : ℕ) → i < suc (length xs) → P (k + i)
    apart t zero l = subst P (sym (zeroth k)) t.0
    apart t (suc i) l = subst P (sym (next k i)) (t.1 i (omega arith))

-- the same from 0 on, of a list of known length
pub ref_all : {A : Type 0} (d : A) (P : ℕ → Type 0) (f : ℕ → A → Bool) (xs : List A) (n : ℕ) → length xs ≡ n
    → ((i : ℕ) → i < n → Ref (P i) (f i (get_or xs i d))) → Ref ((i : ℕ) → i < n → P i) (each 0 f xs)
ref_all d P f xs n e r =
    ref_map (ref_each d P f xs 0 (λ i l. subst (λ (j : ℕ). Ref (P j) (f j (get_or xs i d))) (from i) (r i (omega arith))))
    (λ t i l. subst P (sym (from i)) (t i (omega arith))) (λ t i l. subst P (from i) (t i (omega arith)))
  where
    from : (i : ℕ) → i ≡ 0 + i
    from i = omega arith

-- what is there is one thing
pub some_same : {A : Type 0} {a b : A} → some a ≡ some b → a ≡ b
some_same e = cc

-- an element is there exactly below the length
pub element_in : {A : Type 0} (d : A) (xs : List A) (i : ℕ) → i < length xs → element xs i ≡ some (get_or xs i d)
element_in d [] i l = absurd (omega arith)
element_in d (x ∷ xs) zero l = refl
element_in d (x ∷ xs) (suc i) l = element_in d xs i (omega arith)

pub element_out : {A : Type 0} (xs : List A) (i : ℕ) → length xs ≤ i → element xs i ≡ none
element_out [] i l = refl
element_out (x ∷ xs) zero l = absurd (omega arith)
element_out (x ∷ xs) (suc i) l = element_out xs i (omega arith)

pub in_element : {A : Type 0} (d : A) (xs : List A) (i : ℕ) (x : A) → element xs i ≡ some x → (i < length xs) × (get_or xs i d ≡ x)
in_element d xs i x e =
    by-ref (ref_lt i (length xs)) (λ l. (l, some_same (sym (element_in d xs i l) ∙ e)))
    (λ n. absurd (none_some (element_out xs i (omega arith)) e))

-- what a test of something that may be there tells: it is there and has it, or it has it where it is there
pub ref_some : {A : Type 0} (P : A → Type 0) (f : A → Bool) (o : Option A) → ((x : A) → Ref (P x) (f x))
    → Ref ((x : A) × (o ≡ some x) × P x) (there false f o)
ref_some P f none r = fails (λ t. none_some refl t.1)
ref_some P f (some x) r =
    ref_map (r x) (λ p. (x, refl, p)) (λ t. let e : t.0 ≡ x = let q = t.1 in cc in subst P e t.2)

pub ref_any : {A : Type 0} (P : A → Type 0) (f : A → Bool) (o : Option A) → ((x : A) → Ref (P x) (f x))
    → Ref ((x : A) → o ≡ some x → P x) (there true f o)
ref_any P f none r = holds (λ x e. absurd (none_some refl e))
ref_any P f (some x) r = ref_map (r x) (λ p y e. let q : x ≡ y = cc in subst P q p) (λ t. t x refl)

-- a list is empty exactly where it has no first
pub ref_empty : {A : Type 0} (l : List A) → Ref (l ≡ []) (is_empty l)
ref_empty [] = holds refl
ref_empty (x ∷ l) = fails (λ e. let z : ◌≡◌ {A = ℕ} 0 1 = cc in omega arith)

-- a test that is negated tells that it is false
pub ref_off : (b : Bool) → Ref (b ≡ false) (not b)
ref_off true = fails true≢false
ref_off false = holds refl

-- what a test tells that is made only where another says no, or only where it says yes
pub ref_open : {Q : Type 0} (b : Bool) {t : Bool} → Ref Q t → Ref (b ≡ false → Q) (b || t)
ref_open true r = holds (λ e. absurd (true≢false e))
ref_open false r = ref_map r (λ q e. q) (λ f. f refl)

pub ref_shut : {Q : Type 0} (b : Bool) {t : Bool} → Ref Q t → Ref (b ≡ true → Q) (not b || t)
ref_shut true r = ref_map r (λ q e. q) (λ f. f refl)
ref_shut false r = holds (λ e. absurd (false≢true e))

-- a number that stands in a list more than 0 times is one of it
counted_mem : (x : ℕ) (l : List ℕ) → 0 < times x l → Mem x l
counted_mem x [] h = absurd (omega arith)
counted_mem x (y ∷ l) h = go (eqb x y) refl h (counted_mem x l)
  where
    go : (b : Bool) → eqb x y ≡ b → 0 < cond b 1 0 + times x l → (0 < times x l → Mem x l) → Mem x (y ∷ l)
    go true e h r = inl (eqb-true x y e)
    go false e h r = inr (r (omega arith))

-- and the other way round
mem_counted : (x : ℕ) (l : List ℕ) → Mem x l → 0 < times x l
mem_counted x [] m = absurd m
mem_counted x (y ∷ l) (inl e) = rw (eq-eqb x y e) (omega arith)
mem_counted x (y ∷ l) (inr m) = let h = mem_counted x l m in omega arith

-- so that test tells whether a number stands in a list
pub ref_mem : (x : ℕ) (l : List ℕ) → Ref (Mem x l) (ltb 0 (times x l))
ref_mem x l = ref_map (ref_lt 0 (times x l)) (counted_mem x l) (mem_counted x l)

-- where no number of a list stands there twice, it repeats none
pub once_distinct : (l : List ℕ) → ((x : ℕ) → Mem x l → times x l ≡ 1) → Distinct l
once_distinct [] h = tt
once_distinct (x ∷ l) h = (
  λ m.
      let a = mem_counted x l m in
      let b : cond (eqb x x) 1 0 + times x l ≡ 1 = h x (inl refl) in
      let c : ◌≡◌ {A = ℕ} (cond (eqb x x) 1 0) 1 = ap (λ (t : Bool). cond t 1 0) (eq-eqb x x refl) in
      omega arith,
  once_distinct l
      (λ y m.
      let a = mem_counted y l m in
      let b : cond (eqb y x) 1 0 + times y l ≡ 1 = h y (inr m) in
      omega arith),
)

-- a number that is not in a list stands there 0 times
not_counted : (x : ℕ) (l : List ℕ) → (Mem x l → ⊥) → times x l ≡ 0
not_counted x l n = by-ref (ref_lt 0 (times x l)) (λ h. absurd (n (counted_mem x l h))) (λ h. omega arith)

-- a number of a list that repeats none stands there once
pub distinct_once : (l : List ℕ) → Distinct l → (x : ℕ) → Mem x l → times x l ≡ 1
distinct_once [] d x m = absurd m
distinct_once (y ∷ l) d x (inl e) =
    let a = not_counted x l (λ m. d.0 (subst (λ (k : ℕ). Mem k l) e m)) in
    rw (eq-eqb x y e) (omega arith)
distinct_once (y ∷ l) d x (inr m) =
    let n : x ≡ y → ⊥ = λ e. d.0 (subst (λ (k : ℕ). Mem k l) e m) in
    let a = distinct_once l d.1 x m in
    rw (ne_eqb x y n) (omega arith)

-- every number of a list passes exactly where each has what its test tells
pub ref_members : (P : ℕ → Type 0) (f : ℕ → Bool) (l : List ℕ) (k : ℕ) → ((x : ℕ) → Ref (P x) (f x))
    → Ref ((x : ℕ) → Mem x l → P x) (each k (λ i x. f x) l)
ref_members P f [] k r = holds (λ x m. absurd m)
ref_members P f (y ∷ l) k r =
    ref_map (ref_and (r y) (ref_members P f l (suc k) r)) (λ t x m. apart t x m) (λ t. (t y (inl refl), λ x m. t x (inr m)))
  where
    apart : (P y) × ((x : ℕ) → Mem x l → P x) → (x : ℕ) → Mem x (y ∷ l) → P x
    apart t x (inl e) = subst P (sym e) t.0
    apart t x (inr m) = t.1 x m

-- a list that ends in a number is that one alone, or its tail ends in it
pub ends_tail : (m x : ℕ) (l : List ℕ) → ends_in m (x ∷ l) ≡ true → (m ≡ x) ⊎ (ends_in m l ≡ true)
ends_tail m x [] e = inl (eqb-true m x e)
ends_tail m x (y ∷ l) e = inr e

-- a list with a number put last ends in it
pub ends_last : (m : ℕ) (l : List ℕ) → ends_in m (l ++ (m ∷ [])) ≡ true
ends_last m [] = eq-eqb m m refl
ends_last m (x ∷ []) = eq-eqb m m refl
ends_last m (x ∷ y ∷ l) = ends_last m (y ∷ l)

-- what stands in a list with another number put last stands in the list, and as often
pub mem_last : (m x : ℕ) (l : List ℕ) → (x ≡ m → ⊥) → times x (l ++ (m ∷ [])) ≡ times x l
mem_last m x [] n = rw (ne_eqb x m n) refl
mem_last m x (y ∷ l) n = ap (λ (k : ℕ). cond (eqb x y) 1 0 + k) (mem_last m x l n)

-- LINKS

-- nothing is met from no head on
pub nodes_none : (next : ℕ → Option ℕ) (n : ℕ) → nodes next n none ≡ []
unfolding nodes
nodes_none next zero = refl
nodes_none next (suc n) = refl

-- from a head on something is met
pub nodes_some : (next : ℕ → Option ℕ) (n x : ℕ) → nodes next (suc n) (some x) ≡ [] → ⊥
unfolding nodes
nodes_some next n x e = false≢true (ap is_empty e)

-- the same links meet the same numbers
pub nodes_same : (f g : ℕ → Option ℕ) → ((x : ℕ) → f x ≡ g x) → (n : ℕ) (h : Option ℕ) → nodes f n h ≡ nodes g n h
unfolding nodes
nodes_same f g e zero h = refl
nodes_same f g e (suc n) none = refl
nodes_same f g e (suc n) (some x) = ap (◌∷◌ x) (nodes_same f g e n (f x) ∙ ap (nodes g n) (e x))

module _ (ok : ℕ → Bool) (next : ℕ → Option ℕ) where
  -- a chain that is no longer than may be met is what is met
  pub chain_met : (l : List ℕ) (h : Option ℕ) (n : ℕ) → Chain ok next h l → length l ≤ n → nodes next n h ≡ l
  unfolding nodes
  chain_met [] h n c b = ap (nodes next n) c ∙ nodes_none next n
  chain_met (x ∷ l) h zero c b = absurd (omega arith)
  chain_met (x ∷ l) h (suc n) c b = rw c.0 (ap (◌∷◌ x) (chain_met l (next x) n c.2 (omega arith)))

  -- where fewer are met than may be, and all pass, they are a chain
  pub met_chain : (n : ℕ) (h : Option ℕ) → length (nodes next n h) < n → ((x : ℕ) → Mem x (nodes next n h) → ok x ≡ true)
      → Chain ok next h (nodes next n h)
  unfolding nodes
  met_chain zero h b p = absurd (omega arith)
  met_chain (suc n) none b p = refl
  met_chain (suc n) (some x) b p = (refl, p x (inl refl), met_chain n (next x) (omega arith) (λ y m. p y (inr m)))

-- the count from the front: the first number, and the others
pub count_front : (f : ℕ → Bool) (n : ℕ) → count f (suc n) ≡ bit (f 0) + count (λ i. f (suc i)) n
unfolding count
count_front f zero = go (f 0)
  where
    go : (b : Bool) → tally b 0 ≡ bit b + 0
    go true = refl
    go false = refl
count_front f (suc n) = ap (tally (f (suc n))) (count_front f n) ∙ go (f (suc n)) (bit (f 0)) (count (λ i. f (suc i)) n)
  where
    go : (b : Bool) (x y : ℕ) → tally b (x + y) ≡ x + tally b y
    go true x y = omega arith
    go false x y = refl
