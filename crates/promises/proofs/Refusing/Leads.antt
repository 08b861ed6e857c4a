-- The first number of a list that passes a test, and what it tells of the others.
-- Assumes nothing.
use mathlib.Core.Path.{◌≡◌, refl, sym, ap, ◌∙◌}
use mathlib.Core.Logic.{◌⊎◌, inl, inr, ⊎_elim}
use mathlib.Core.Bool.{Bool, true, false, cond, ◌||◌, ◌&&◌}
use mathlib.Core.Option.{none, some}
use mathlib.Core.List.{List, [], ◌∷◌, ◌++◌}
use Prim.Native.Nat.{ℕ}
use lib.Dec.{eqb}
use borrow.Author.Tests.{eqb-true}
use Rattle.theory.specs.Counting.{Mem}
use Rattle.theory.proofs.Tests.{none_some, true_false, and_left, and_right}
use Rattle.promises.specs.Conditions.{is_in}
use Rattle.promises.specs.Table.{first_in, Leads, held_in}

module _ (f : ℕ → Bool) where
  -- what is found leads
  pub found_leads : (l : List ℕ) (n : ℕ) → first_in f l ≡ some n → Leads f l n
  unfolding first_in
  found_leads [] n e = absurd (none_some refl e)
  found_leads (m ∷ l) n e = go (f m) refl e (found_leads l n)
    where
      go : (b : Bool) → f m ≡ b → cond b (some m) (first_in f l) ≡ some n → (first_in f l ≡ some n → Leads f l n) → Leads f (m ∷ l) n
      go true q e r =
          let d : m ≡ n = cc in
          record {
            before = [];
            after = l;
            stands = ap (λ (k : ℕ). k ∷ l) d;
            holds = ap f (sym d) ∙ q;
            none_before = λ k i. absurd i;
          }
      go false q e r =
          let t = r e in
          record {
            before = m ∷ t.before;
            after = t.after;
            stands = ap (λ (k : List ℕ). m ∷ k) t.stands;
            holds = t.holds;
            none_before = λ k i. ⊎_elim (λ d. ap f d ∙ q) (t.none_before k) i;
          }

  -- what leads is found
  pub leads_found : (l : List ℕ) (n : ℕ) → Leads f l n → first_in f l ≡ some n
  unfolding first_in
  leads_found l n t = ap (first_in f) t.stands ∙ past t.before t.none_before
    where
      past : (b : List ℕ) → ((m : ℕ) → Mem m b → f m ≡ false) → first_in f (b ++ (n ∷ t.after)) ≡ some n
      past [] h = rw t.holds
      past (m ∷ b) h = rw (h m (inl refl)) (past b (λ k i. h k (inr i)))

  -- where none is found, none passes
  pub none_passes : (l : List ℕ) → first_in f l ≡ none → (n : ℕ) → Mem n l → f n ≡ false
  unfolding first_in
  none_passes [] e n i = absurd i
  none_passes (m ∷ l) e n i = go (f m) refl e (λ x. none_passes l x n)
    where
      go : (b : Bool) → f m ≡ b → cond b (some m) (first_in f l) ≡ none → (first_in f l ≡ none → Mem n l → f n ≡ false) → f n ≡ false
      go true q e r = absurd (none_some e refl)
      go false q e r = ⊎_elim (λ d. ap f d ∙ q) (r e) i

  -- where none passes, none is found
  pub passes_none : (l : List ℕ) → ((n : ℕ) → Mem n l → f n ≡ false) → first_in f l ≡ none
  unfolding first_in
  passes_none [] h = refl
  passes_none (m ∷ l) h = rw (h m (inl refl)) (passes_none l (λ k i. h k (inr i)))

-- the test of a list's numbers tells
is_in_lem : (n : ℕ) (l : List ℕ) → is_in n l ≡ true → Mem n l
is_in_lem n [] e = true_false e refl
is_in_lem n (m ∷ l) e = go (eqb n m) refl e (is_in_lem n l)
  where
    go : (b : Bool) → eqb n m ≡ b → (b || is_in n l) ≡ true → (is_in n l ≡ true → Mem n l) → (n ≡ m) ⊎ Mem n l
    go true q e r = inl (eqb-true n m q)
    go false q e r = inr (r e)

-- the numbers of the rows are all in the list
abbrev pub within : List (ℕ × Bool) → List ℕ → Bool
within [] l = true
within (r ∷ rs) l = is_in r.0 l && within rs l

-- so a row that holds has its number there
pub held_within : (rs : List (ℕ × Bool)) (l : List ℕ) → within rs l ≡ true → (n : ℕ) → held_in rs n ≡ true → Mem n l
unfolding held_in
held_within [] l w n e = true_false e refl
held_within (r ∷ rs) l w n e = go (eqb r.0 n) refl e (held_within rs l (and_right (is_in r.0 l) (within rs l) w) n)
  where
    go : (b : Bool) → eqb r.0 n ≡ b → cond b r.1 (held_in rs n) ≡ true → (held_in rs n ≡ true → Mem n l) → Mem n l
    go true q e more =
        is_in_lem n l (ap (λ (k : ℕ). is_in k l) (sym (eqb-true r.0 n q)) ∙ and_left (is_in r.0 l) (within rs l) w)
    go false q e more = more e
