-- The clauses of specs/Clauses.antt, all at once: a set breaks none exactly where it keeps each. The worked sets are computed before
-- this, so that what is wrong of one of them is told by `few_right` first.
-- Assumes nothing.
use mathlib.Core.Path.{◌≡◌, refl}
use mathlib.Core.Bool.{Bool, true, false, cond}
use mathlib.Core.List.{List, [], ◌∷◌}
use Prim.Native.Nat.{ℕ}
use native.Mathlib.Omega.{arith}
use Rattle.state.specs.declared.Set.{Set}
use Rattle.promises.specs.Clauses.{entries_fit, slots_fit, counted, positioned, ordered, chained, own_slots, own_entries, waiters_listed, only_waiters, listed_once, live_unmarked, cancelled_unmarked, closed_list, closed_heap, is_free, is_retired, none_held, none_listed, cancelled_listed, generations_fit, places_fit, Clause, clauses, broken_of, broken}

-- every clause of a list of them holds
abbrev All : Set → List Clause → Type 0
All s [] = Unit {0}
All s (c ∷ cs) = (c.holds s ≡ true) × All s cs

-- then none is broken, and the other way round
all_none : (s : Set) (cs : List Clause) → All s cs → broken_of s cs ≡ []
all_none s [] t = refl
all_none s (c ∷ cs) t = rw t.0 (all_none s cs t.1)

none_all : (s : Set) (cs : List Clause) → broken_of s cs ≡ [] → All s cs
none_all s [] e = tt
none_all s (c ∷ cs) e = go (c.holds s) refl e (none_all s cs)
  where
    go : (b : Bool) → c.holds s ≡ b → cond b (broken_of s cs) (c.number ∷ broken_of s cs) ≡ [] → (broken_of s cs ≡ [] → All s cs) → All s (c ∷ cs)
    go true h e r = (h, r e)
    go false h e r = absurd (let z : ◌≡◌ {A = ℕ} 0 1 = cc in omega arith)

-- a fact, and the others
also : {P Q : Type 0} → P → Q → P × Q
also p q = (p, q)

-- all clauses, by their numbers
pub record Kept (s : Set) : Type 0 where
  pub c11 : entries_fit s ≡ true
  pub c12 : slots_fit s ≡ true
  pub c13 : counted s ≡ true
  pub c14 : positioned s ≡ true
  pub c15 : ordered s ≡ true
  pub c16 : chained s ≡ true
  pub c21 : own_slots s ≡ true
  pub c22 : own_entries s ≡ true
  pub c31 : waiters_listed s ≡ true
  pub c32 : only_waiters s ≡ true
  pub c33 : listed_once s ≡ true
  pub c41 : live_unmarked s ≡ true
  pub c42 : cancelled_unmarked s ≡ true
  pub c43 : closed_list s ≡ true
  pub c44 : closed_heap s ≡ true
  pub c51 : none_held is_free s ≡ true
  pub c52 : none_held is_retired s ≡ true
  pub c53 : none_listed is_free s ≡ true
  pub c54 : none_listed is_retired s ≡ true
  pub c61 : cancelled_listed s ≡ true
  pub c81 : generations_fit s ≡ true
  pub c82 : places_fit s ≡ true

-- where no clause is broken all are kept, and the other way round
pub broken_kept : (s : Set) → broken s ≡ [] → Kept s
broken_kept s e =
    let t = none_all s clauses e in
    let u = t.1.1.1.1.1.1 in
    let v = u.1.1.1.1.1 in
    let w = v.1.1.1.1 in
    record {
      c11 = t.0;
      c12 = t.1.0;
      c13 = t.1.1.0;
      c14 = t.1.1.1.0;
      c15 = t.1.1.1.1.0;
      c16 = t.1.1.1.1.1.0;
      c21 = u.0;
      c22 = u.1.0;
      c31 = u.1.1.0;
      c32 = u.1.1.1.0;
      c33 = u.1.1.1.1.0;
      c41 = v.0;
      c42 = v.1.0;
      c43 = v.1.1.0;
      c44 = v.1.1.1.0;
      c51 = w.0;
      c52 = w.1.0;
      c53 = w.1.1.0;
      c54 = w.1.1.1.0;
      c61 = w.1.1.1.1.0;
      c81 = w.1.1.1.1.1.0;
      c82 = w.1.1.1.1.1.1.0;
    }

pub kept_broken : (s : Set) → Kept s → broken s ≡ []
kept_broken s c =
    let five = also c.c51 (also c.c52 (also c.c53 (also c.c54 (also c.c61 (also c.c81 (also c.c82 tt)))))) in
    let four = also c.c41 (also c.c42 (also c.c43 (also c.c44 five))) in
    let two = also c.c21 (also c.c22 (also c.c31 (also c.c32 (also c.c33 four)))) in
    all_none s clauses (also c.c11 (also c.c12 (also c.c13 (also c.c14 (also c.c15 (also c.c16 two))))))
