-- Which clauses a set breaks, by what is known of each: clauses that say the same of it are the same ones broken.
-- Assumes nothing.
use mathlib.Core.Path.{◌≡◌, refl}
use mathlib.Core.Bool.{not}
use mathlib.Core.List.{List, [], ◌∷◌}
use Prim.Native.Nat.{ℕ}
use lib.Dec.{ltb}
use Rattle.state.specs.declared.Set.{Set}
use Rattle.promises.specs.Clauses.{times, Clause, clause, broken_of}

-- clauses of the same numbers that say the same of a set, one by one
abbrev pub Alike_clauses : Set → List Clause → List Clause → Type 0
Alike_clauses s [] [] = Unit {0}
Alike_clauses s [] (e ∷ es) = ⊥
Alike_clauses s (c ∷ cs) [] = ⊥
Alike_clauses s (c ∷ cs) (e ∷ es) = (c.number ≡ e.number) × (c.holds s ≡ e.holds s) × Alike_clauses s cs es

-- then it breaks the same ones
pub alike_broken : (s : Set) (cs es : List Clause) → Alike_clauses s cs es → broken_of s cs ≡ broken_of s es
alike_broken s [] [] t = refl
alike_broken s [] (e ∷ es) t = absurd t
alike_broken s (c ∷ cs) [] t = absurd t
alike_broken s (c ∷ cs) (e ∷ es) t = rw (t.0, t.1, alike_broken s cs es t.2)

-- the clauses with these numbers say no, whatever the set, and the others yes
abbrev pub verdicts : List ℕ → List Clause → List Clause
verdicts bs [] = []
verdicts bs (c ∷ cs) = clause c.number (λ s. not (ltb 0 (times c.number bs))) ∷ verdicts bs cs

-- one more clause that says the same
pub also : {n : ℕ} {P Q : Type 0} → P → Q → (n ≡ n) × P × Q
also p q = (refl, p, q)
