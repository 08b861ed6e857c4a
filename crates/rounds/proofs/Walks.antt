-- One turn of each loop is one turn of its rule, and the rule ends where the loop does.
-- Assumes nothing.
use Rattle.std.proofs.Common.{◌≡◌, ℕ, zero, suc, ◌+◌, ◌≤◌, length, take, length-take, refl, ◌∙◌, List, get_or, min, ap, arith}
use Rattle.std.proofs.lemmas.List.{get_or-take}
use Rattle.std.proofs.lemmas.Bool.Decides.{nat_tests}
use Rattle.heap.specs.Capacity.{cap}
use Rattle.state.specs.declared.Set.{Set}
use Rattle.timers.specs.Calls as Calls
use Rattle.rounds.specs.declared.Run.{Run}
use Rattle.rounds.specs.Rules.{wrap, least_of, add_from, reset_of, reset_from, Lent, round_of, rounds_from}

-- the less of a number and the capacity, as the code takes it
pub least_min : (n : ℕ) → min n cap ≡ least_of n
least_min n = grind (arith, nat_tests)

pub add_goes : (n k d : ℕ) (s : Set) → n ≡ suc k → add_from n d s ≡ add_from k (d + 1) (Calls.add_of s d).state
unfolding add_from
add_goes n k d s e = ap (λ (m : ℕ). add_from m d s) e

pub add_done : (n d : ℕ) (s : Set) → n ≡ 0 → add_from n d s ≡ s
unfolding add_from
add_done n d s z = ap (λ (m : ℕ). add_from m d s) z

pub reset_goes : (n k : ℕ) (l : List ℕ) (j : ℕ) (r : Run) → n ≡ suc k → reset_from n l j r ≡ reset_from k l (j + 1) (reset_of r (get_or l j 0))
unfolding reset_from
reset_goes n k l j r e = ap (λ (m : ℕ). reset_from m l j r) e

-- of so many words from the j-th on none is past the n-th
reset_taken : (k n : ℕ) (l : List ℕ) (j : ℕ) (r : Run) → j + k ≤ n → reset_from k (take n l) j r ≡ reset_from k l j r
unfolding reset_from
reset_taken zero n l j r b = refl
reset_taken (suc k) n l j r b =
    ap (λ (w : ℕ). reset_from k (take n l) (j + 1) (reset_of r w)) (get_or-take n l j 0 (omega arith))
    ∙ reset_taken k n l (j + 1) (reset_of r (get_or l j 0)) (omega arith)

-- so the first n words of a list are as many as it has
pub reset_first : (n : ℕ) (l : List ℕ) (r : Run) → n ≤ length l → reset_from (length (take n l)) (take n l) 0 r ≡ reset_from n l 0 r
reset_first n l r b =
    let m : length (take n l) ≡ n = omega (arith, length-take n l) in
    ap (λ (k : ℕ). reset_from k (take n l) 0 r) m ∙ reset_taken n n l 0 r (omega arith)

pub reset_done : (n : ℕ) (l : List ℕ) (j : ℕ) (r : Run) → n ≡ 0 → reset_from n l j r ≡ r
unfolding reset_from
reset_done n l j r z = ap (λ (m : ℕ). reset_from m l j r) z

-- the round after the reading N
pub rounds_goes : (m k n N : ℕ) (x : Lent) → m ≡ suc k → rounds_from m n N x ≡ rounds_from k n (wrap (N + n)) (round_of x (wrap (N + n)))
unfolding rounds_from
rounds_goes m k n N x e = ap (λ (j : ℕ). rounds_from j n N x) e

pub rounds_done : (m n N : ℕ) (x : Lent) → m ≡ 0 → rounds_from m n N x ≡ x.run.sum
unfolding rounds_from
rounds_done m n N x z = ap (λ (j : ℕ). rounds_from j n N x) z
