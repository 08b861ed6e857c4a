-- Lists by their places, and the bytes of many records, one record behind the other.
-- Assumes nothing.
use Rattle.std.specs.Prelude.{Bool, true, cond, ◌&&◌, List, [], ◌∷◌, ◌++◌, ℕ, zero, suc, ltb, get_or}

-- the n things f 0, f 1 and so on
unfoldable pub rows : {A : Type 0} → (ℕ → A) → ℕ → List A
rows f zero = []
rows f (suc n) = rows f n ++ (f n ∷ [])

-- the bytes of each record of a list, in the list's order
unfoldable pub blocks : {A : Type 0} → (A → List ℕ) → List A → List ℕ
blocks f [] = []
blocks f (x ∷ xs) = f x ++ blocks f xs

-- the j-th thing of a list of which the first n are in use; d for one that is not
abbrev pub used : {A : Type 0} → A → ℕ → List A → ℕ → A
used d n xs j = cond (ltb j n) (get_or xs j d) d

-- whether the first n numbers all pass a test
unfoldable pub all_to : (ℕ → Bool) → ℕ → Bool
all_to ok zero = true
all_to ok (suc n) = all_to ok n && ok n
