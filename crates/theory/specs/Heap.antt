-- A binary heap on a list of any elements that have a key: the walks up and down, and what push, removal and popping do.
-- Assumes nothing.
use Rattle.std.specs.Prelude.{◌≡◌, cond, ◌&&◌, List, [], ◌∷◌, ◌++◌, ℕ, zero, suc, ◌+◌, ◌-◌, ◌*◌, ltb, leb, eqb, length, get_or, set, take}
use Rattle.theory.specs.Order.{parent, Heap}

-- what a walk of one entry leaves: the list, the entry's place in it, and the number of exchanges
pub record Moved (A : Type 0) : Type 0 where
  pub list : List A
  pub place : ℕ
  pub swaps : ℕ

module _ {A : Type 0} where
  -- a walk that makes no exchange
  abbrev pub stay : List A → ℕ → Moved A
  stay xs i = record { list = xs; place = i; swaps = 0 }

  -- a walk with one exchange before it
  abbrev pub more : Moved A → Moved A
  more r = record { list = r.list; place = r.place; swaps = suc r.swaps }

module _ {A : Type 0} (d : A) where
  -- the list with the entries at i and j exchanged
  unfoldable pub swap_at : List A → ℕ → ℕ → List A
  swap_at xs i j = set (set xs i (get_or xs j d)) j (get_or xs i d)

  -- the list with its last entry moved to i
  unfoldable pub fill : List A → ℕ → List A
  fill xs i = set (take (length xs - 1) xs) i (get_or xs (length xs - 1) d)

module _ {A : Type 0} (key : A → ℕ) (d : A) where
  -- the key at place i
  abbrev pub at : List A → ℕ → ℕ
  at xs i = key (get_or xs i d)

  -- the whole list is in heap order
  abbrev pub Ordered : List A → Type 0
  Ordered xs = Heap (at xs) (length xs)

  -- the list has n entries, in heap order
  pub record Good (n : ℕ) (xs : List A) : Type 0 where
    pub size : length xs ≡ n
    pub heap : Heap (at xs) n

  -- the entry at i rises while its key is less than its parent's; the first number bounds the exchanges
  unfoldable pub up_from : ℕ → List A → ℕ → Moved A
  up_from zero xs i = stay xs i
  up_from (suc f) xs i =
      let r = more (up_from f (swap_at d xs i (parent i)) (parent i)) in
      cond (ltb 0 i && ltb (at xs i) (at xs (parent i))) r (stay xs i)

  -- the child of i that is to rise: the left one, unless the right one is below n and its key is less
  unfoldable pub child : List A → ℕ → ℕ → ℕ
  child xs n i = cond (ltb (2 * i + 2) n && ltb (at xs (2 * i + 2)) (at xs (2 * i + 1))) (2 * i + 2) (2 * i + 1)

  -- among the first n entries, the one at i sinks while its lesser child's key is less; the first number bounds the exchanges
  unfoldable pub down_from : ℕ → List A → ℕ → ℕ → Moved A
  down_from zero xs n i = stay xs i
  down_from (suc f) xs n i =
      let c = child xs n i in
      let r = more (down_from f (swap_at d xs i c) n c) in
      cond (ltb c n && ltb (at xs c) (at xs i)) r (stay xs i)

  -- a new entry is put last and rises
  unfoldable pub push : List A → A → Moved A
  push xs x = up_from (length xs) (xs ++ (x ∷ [])) (length xs)

  -- the last entry takes the place of the one at i, and rises where its key is less than that one's, or else sinks
  unfoldable pub removeAt : List A → ℕ → Moved A
  removeAt xs i =
      let n = length xs - 1 in
      let ys = fill d xs i in
      let u = up_from n ys i in
      let v = down_from n ys n i in
      let w = cond (ltb (at xs n) (at xs i)) u v in
      cond (eqb i n) (stay (take n xs) i) w

-- what was popped, in the order in which it came out, and the heap that is left
pub record Popped (A : Type 0) : Type 0 where
  pub out : List A
  pub left : List A

module _ {A : Type 0} (key : A → ℕ) (d : A) where
  -- pops while the head's key is at most m. The first number is the LIMIT: at most that many are popped. The full run is the case
  -- where the limit is the count of the entries
  unfoldable pub pop_while : ℕ → List A → ℕ → Popped A
  pop_while zero xs m = record { out = []; left = xs }
  pop_while (suc f) [] m = record { out = []; left = [] }
  pop_while (suc f) (x ∷ xs) m =
      let r = pop_while f (removeAt key d (x ∷ xs) 0).list m in
      let s : Popped A = record { out = x ∷ r.out; left = r.left } in
      cond (leb (key x) m) s (record { out = []; left = x ∷ xs })
