-- Nodes that are numbers, linked into a chain: what a chain is, and the test of one. Throughout, `next` is the node that a node
-- names, if any, and `ok` the test that each node has to pass. A walk counts the nodes that it has yet to meet, so for a yes or no it
-- needs no memory of those that it met.
-- Assumes nothing.
use Rattle.std.specs.Prelude.{◌≡◌, Bool, true, false, ◌&&◌, cond, List, [], ◌∷◌, ℕ, zero, suc, eqb}
use Rattle.std.proofs.Math.Option.{Option, none, some}
use Rattle.theory.specs.Counting.{count}

-- a link that is kept as a number, where the number `end` stands for none
abbrev pub unless : ℕ → ℕ → Option ℕ
unless end h = cond (eqb h end) none (some h)

-- whether the chain from h ends after exactly n nodes, all of which pass
unfoldable pub walkb : (ℕ → Bool) → (ℕ → Option ℕ) → ℕ → Option ℕ → Bool
walkb ok next zero none = true
walkb ok next zero (some x) = false
walkb ok next (suc n) none = false
walkb ok next (suc n) (some x) = ok x && walkb ok next n (next x)

-- the nodes met from h on, n of them at most
unfoldable pub nodes : (ℕ → Option ℕ) → ℕ → Option ℕ → List ℕ
nodes next zero h = []
nodes next (suc n) none = []
nodes next (suc n) (some x) = x ∷ nodes next n (next x)

-- the chain from h is the list, node by node to its end, and every node passes
abbrev pub Chain : (ℕ → Bool) → (ℕ → Option ℕ) → Option ℕ → List ℕ → Type 0
Chain ok next h [] = h ≡ none
Chain ok next h (x ∷ l) = (h ≡ some x) × (ok x ≡ true) × Chain ok next (next x) l

-- the test of a chain: from h it goes through as many nodes that pass as there are numbers below cap that pass, and ends
unfoldable pub chain_okb : (ℕ → Bool) → (ℕ → Option ℕ) → ℕ → Option ℕ → Bool
chain_okb ok next cap h = walkb ok next (count ok cap) h

-- the list of that chain's nodes
unfoldable pub chain_of : (ℕ → Bool) → (ℕ → Option ℕ) → ℕ → Option ℕ → List ℕ
chain_of ok next cap h = nodes next (count ok cap) h

-- yes where nothing was found
abbrev pub clear : {A : Type 0} → Option A → Bool
clear none = true
clear (some k) = false
