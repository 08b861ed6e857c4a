-- A handle and its word, and the way back: the word fits 64 bits and names that handle, and a word that names a handle is its word. So
-- two handles with one word are one handle, and two words that name one handle are one word.
-- Assumes nothing.
use mathlib.Core.Path.{◌≡◌, refl, sym, ap, ◌∙◌}
use mathlib.Core.Bool.{Bool, true, false, cond}
use mathlib.Core.Option.{none, some, some-injective}
use Prim.Native.Nat.{ℕ, ◌+◌, ◌*◌, ◌/◌, ◌%◌, ◌<◌, ◌^◌}
use native.Mathlib.Omega.{arith}
use lib.Dec.{eqb}
use borrow.Author.Tests.{eqb-true, eq-eqb}
use Rattle.theory.proofs.Tests.{none_some}
use Rattle.heap.specs.Capacity.{cap}
use Rattle.state.specs.declared.Handle.{Handle}
use Rattle.state.specs.Handles.{handle_word, named_by}

-- a place of the set is in its range
pub place_ranged : (p : ℕ) → p < cap → p < 2 ^ 16
place_ranged p l = omega arith

-- the word of a handle fits 64 bits
pub word_fits : (h : Handle) → h.uses < 2 ^ 32 → h.place.0 < 2 ^ 16 → handle_word h < 2 ^ 64
word_fits h u p = omega arith

-- the parts of a word: the use number, the 16 bits below it, the place
parts : (u p : ℕ) → p < 2 ^ 16
    → let w = u * 2 ^ 32 + p in (w / 2 ^ 32 ≡ u) × (w / 2 ^ 16 % 2 ^ 16 ≡ 0) × (w % 2 ^ 16 ≡ p)
parts u p b = (omega arith, omega arith, omega arith)

-- the word of a handle names that handle; for this the use number needs no bound
pub named_word : (h : Handle) → h.place.0 < 2 ^ 16 → named_by (handle_word h) ≡ some h
named_word h b =
    let k = parts h.uses h.place.0 b in
    rw (eq-eqb (handle_word h / 2 ^ 16 % 2 ^ 16) 0 k.1)
    (λ i. some (record { place = record { 0 = k.2 i }; uses = k.0 i }))

-- a word that names a handle is the word of that handle
pub word_named : (w : ℕ) (h : Handle) → named_by w ≡ some h → handle_word h ≡ w
word_named w h e = go (eqb (w / 2 ^ 16 % 2 ^ 16) 0) refl e
  where
    it : Handle
    it = record { place = record { 0 = w % 2 ^ 16 }; uses = w / 2 ^ 32 }

    go : (b : Bool) → eqb (w / 2 ^ 16 % 2 ^ 16) 0 ≡ b → cond b (some it) none ≡ some h → handle_word h ≡ w
    go true z q = ap handle_word (sym (some-injective it h q)) ∙ omega (arith, eqb-true (w / 2 ^ 16 % 2 ^ 16) 0 z)
    go false z q = absurd (none_some refl q)

-- a word of 64 bits names a place of 16 bits and a use number of 32
pub named_fits : (w : ℕ) (h : Handle) → named_by w ≡ some h → w < 2 ^ 64 → (h.place.0 < 2 ^ 16) × (h.uses < 2 ^ 32)
named_fits w h e f = go (eqb (w / 2 ^ 16 % 2 ^ 16) 0) e
  where
    it : Handle
    it = record { place = record { 0 = w % 2 ^ 16 }; uses = w / 2 ^ 32 }

    go : (b : Bool) → cond b (some it) none ≡ some h → (h.place.0 < 2 ^ 16) × (h.uses < 2 ^ 32)
    go true q =
        let k = some-injective it h q in
        (omega (arith, ap (λ (x : Handle). x.place.0) k), omega (arith, ap (λ (x : Handle). x.uses) k))
    go false q = absurd (none_some refl q)

-- two handles with one word are one handle; for this the use numbers need no bound
pub word_apart : (h k : Handle) → h.place.0 < 2 ^ 16 → k.place.0 < 2 ^ 16 → handle_word h ≡ handle_word k → h ≡ k
word_apart h k a b e = some-injective h k (sym (named_word h a) ∙ ap named_by e ∙ named_word k b)

-- two words that name one handle are one word
pub named_once : (v w : ℕ) (h : Handle) → named_by v ≡ some h → named_by w ≡ some h → v ≡ w
named_once v w h p q = sym (word_named v h p) ∙ word_named w h q
