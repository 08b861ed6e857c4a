-- What masks and shifts come to in plain arithmetic, and the fields of a record's 14 bytes, each from its own bytes.
-- Assumes nothing.
use mathlib.Core.Path.{◌≡◌, sym, ap, ◌∙◌}
use mathlib.Core.List.{List, [], ◌∷◌}
use Prim.Native.Nat.{ℕ, ◌+◌, ◌*◌, ◌/◌, ◌%◌, ◌^◌, ◌<◌}
use native.Mathlib.Nat.{mod-eq_of_lt}
use native.Mathlib.Omega.{arith}
use lib.ListN.{get_or, take, drop}
use lib.Bits.{bit_and, bit_or, and_mask, or_shifted}
use Rattle.std.specs.Int.{w16, w32, w64, from_be_bytes}
use Rattle.std.proofs.lemmas.List.{get_or-take, get_or-drop}
use Rattle.records.specs.Records.{joined, split, fields_of}

-- one more byte behind a number of 24 bits
pub one_more : (x b : ℕ) → x < 2 ^ 24 → b < 256 → bit_or (x * 2 ^ 8 % 2 ^ 32) b ≡ x * 256 + b
one_more x b hx hb =
    let f : x * 2 ^ 8 < 2 ^ 32 = omega arith in
    rw (mod-eq_of_lt f) (or_shifted x 8 b hb)

-- a number of 32 bits behind another
pub both : (x y : ℕ) → x < 2 ^ 32 → y < 2 ^ 32 → bit_or (x * 2 ^ 32 % 2 ^ 64) y ≡ x * 2 ^ 32 + y
both x y hx hy =
    let f : x * 2 ^ 32 < 2 ^ 64 = omega arith in
    rw (mod-eq_of_lt f) (or_shifted x 32 y hy)

-- the lower half of a byte, and a byte behind it
pub half_more : (a b : ℕ) → b < 256 → bit_or (bit_and a 15 * 2 ^ 8 % 2 ^ 16) b ≡ a % 16 * 256 + b
half_more a b hb =
    let m : bit_and a 15 ≡ a % 16 = and_mask a 4 in
    let f : a % 16 * 2 ^ 8 < 2 ^ 16 = omega arith in
    rw (m, mod-eq_of_lt f) (or_shifted (a % 16) 8 b hb)

-- head the first two bytes, use the next four, value the last eight
apart : (a b u v : ℕ) → a < 256 → b < 256 → u < 2 ^ 32 → v < 2 ^ 64
    → split (((a * 256 + b) * 2 ^ 32 + u) * 2 ^ 64 + v) ≡ record { operation = a / 16; place = record { 0 = a % 16 * 256 + b }; uses = u; value = v }
apart a b u v ha hb hu hv = λ i. record { operation = o i; place = record { 0 = p i }; uses = q i; value = r i }
  where
    n : ℕ
    n = ((a * 256 + b) * 2 ^ 32 + u) * 2 ^ 64 + v

    o : n / 2 ^ 108 ≡ a / 16
    o = omega arith

    p : n / 2 ^ 96 % 2 ^ 12 ≡ a % 16 * 256 + b
    p = omega arith

    q : n / 2 ^ 64 % 2 ^ 32 ≡ u
    q = omega arith

    r : n % 2 ^ 64 ≡ v
    r = omega arith

-- four bytes from the i-th on, as one number
abbrev pub four : List ℕ → ℕ → ℕ
four l i = ((get_or l i 0 * 256 + get_or l (i + 1) 0) * 256 + get_or l (i + 2) 0) * 256 + get_or l (i + 3) 0

-- the i-th of n bytes from the k-th on
among : (l t : List ℕ) (k n : ℕ) → t ≡ take n (drop k l) → (i : ℕ) → i < n → get_or t i 0 ≡ get_or l (k + i) 0
among l t k n e i h = ap (λ (s : List ℕ). get_or s i 0) e ∙ get_or-take n (drop k l) i 0 h ∙ get_or-drop k l i 0

-- the place from the lower half of the first byte and the second, the use from four bytes, the value from eight
pub read_off : (l t : List ℕ) (p u v : ℕ) → get_or l 0 0 < 256 → get_or l 1 0 < 256 → u < 2 ^ 32 → v < 2 ^ 64
    → t ≡ take 8 (drop 6 l)
    → p ≡ from_be_bytes w16 (bit_and (get_or l 0 0) 15 ∷ get_or l 1 0 ∷ [])
    → u ≡ from_be_bytes w32 (get_or l 2 0 ∷ get_or l 3 0 ∷ get_or l 4 0 ∷ get_or l 5 0 ∷ []) → v ≡ from_be_bytes w64 t
    → record { operation = get_or l 0 0 / 16; place = record { 0 = p }; uses = u; value = v } ≡ fields_of l
unfolding fields_of
read_off l t p u v ha hb hu hv et ep eu ev =
    let a : p ≡ get_or l 0 0 % 16 * 256 + get_or l 1 0 = omega (arith, ep, and_mask (get_or l 0 0) 4) in
    let g = among l t 6 8 et in
    let whole : ((get_or l 0 0 * 256 + get_or l 1 0) * 2 ^ 32 + u) * 2 ^ 64 + v ≡ joined 14 l =
    omega (arith, eu, ev, g 0 (omega arith), g 1 (omega arith), g 2 (omega arith), g 3 (omega arith), g 4 (omega arith), g 5 (omega arith), g 6 (omega arith), g 7 (omega arith))
    in
    rw a (sym (apart (get_or l 0 0) (get_or l 1 0) u v ha hb hu hv) ∙ ap split whole)
