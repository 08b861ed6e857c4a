-- The words of report bytes: what is written eight bytes a word, most significant first, is read so.
-- Assumes nothing.
use mathlib.Core.Path.{◌≡◌, refl, sym, ap, subst, ◌∙◌}
use mathlib.Core.List.{List, ◌++◌}
use Prim.Native.Nat.{ℕ, ◌+◌, ◌*◌, ◌/◌, ◌≤◌, ◌<◌, ◌^◌, min}
use native.Mathlib.Omega.{arith}
use lib.Dec.{leb}
use lib.ListN.{length, get_or, take, drop, replicate, length-replicate, take-append-drop}
use lib.Seq.{sets, sets-eq, drop_at, length-take-le}
use borrow.Author.Tests.{le-leb, leb-true}
use Rattle.theory.proofs.Tests.{by-ref, ref_le, is_false}
use Rattle.digits.specs.Digits.{digits, value_at, Stands}
use Rattle.digits.specs.Rows.{rows}
use Rattle.digits.proofs.Digits.{length_digits, stands_left, stands_all, value_digits}
use Rattle.digits.proofs.Rows.{rows_ext, rows_self, blocks_append, blocks_long, block_stands}
use Rattle.heap.specs.Capacity.{cap}
use Rattle.host.specs.Numbers.{room_in, list_in}
use Rattle.promises.specs.Images.{bytes_for, start_of, words_in}

-- as many bytes as eight times the words
pub bytes_long : (l : List ℕ) → length (bytes_for l) ≡ length l * 8
bytes_long l = blocks_long (digits 8) 8 (length_digits 8) l

-- the bytes that are written stand where they are written
written_stands : (t out : List ℕ) → length t ≤ length out → Stands (sets out 0 t) 0 t
written_stands t out h =
    subst (λ (x : List ℕ). Stands x 0 t) (sym (sets-eq t out 0 (omega arith)))
    (stands_left t (drop (0 + length t) out) (stands_all (t ++ drop (0 + length t) out)))

-- the words whose bytes stand there are the words that are read
words_there : (n : ℕ) (ws o : List ℕ) → length ws ≡ n → Stands o 0 (bytes_for ws) → ((i : ℕ) → i < n → get_or ws i 0 < 2 ^ 64) → words_in n o ≡ ws
words_there n ws o long there small =
    let f : ℕ → ℕ = λ j. get_or ws j 0 in
    let whole : rows f n ≡ ws = subst (λ (m : ℕ). rows f m ≡ ws) long (rows_self 0 ws) in
    let s : Stands o 0 (bytes_for (rows f n)) = subst (λ (x : List ℕ). Stands o 0 (bytes_for x)) (sym whole) there in
    rows_ext (λ j. value_at 8 o (start_of j)) f n
    (λ j b.
    let z : start_of j ≡ 0 + j * 8 = omega arith in
    let c : f j < 256 ^ 8 = omega (arith, small j b) in
    ap (value_at 8 o) z ∙ value_digits 8 (f j) c (block_stands (digits 8) 8 (length_digits 8) f n s j b))
    ∙ whole

module _ (n : ℕ) (ws : List ℕ) (long : length ws ≡ n) where
  -- the words that are written are the words that are read
  pub words_back : (out : List ℕ) → n * 8 ≤ length out → ((i : ℕ) → i < n → get_or ws i 0 < 2 ^ 64) → words_in n (sets out 0 (bytes_for ws)) ≡ ws
  words_back out fits small =
      words_there n ws (sets out 0 (bytes_for ws)) long (written_stands (bytes_for ws) out (omega (arith, bytes_long ws))) small

  -- the bytes of words that are written over those of a list are the bytes of the list with these words in front
  pub words_over : (l : List ℕ) → n ≤ length l → sets (bytes_for l) 0 (bytes_for ws) ≡ bytes_for (ws ++ drop n l)
  words_over l fits =
      let k : length (bytes_for (take n l)) ≡ n * 8 = bytes_long (take n l) ∙ ap (λ (m : ℕ). m * 8) (length-take-le n l fits) in
      let e : 0 + length (bytes_for ws) ≡ n * 8 = omega (arith, bytes_long ws) in
      let cut : bytes_for l ≡ bytes_for (take n l) ++ bytes_for (drop n l) =
      ap bytes_for (sym (take-append-drop n l)) ∙ blocks_append (digits 8) (take n l) (drop n l) in
      sets-eq (bytes_for ws) (bytes_for l) 0 (omega (arith, bytes_long ws, bytes_long l))
      ∙ (λ t. bytes_for ws ++ drop (e t) (cut t))
      ∙ ap (λ (x : List ℕ). bytes_for ws ++ x) (drop_at (bytes_for (take n l)) (bytes_for (drop n l)) (n * 8) k)
      ∙ sym (blocks_append (digits 8) ws (drop n l))

-- words of 64 bits are read of their own bytes
pub words_own : (ws : List ℕ) → ((i : ℕ) → i < length ws → get_or ws i 0 < 2 ^ 64) → words_in (length ws) (bytes_for ws) ≡ ws
words_own ws small = words_there (length ws) ws (bytes_for ws) refl (stands_all (bytes_for ws)) small

-- THE LIST THAT IS LENT FOR THEM has room exactly where the words' own list has it

list_long : (n : ℕ) → length (list_in n) ≡ room_in n
list_long n = length-take-le (room_in n) (replicate cap 0) (omega (arith, length-replicate {A = ℕ} cap 0))

pub room_same : (l : List ℕ) → leb cap (length (list_in (length (bytes_for l)))) ≡ leb cap (length l)
room_same l =
    let z = list_in (length (bytes_for l)) in
    let e : length z ≡ min (length (bytes_for l) / 8) cap = list_long (length (bytes_for l)) in
    let k : length (bytes_for l) ≡ length l * 8 = bytes_long l in
    by-ref (ref_le cap (length l))
    (λ b. le-leb cap (length z) (omega arith) ∙ sym (le-leb cap (length l) b))
    (λ n. is_false (leb cap (length z)) (λ q. let h : cap ≤ length z = leb-true cap (length z) q in n (omega arith))
    ∙ sym (is_false (leb cap (length l)) (λ q. n (leb-true cap (length l) q))))
