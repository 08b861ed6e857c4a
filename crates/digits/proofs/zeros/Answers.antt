-- Each of the bytes is asked.
-- Assumes nothing.
use mathlib.Core.Path.{◌≡◌, sym, ap, ◌∙◌}
use mathlib.Core.Bool.{Bool, ◌&&◌}
use mathlib.Core.List.{List}
use Prim.Native.Nat.{ℕ, zero, suc, ◌+◌, ◌-◌, ◌≤◌}
use native.Mathlib.Numerals.{add-one}
use native.Mathlib.Omega.{arith}
use borrow.Author.Tests.{tests}
use lib.Dec.{eqb}
use lib.ListN.{length, get_or, take, drop}
use Rattle.std.proofs.Common.{rules}
use Rattle.std.proofs.lemmas.Iterator.{YieldsList-from_slice}
use Rattle.std.proofs.lemmas.Iterator.Search.{all_from_yields_List}
use Rattle.std.proofs.lemmas.List.{get_or-drop, length-drop}
use Rattle.std.proofs.lemmas.List.Folds.{list_all_more}
use Rattle.std.specs.List.{list_all}
use Rattle.digits.specs.Digits.{zeros_at}
use Rattle.digits.proofs.Passing.{all_none, all_more}
use Rattle.digits.proofs.zeros.Goals as goal

-- whether a byte is zero
zero_byte : ℕ → Bool
zero_byte b = eqb b 0

-- the bytes one by one are the bytes by their places
asked : (l : List ℕ) (i k : ℕ) → i + k ≤ length l → list_all zero_byte (take k (drop i l)) ≡ zeros_at k l i
unfolding zero_byte
asked l i zero h = sym (all_none (λ j. eqb (get_or l (i + j) 0) 0))
asked l i (suc k) h =
    ap (λ (n : ℕ). list_all zero_byte (take n (drop i l))) (sym (add-one k))
    ∙ list_all_more zero_byte (drop i l) k 0 (omega (arith, length-drop i l))
    ∙ (λ x. asked l i k (omega arith) x && zero_byte (get_or-drop i l k 0 x))
    ∙ sym (all_more (λ j. eqb (get_or l (i + j) 0) 0) k)
    ∙ ap (λ (n : ℕ). zeros_at n l i) (add-one k)

pub returns : goal.returns
unfolding zero_byte
returns c =
    let a = c.args in
    let e : a.at + a.k - a.at ≡ a.k = omega arith in
    all_from_yields_List zero_byte _ _ c.all.result c.all.ensures.ran (YieldsList-from_slice (take (a.at + a.k - a.at) (drop a.at a.bytes.now)) cc) (λ x b q k. search (rules, tests))
    ∙ ap (λ (n : ℕ). list_all zero_byte (take n (drop a.at a.bytes.now))) e
    ∙ asked a.bytes.now a.at a.k c.requires
