-- Whom the words of a report name, as text: how long a handle is, and one more behind the others.
-- Assumes nothing.
use mathlib.Core.Path.{◌≡◌, refl, sym, ap, ◌∙◌}
use mathlib.Core.Option.{some}
use mathlib.Core.List.{List, [], ◌∷◌, ◌++◌, append-nil, append_assoc}
use Prim.Native.Nat.{ℕ, ◌+◌, ◌^◌, ◌≤◌, ◌<◌}
use native.Mathlib.Numerals.{add-one}
use native.Mathlib.Omega.{arith}
use lib.ListN.{length, take, get_or, length-append}
use lib.Seq.{take-suc}
use Rattle.state.specs.declared.Handle.{Handle}
use Rattle.state.specs.Handles.{named_by}
use Rattle.state.proofs.Handles.{named_fits}
use Rattle.records.specs.Lines.{decimal, spaced, handle_text, name_text, handles_text}
use Rattle.records.proofs.Decimal.{digits_of_32}

-- how many digits the place and the use number have that a word names
pub handle_digits : (w : ℕ) (h : Handle) → named_by w ≡ some h → w < 2 ^ 64 → (length (decimal h.place.0) ≤ 10) × (length (decimal h.uses) ≤ 10)
handle_digits w h e f =
    let k = named_fits w h e f in
    (digits_of_32 h.place.0 (omega (arith, k.0)), digits_of_32 h.uses k.1)

-- a blank, and the two with a colon between them
pub handle_short : (w : ℕ) (h : Handle) → named_by w ≡ some h → w < 2 ^ 64 → length (spaced (handle_text h)) ≤ 22
handle_short w h e f = let k = handle_digits w h e f in simp length-append (omega (arith, k.0, k.1))

handles_append : (xs ys : List ℕ) → handles_text (xs ++ ys) ≡ handles_text xs ++ handles_text ys
handles_append [] ys = refl
handles_append (w ∷ xs) ys =
    ap (λ (t : List ℕ). spaced (name_text (named_by w)) ++ t) (handles_append xs ys)
    ∙ sym (append_assoc (spaced (name_text (named_by w))) (handles_text xs) (handles_text ys))

-- whom the next word names comes behind those before it
pub handles_more : (l : List ℕ) (i : ℕ) → i < length l → handles_text (take i l) ++ spaced (name_text (named_by (get_or l i 0))) ≡ handles_text (take (i + 1) l)
handles_more l i h =
    let w = get_or l i 0 in
    sym
    (ap (λ (n : ℕ). handles_text (take n l)) (add-one i) ∙ ap handles_text (take-suc l i 0 h) ∙ handles_append (take i l) (w ∷ [])
    ∙ ap (λ (t : List ℕ). handles_text (take i l) ++ t) (append-nil (spaced (name_text (named_by w)))))
