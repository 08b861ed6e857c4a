-- What each function promises of its answer r, and of the lent bytes as they are afterwards.
-- Assumes nothing.
use Rattle.std.specs.Prelude.{◌≡◌, Bool, true, false, ◌&&◌, List, ℕ, ◌+◌, ◌*◌, ltb, length, Option, MatchOption, Result, ⊤}
use Rattle.std.specs.Bool.{then_some}
use Rattle.digits.specs.Promises.{Puts}
use Rattle.digits.specs.Rows.{rows, blocks, used, all_to}
use Rattle.refusals.specs.declared.Refusal.{Refusal}
use Rattle.refusals.specs.declared.outcome.Outcome as Code
use Rattle.state.specs.declared.Set.{Set}
use Rattle.image.specs.Image.{image_of, clear_if, in_if, read_or, set_from, spare_clear, fields_in}
use Rattle.image.specs.Calls.{told_reading, read_of, told_writing, write_of}

-- the records xs of an array, each of w bytes, the first n of them in use and d for each of the others: their bytes are put
abbrev pub PutsRows : {A : Type 0} → (A → List ℕ) → A → ℕ → List A → ℕ → List ℕ → ℕ → List ℕ → ℕ → Type 0
PutsRows f d w xs n out at out' r = Puts (length xs * w) out at (blocks f (rows (used d n xs) (length xs))) out' r

-- such a record is read where its bytes pass
abbrev pub FindsRow : {A : Type 0} → (List ℕ → ℕ → Bool) → (List ℕ → ℕ → Bool) → (List ℕ → ℕ → A) → A → ℕ → Bool → List ℕ → ℕ → Option A → Type 0
FindsRow clear within read_as d w kept l i r = r ≡ then_some (clear_if clear w kept l i && in_if within kept l i) (read_or read_as d kept l i)

-- the bytes of m records one behind the other, of which n are in use: all are read where the bytes of each pass
abbrev pub rows_pass : (List ℕ → ℕ → Bool) → (List ℕ → ℕ → Bool) → ℕ → ℕ → ℕ → List ℕ → ℕ → Bool
rows_pass clear within w m n l i = all_to (λ j. clear_if clear w (ltb j n) l (i + j * w)) m && all_to (λ j. in_if within (ltb j n) l (i + j * w)) m

abbrev pub FindsRows : {A : Type 0} → (List ℕ → ℕ → Bool) → (List ℕ → ℕ → Bool) → (List ℕ → ℕ → A) → A → ℕ → ℕ → ℕ → List ℕ → ℕ → List A → Option ⊤ → Type 0
FindsRows clear within read_as d w m n l i xs r =
    MatchOption r (rows_pass clear within w m n l i ≡ false)
    (λ _. (rows_pass clear within w m n l i ≡ true) × (xs ≡ rows (λ j. read_or read_as d (ltb j n) l (i + j * w)) m))

-- the whole: looked at, and written
abbrev pub FindsSet : List ℕ → Option Set → Type 0
FindsSet l r = r ≡ then_some (spare_clear l && fields_in l) (set_from l)

abbrev pub WritesSet : Set → List ℕ → Type 0
WritesSet s out' = out' ≡ image_of s

-- the two calls
abbrev pub Reads : List ℕ → Code.Outcome Set ⊤ → Type 0
Reads l r = told_reading r ≡ read_of l

abbrev pub Writes : Set → List ℕ → List ℕ → Result ⊤ Refusal → Type 0
Writes s out out' r = told_writing out' r ≡ write_of s out
