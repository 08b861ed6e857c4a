-- What reading and writing answer, case by case.
-- Assumes nothing.
use mathlib.Core.Path.{◌≡◌, refl, sym, ap, ◌∙◌}
use mathlib.Core.Bool.{Bool, true, false, cond, ◌&&◌}
use mathlib.Core.Option.{Option, none, some}
use mathlib.Core.List.{List}
use Prim.Native.Nat.{ℕ}
use lib.ListN.{length}
use borrow.Author.Tests.{eq-eqb, ne_eqb}
use Rattle.refusals.specs.declared.fault.Fault.{Fault}
use Rattle.std.specs.Prelude.{Result, Ok, Err, MatchResult, IsErrAnd, ⊤}
use Rattle.refusals.specs.declared.Refusal.{Refusal}
use Rattle.refusals.specs.declared.Refusal.TheVariants.{Unsound, BadImage}
use Rattle.refusals.specs.Faults.{said_verdict}
use Rattle.refusals.specs.Answer.{refuse, kept}
use Rattle.state.specs.Faults.{fault_of}
use Rattle.state.specs.declared.Set.{Set}
use Rattle.image.specs.Image.{size, spare_clear, fields_in, image_fine, set_from}
use Rattle.image.specs.Calls.{barred, read_by, read_of, written_by, write_of}

-- bytes of an image's length are one as their bits are
pub fine_by : (l : List ℕ) (b : Bool) → length l ≡ size → (spare_clear l && fields_in l) ≡ b → image_fine l ≡ b
unfolding image_fine
fine_by l b q e = ap (λ (t : Bool). t && spare_clear l && fields_in l) (eq-eqb (length l) size q) ∙ e

-- bytes of another length are none
pub long_unfine : (l : List ℕ) → (length l ≡ size → ⊥) → image_fine l ≡ false
unfolding image_fine
long_unfine l n = ap (λ (t : Bool). t && spare_clear l && fields_in l) (ne_eqb (length l) size n)

-- what is no image is refused with 13
pub read_unfine : (l : List ℕ) → image_fine l ≡ false → barred BadImage ≡ read_of l
unfolding read_of
read_unfine l e = ap (λ (b : Bool). cond b (read_by (set_from l) (fault_of (set_from l))) (barred BadImage)) (sym e)

-- of what is one, the set's fault decides
pub read_by_lem : (l : List ℕ) (o : Option Fault) → image_fine l ≡ true → o ≡ fault_of (set_from l) → read_by (set_from l) o ≡ read_of l
unfolding read_of
read_by_lem l o e f =
    ap (read_by (set_from l)) f ∙ ap (λ (b : Bool). cond b (read_by (set_from l) (fault_of (set_from l))) (barred BadImage)) (sym e)

-- bytes of another length are not written
pub write_long : (s : Set) (out : List ℕ) → (length out ≡ size → ⊥) → kept out (refuse BadImage) ≡ write_of s out
unfolding write_of
write_long s out n =
    ap (λ (b : Bool). cond b (written_by s out (fault_of s)) (kept out (refuse BadImage))) (sym (ne_eqb (length out) size n))

-- else the set's fault decides
pub write_by : (s : Set) (out : List ℕ) (o : Option Fault) → length out ≡ size → o ≡ fault_of s → written_by s out o ≡ write_of s out
unfolding write_of
write_by s out o q f =
    ap (written_by s out) f
    ∙ ap (λ (b : Bool). cond b (written_by s out (fault_of s)) (kept out (refuse BadImage))) (sym (eq-eqb (length out) size q))

-- a fault that is found is what a call is refused with, and a call is let through where none is
pub passed_on : {Q : Fault → Refusal → Type 0} → ((f : Fault) (why : Refusal) → Q f why → why ≡ Unsound f)
    → (r : Result ⊤ Fault) (s : Result ⊤ Refusal) → MatchResult r (λ x. s ≡ Ok x) (λ f. IsErrAnd s (Q f)) → {why : Refusal} → s ≡ Err why
    → (f : Fault) × (said_verdict r ≡ some f) × (why ≡ Unsound f)
passed_on q (Ok u) s m e = cc
passed_on q (Err f) (Ok u) m e = absurd m
passed_on q (Err f) (Err x) m e = (f, refl, let d : x ≡ _ = cc in sym d ∙ q f x m)

pub let_through : (Q : Fault → Refusal → Type 0) (r : Result ⊤ Fault) (s : Result ⊤ Refusal) → MatchResult r (λ x. s ≡ Ok x) (λ f. IsErrAnd s (Q f)) → {u : ⊤}
    → s ≡ Ok u → said_verdict r ≡ none
let_through Q (Ok v) s m e = refl
let_through Q (Err f) (Ok u) m e = absurd m
let_through Q (Err f) (Err x) m e = cc
