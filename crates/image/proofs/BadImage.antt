-- Refusal 13 in the words of docs/IMAGE.md: bytes are refused with it exactly where their length is not that of an image, where a
-- spare bit is set, or where a field is out of its range. Memory that was set to zero is.
-- Assumes nothing.
use mathlib.Core.Path.{◌≡◌, refl, sym}
use mathlib.Core.Bool.{Bool, true, false, cond, ◌&&◌}
use mathlib.Core.Option.{Option, none, some}
use mathlib.Core.Logic.{◌⊎◌, ⊎_elim, inl, inr}
use mathlib.Core.List.{List}
use Prim.Native.Nat.{ℕ, zero, suc}
use native.Mathlib.Omega.{arith}
use lib.Dec.{eqb}
use lib.ListN.{length, get_or, replicate}
use borrow.Author.Tests.{eqb-false}
use Rattle.refusals.specs.declared.fault.Fault.{Fault}
use Rattle.refusals.specs.declared.Refusal.TheVariants.{BadImage}
use Rattle.refusals.specs.Answer.{refuse}
use Rattle.theory.proofs.Tests.{is_false, and_left, and_right, true_false, ref_true}
use Rattle.state.specs.Faults.{fault_of}
use Rattle.digits.specs.Digits.{value_at}
use Rattle.cells.specs.Cells.{header_of}
use Rattle.cells.specs.Fine.{header_in}
use Rattle.cells.proofs.Tables.{header_range_lem}
use Rattle.image.specs.Image.{size, entries_at, slots_at, timers_at, entries_in, slots_in, timers_in, spare_clear, fields_in, image_fine, NoImage, set_from}
use Rattle.image.specs.Calls.{barred, read_by, read_of}
use Rattle.image.proofs.Calling.{long_unfine, read_unfine}

-- a test that is false has a part that is
false_part : (a b c : Bool) → (a && b && c) ≡ false → (a ≡ false) ⊎ (b ≡ false) ⊎ (c ≡ false)
false_part true true c e = inr (inr e)
false_part true false c e = inr (inl refl)
false_part false b c e = inl refl

unfine_reason : (l : List ℕ) → image_fine l ≡ false → NoImage l
unfolding image_fine
unfine_reason l e =
    ⊎_elim (λ a. inl (eqb-false (length l) size a)) (λ r. inr r) (false_part (eqb (length l) size) (spare_clear l) (fields_in l) e)

reason_unfine : (l : List ℕ) → NoImage l → image_fine l ≡ false
unfolding image_fine
reason_unfine l r =
    ⊎_elim (λ n. long_unfine l n)
    (λ q. ⊎_elim
    (λ a. is_false (image_fine l) (λ t. true_false (and_right (eqb (length l) size) (spare_clear l) (and_left (eqb (length l) size && spare_clear l) (fields_in l) t)) a))
    (λ b. is_false (image_fine l) (λ t. true_false (and_right (eqb (length l) size && spare_clear l) (fields_in l) t) b))
    q)
    r

-- bytes are refused with 13 for one of the three reasons
pub refused_reason : (l : List ℕ) → (read_of l).answer ≡ refuse BadImage → NoImage l
unfolding read_of
refused_reason l e = go (image_fine l) refl (fault_of (set_from l)) e
  where
    go : (b : Bool) → image_fine l ≡ b → (o : Option Fault) → (cond b (read_by (set_from l) o) (barred BadImage)).answer ≡ refuse BadImage → NoImage l
    go true f none e = let z : ◌≡◌ {A = ℕ} 0 1 = cc in absurd (omega arith)
    go true f (some x) e = let z : ◌≡◌ {A = ℕ} 0 1 = cc in absurd (omega arith)
    go false f o e = unfine_reason l f

-- and for each of them
pub reason_refused : (l : List ℕ) → NoImage l → read_of l ≡ barred BadImage
reason_refused l r = sym (read_unfine l (reason_unfine l r))

-- bytes of another length, as of an image of another capacity
pub long_refused : (l : List ℕ) → (length l ≡ size → ⊥) → read_of l ≡ barred BadImage
long_refused l n = reason_refused l (inl n)

-- bytes that begin with another format's number than 1
pub format_refused : (l : List ℕ) → (get_or l 0 0 ≡ 1 → ⊥) → read_of l ≡ barred BadImage
unfolding fields_in header_in
format_refused l n =
    reason_refused l
    (inr
    (inr
    (is_false (fields_in l)
    (λ t.
    let i = header_of l 0 in
    let a3 = and_left (header_in l 0 && entries_in l entries_at i.len && slots_in l slots_at i.made) (timers_in l timers_at) t in
    let a2 = and_left (header_in l 0 && entries_in l entries_at i.len) (slots_in l slots_at i.made) a3 in
    let a1 = and_left (header_in l 0) (entries_in l entries_at i.len) a2 in
    let f = (ref_true (header_range_lem (value_at 1 l 0) (value_at 1 l 2) (value_at 2 l 3) (value_at 2 l 5) (value_at 2 l 7)) a1).0.0.0.0 in
    n (omega (arith, f))))))

-- memory that was set to zero is no image, however long
pub zeros_refused : (n : ℕ) → read_of (replicate n 0) ≡ barred BadImage
zeros_refused n = format_refused (replicate n 0) (λ e. none n e)
  where
    none : (n : ℕ) → get_or {A = ℕ} (replicate n 0) 0 0 ≡ 1 → ⊥
    none zero e = omega arith
    none (suc n) e = omega arith
