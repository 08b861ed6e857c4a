-- A record that is in use, or else zeros: its bytes pass and it is read again; and bytes that pass are its own.
-- Assumes nothing.
use mathlib.Core.Path.{◌≡◌, refl, ap, sym, subst, ◌∙◌}
use mathlib.Core.Bool.{Bool, true, false, cond}
use mathlib.Core.List.{List}
use Prim.Native.Nat.{ℕ, ◌<◌}
use lib.Dec.{ltb}
use lib.ListN.{replicate}
use Rattle.heap.specs.Rules.{no_entry}
use Rattle.heap.specs.declared.Entry.{Entry}
use Rattle.heap.specs.declared.SlabSlot.{SlabSlot}
use Rattle.digits.specs.Digits.{Bytes, Stands}
use Rattle.digits.specs.Rows.{rows, used}
use Rattle.digits.proofs.Digits.{zeros_stand, stand_zeros}
use Rattle.digits.proofs.Rows.{rows_at}
use Rattle.cells.specs.Cells.{zero_slot, entry_bytes, entry_of, slot_bytes, slot_of}
use Rattle.cells.specs.Fine.{entry_clear, entry_in, slot_clear, slot_in}
use Rattle.cells.specs.Ranges.{EntryIn, StateIn}
use Rattle.cells.proofs.Again.{Again, entry_again, slot_again}
use Rattle.cells.proofs.Standing.{entry_stands, slot_stands}
use Rattle.image.specs.Image.{clear_if, in_if, read_or, entry_or, slot_or, entry_clear_if, slot_clear_if, entry_in_if, slot_in_if}

-- what is not in use is zeros
entry_zeros : entry_bytes no_entry ≡ replicate 14 0
unfolding entry_bytes
entry_zeros = refl

slot_zeros : slot_bytes zero_slot ≡ replicate 2 0
unfolding slot_bytes
slot_zeros = refl

module _ {l : List ℕ} {i : ℕ} where
  -- a record of any kind: f has its bytes, of which there are w, and those of d are zeros
  if_again : {A : Type 0} (f : A → List ℕ) (clear within : List ℕ → ℕ → Bool) (of : List ℕ → ℕ → A) (d : A) (w : ℕ) → f d ≡ replicate w 0 → (b : Bool) (x : A)
      → (b ≡ true → Stands l i (f x) → Again (clear l i) (within l i) (of l i) x) → Stands l i (f (cond b x d))
      → Again (clear_if clear w b l i) (in_if within b l i) (read_or of d b l i) (cond b x d)
  if_again f clear within of d w z true x h s = h refl s
  if_again f clear within of d w z false x h s = record {
    clear = stand_zeros w l i (subst (λ (t : List ℕ). Stands l i t) z s);
    within = refl;
    again = refl;
  }

  pub entry_if_again : (b : Bool) (e : Entry) → (b ≡ true → EntryIn e) → Stands l i (entry_bytes (cond b e no_entry))
      → Again (entry_clear_if b l i) (entry_in_if b l i) (entry_or b l i) (cond b e no_entry)
  entry_if_again b e h s = if_again entry_bytes entry_clear entry_in entry_of no_entry 14 entry_zeros b e (λ q. entry_again e (h q)) s

  pub slot_if_again : (b : Bool) (x : SlabSlot) → (b ≡ true → StateIn x.state) → Stands l i (slot_bytes (cond b x zero_slot))
      → Again (slot_clear_if b l i) (slot_in_if b l i) (slot_or b l i) (cond b x zero_slot)
  slot_if_again b x h s = if_again slot_bytes slot_clear slot_in slot_of zero_slot 2 slot_zeros b x (λ q. slot_again x (h q)) s

module _ (l : List ℕ) (y : Bytes l) (i : ℕ) where
  pub entry_if_stands : (b : Bool) → entry_clear_if b l i ≡ true → Stands l i (entry_bytes (entry_or b l i))
  entry_if_stands true e = entry_stands l y i
  entry_if_stands false e = subst (λ (t : List ℕ). Stands l i t) (sym entry_zeros) (zeros_stand 14 l i e)

  pub slot_if_stands : (b : Bool) → slot_clear_if b l i ≡ true → Stands l i (slot_bytes (slot_or b l i))
  slot_if_stands true e = slot_stands l y i e
  slot_if_stands false e = subst (λ (t : List ℕ). Stands l i t) (sym slot_zeros) (zeros_stand 2 l i e)

module _ {A : Type 0} where
  -- the records in use of records that are zero where they are not in use
  pub used_twice : (d : A) (n m : ℕ) (f : ℕ → A) (j : ℕ) → j < m → used d n (rows (λ j. cond (ltb j n) (f j) d) m) j ≡ cond (ltb j n) (f j) d
  used_twice d n m f j q =
      ap (λ (x : A). cond (ltb j n) x d) (rows_at (λ j. cond (ltb j n) (f j) d) m j d q) ∙ go (ltb j n)
    where
      go : (b : Bool) → cond b (cond b (f j) d) d ≡ cond b (f j) d
      go true = refl
      go false = refl
