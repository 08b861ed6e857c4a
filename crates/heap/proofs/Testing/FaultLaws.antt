-- The heap test's rules, turn by turn: what one turn of a scan over positions or slots makes of its rule.
-- Assumes nothing.
use mathlib.Core.Path.{◌≡◌, sym, ap, ◌∙◌}
use mathlib.Core.Logic.{◌≢◌}
use mathlib.Core.Bool.{Bool, true, false, not}
use mathlib.Core.Option.{Option, none, some}
use Prim.Native.Nat.{ℕ, ◌+◌, ◌-◌, ◌<◌, ◌≤◌}
use native.Mathlib.Omega.{arith}
use lib.ListN.{get_or, take}
use lib.Seq.{get_or-take}
use borrow.Author.Tests.{lt-ltb, le-ltb, eq-eqb, ne_eqb}
use Rattle.theory.specs.First.{first_bad}
use Rattle.theory.specs.Order.{parent}
use Rattle.theory.proofs.First.{first_goes, first_here, first_done}
use Rattle.refusals.specs.declared.fault.Fault.{Fault}
use Rattle.refusals.specs.Faults.{fault_by}
use Rattle.heap.specs.declared.Pos.{Pos}
use Rattle.heap.specs.declared.Slot.{Slot}
use Rattle.heap.specs.declared.SlotState.TheVariants.{Full, Empty}
use Rattle.heap.specs.declared.Heap.{Heap}
use Rattle.heap.specs.Rules.{no_slot, entry_at, state_at, slot_at, before}
use Rattle.heap.specs.Faults.{is_full, names, full_at, empty_at, position_ok, order_ok}

-- the fault of a scan that has come to i and has the numbers below the end to go
unfoldable pub scan : (ℕ → Fault) → (ℕ → Bool) → ℕ → ℕ → Option Fault
scan kind ok end i = fault_by kind (first_bad ok (end - i) i)

module _ (kind : ℕ → Fault) (ok : ℕ → Bool) where
  -- after a number that passes the scan goes on
  pub scan_goes : {end i : ℕ} → i < end → ok i ≡ true → scan kind ok end (i + 1) ≡ scan kind ok end i
  unfolding scan
  scan_goes {end} {i} l e =
      let m : end - i - 1 ≡ end - (i + 1) = omega arith in
      ap (fault_by kind) (sym (first_goes ok (end - i) i (omega arith) e ∙ ap (λ (n : ℕ). first_bad ok n (i + 1)) m))

  -- at a number that fails it stops
  pub scan_here : {end i : ℕ} → i < end → ok i ≡ false → scan kind ok end i ≡ some (kind i)
  unfolding scan
  scan_here {end} {i} l e = ap (fault_by kind) (first_here ok (end - i) i (omega arith) e)

  -- with no number left there is no fault
  pub scan_done : {end i : ℕ} → end ≤ i → scan kind ok end i ≡ none
  unfolding scan
  scan_done {end} {i} l = ap (fault_by kind) (first_done ok (end - i) i (omega arith))

module _ (h : Heap) where
  -- a slot below the n first is full as the list of these has it
  pub full_by : (n s : ℕ) {b : Bool} → s < n → is_full (get_or (take n h.slots) s no_slot).state ≡ b → full_at h s ≡ b
  unfolding full_at
  full_by n s l e = rw get_or-take at e

  -- a slot whose state is empty is not full
  pub full_no : (s : ℕ) {n : Slot} → state_at h s ≡ Empty n → full_at h s ≡ false
  unfolding full_at
  full_no s e = ap is_full e

  -- a slot that was not made is not empty
  pub empty_past : (s : ℕ) → h.made ≤ s → empty_at h s ≡ false
  unfolding empty_at
  empty_past s l = rw (le-ltb s h.made l)

  -- an entry fails whose slot was not made
  pub position_past : (i : ℕ) → h.made ≤ slot_at h i → position_ok h i ≡ false
  unfolding position_ok
  position_past i l = rw (le-ltb (slot_at h i) h.made l)

  -- an entry whose slot was made passes as the slot names its position or not
  pub position_by : (i : ℕ) {b : Bool} → slot_at h i < h.made → names (state_at h (slot_at h i)) i ≡ b → position_ok h i ≡ b
  unfolding position_ok
  position_by i l e = rw (lt-ltb (slot_at h i) h.made l) e

  -- an entry fails whose slot is empty
  pub position_empty : (i : ℕ) {n : Slot} → slot_at h i < h.made → state_at h (slot_at h i) ≡ Empty n → position_ok h i ≡ false
  position_empty i l e = position_by i l (ap (λ x. names x i) e)

  -- an entry fails whose slot names another position
  pub position_other : (i : ℕ) {p : Pos} → slot_at h i < h.made → state_at h (slot_at h i) ≡ Full p → p.0 ≢ i → position_ok h i ≡ false
  position_other i {p} l e d = position_by i l (ap (λ x. names x i) e ∙ ne_eqb p.0 i d)

  -- an entry passes whose slot is full and names its position
  pub position_yes : (i : ℕ) {p : Pos} → slot_at h i < h.made → state_at h (slot_at h i) ≡ Full p → p.0 ≡ i → position_ok h i ≡ true
  position_yes i {p} l e d = position_by i l (ap (λ x. names x i) e ∙ eq-eqb p.0 i d)

  -- an entry passes where it does not go before its parent
  pub order_not : (i : ℕ) {b : Bool} → before (entry_at h i) (entry_at h (parent i)) ≡ b → order_ok h i ≡ not b
  unfolding order_ok
  order_not i e = ap not e
