-- Each test that a call on a heap makes is a row of the table.
-- Assumes nothing.
use mathlib.Core.Path.{◌≡◌, refl, sym, ap, ◌∙◌}
use mathlib.Core.Bool.{Bool, true, false, not, cond, ◌||◌}
use mathlib.Core.Option.{Option, none, some}
use Prim.Native.Nat.{ℕ, ◌≤◌}
use native.Mathlib.Omega.{arith}
use lib.Dec.{ltb, eqb}
use borrow.Author.Tests.{lt-ltb}
use Rattle.theory.proofs.Tests.{ref_lt, ref_eq, true_ref, false_ref, by-ref, cond-ref}
use Rattle.refusals.specs.declared.fault.Fault.{Fault}
use Rattle.theory.specs.Chain.{clear}
use Rattle.refusals.specs.Answer.{accepted, refused, Outcome, kept}
use Rattle.heap.specs.Capacity.{cap}
use Rattle.heap.specs.declared.Slot.{Slot}
use Rattle.heap.specs.declared.Place.{Place}
use Rattle.heap.specs.declared.SlotState.{SlotState}
use Rattle.heap.specs.declared.SlotState.TheVariants.{Full, Empty}
use Rattle.heap.specs.declared.Heap.{Heap}
use Rattle.heap.specs.Rules.{entry_at, state_at, slot_at, pushed_of}
use Rattle.heap.specs.Faults.{fault_of, consistent_of}
use Rattle.heap.specs.Calls.{Off, passing, guard_of, guarded_by, guarded, push_gives, push_sound, remove_by, remove_sound, pop_sound, peek_sound, peek_by, peek_of}
use Rattle.heap.proofs.Testing.Test.{tested_len, tested_forth}
use Rattle.promises.specs.Conditions.{inconsistent, holds_all, is_empty, vacant}
use Rattle.promises.specs.Table.{refusal_in}
use Rattle.promises.proofs.Refusing.Rows.{at_least}

module _ (h : Heap) where
  -- 1: the test of the heap; what comes after may take it that the heap passed
  pub inconsistent_row : {A : Type 0} (o : Outcome Heap A) (rest : Option ℕ) → (consistent_of h ≡ true → refusal_in o.answer ≡ rest)
      → refusal_in (guarded h o).answer ≡ cond (inconsistent h) (some 1) rest
  unfolding guard_of consistent_of
  inconsistent_row o rest more = go (fault_of h) more
    where
      go : (x : Option Fault) → (clear x ≡ true → refusal_in o.answer ≡ rest) → refusal_in (guarded_by h o (passing x)).answer ≡ cond (not (clear x)) (some 1) rest
      go none m = m refl
      go (some f) m = refl

  -- the same of a peek, which hands no heap back and has no other row
  pub peek_row : refusal_in (peek_of h) ≡ cond (inconsistent h) (some 1) none
  unfolding guard_of consistent_of peek_sound
  peek_row = go (fault_of h) (eqb h.len 0)
    where
      go : (x : Option Fault) (e : Bool)
          → refusal_in (peek_by (cond e (accepted none) (accepted (some (entry_at h 0)))) (passing x)) ≡ cond (not (clear x)) (some 1) none
      go none true = refl
      go none false = refl
      go (some f) e = refl

  -- 4: a heap that passed has no more entries than the capacity, so it has room but where it holds as many
  pub push_row : (at g : ℕ) (place : Place) → consistent_of h ≡ true → refusal_in (push_sound h at g place).answer ≡ cond (holds_all h) (some 4) none
  unfolding push_sound
  push_row at g place e = rw at_cap (go (ltb h.len cap))
    where
      most : h.len ≤ cap
      most = tested_len h e

      at_cap : holds_all h ≡ not (ltb h.len cap)
      at_cap =
          by-ref (ref_lt h.len cap) (λ l. false_ref (ref_eq h.len cap) (λ q. omega arith) ∙ sym (ap not (true_ref (ref_lt h.len cap) l)))
          (λ l. true_ref (ref_eq h.len cap) (omega (arith, most)) ∙ sym (ap not (false_ref (ref_lt h.len cap) l)))

      go : (b : Bool) → refusal_in (cond b (push_gives h.free (pushed_of h at g place)) (kept h (refused 4))).answer ≡ cond (not b) (some 4) none
      go true = refl
      go false = refl

  -- 11: the test of the slot
  pub remove_row : (s : Slot) → refusal_in (remove_sound h s).answer ≡ cond (vacant h s) (some 11) none
  unfolding remove_sound
  remove_row s = rw (at_least s.0 h.made) (go (ltb s.0 h.made) (state_at h s.0))
    where
      go : (b : Bool) (x : SlotState) → refusal_in (cond b (remove_by h s x) (kept h (refused 11))).answer ≡ cond (not b || is_empty x) (some 11) none
      go true (Full p) = refl
      go true (Empty n) = refl
      go false x = refl

  -- a heap that passed has its head in a slot that was made and is full, so a pop is refused with nothing more
  pub pop_row : consistent_of h ≡ true → refusal_in (pop_sound h).answer ≡ none
  unfolding pop_sound remove_sound
  pop_row e =
      cond-ref (λ (o : Outcome Heap Off). refusal_in o.answer ≡ none) (ref_eq h.len 0) (λ _. refl)
      (λ n. let f = tested_forth h e 0 (omega arith) in simp (lt-ltb (slot_at h 0) h.made f.0, f.1))
