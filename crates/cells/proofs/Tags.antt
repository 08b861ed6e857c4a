-- The tags are small, and an enum is made again of its parts.
-- Assumes nothing.
use mathlib.Core.Path.{◌≡◌, refl, sym}
use mathlib.Core.Bool.{Bool, true, false, cond, ◌||◌}
use Prim.Native.Nat.{ℕ, zero, suc, ◌+◌, ◌*◌, ◌<◌, ◌≤◌}
use native.Mathlib.Omega.{arith}
use lib.Dec.{eqb, ltb}
use borrow.Author.Tests.{eqb-true, ltb-true}
use mir.Val.{bool_byte}
use Rattle.std.specs.Prelude.{Option, Some, None}
use Rattle.heap.specs.declared.Place.{Place}
use Rattle.heap.specs.declared.Slot.{Slot}
use Rattle.theory.specs.Tests.{bit}
use Rattle.heap.specs.Capacity.{cap}
use Rattle.heap.specs.declared.SlotState.TheVariants.{Full, Empty}
use Rattle.state.specs.declared.Life.{Life}
use Rattle.state.specs.declared.Life.TheVariants.{Free, Live, Cancelled, Retired}
use Rattle.state.specs.declared.Waiting.{Waiting}
use Rattle.state.specs.declared.Waiting.TheVariants.{No, Last, Before}
use Rattle.cells.specs.Ranges.{StateIn}
use Rattle.cells.specs.Parts.{slot_number, state_from, life_parts, life_from, waiting_parts, waiting_from, held_parts, held_from, first_parts, first_from}

pub life_small : (l : Life) → (life_parts l).tag ≤ 3
life_small Free = omega arith
life_small (Live w d) = omega arith
life_small (Cancelled w) = omega arith
life_small Retired = omega arith

pub waiting_small : (w : Waiting) → (waiting_parts w).tag ≤ 2
waiting_small No = omega arith
waiting_small Last = omega arith
waiting_small (Before p) = omega arith

pub held_small : (h : Option Slot) → (held_parts h).tag ≤ 1
held_small None = omega arith
held_small (Some s) = omega arith

pub first_small : (f : Option Place) → (first_parts f).tag ≤ 1
first_small None = omega arith
first_small (Some p) = omega arith

pub life_again : (l : Life) → life_from (life_parts l).tag (life_parts l).word (life_parts l).due ≡ l
life_again Free = refl
life_again (Live w d) = refl
life_again (Cancelled w) = refl
life_again Retired = refl

pub waiting_again : (w : Waiting) → waiting_from (waiting_parts w).tag (waiting_parts w).number ≡ w
waiting_again No = refl
waiting_again Last = refl
waiting_again (Before p) = refl

pub held_again : (h : Option Slot) → held_from (held_parts h).tag (held_parts h).number ≡ h
held_again None = refl
held_again (Some s) = refl

pub first_again : (f : Option Place) → first_from (first_parts f).tag (first_parts f).number ≡ f
first_again None = refl
first_again (Some p) = refl

-- a mark as the code casts it
pub mark_bit : (b : Bool) → bool_byte b ≡ bit b
mark_bit true = refl
mark_bit false = refl

pub bit_small : (b : Bool) → bit b ≤ 1
bit_small true = omega arith
bit_small false = omega arith

pub bit_again : (b : Bool) → eqb (bit b) 1 ≡ b
bit_again true = refl
bit_again false = refl

-- the parts of what was made of parts, where what a case does not hold is 0
pub life_back : (t w d : ℕ) → t ≤ 3 → (eqb t 1 || eqb t 2 || eqb w 0) ≡ true → (eqb t 1 || eqb d 0) ≡ true
    → life_parts (life_from t w d) ≡ record { tag = t; word = w; due = d }
life_back zero w d q e f = λ k. record { tag = 0; word = sym (eqb-true w 0 e) k; due = sym (eqb-true d 0 f) k }
life_back (suc zero) w d q e f = refl
life_back (suc (suc zero)) w d q e f = λ k. record { tag = 2; word = w; due = sym (eqb-true d 0 f) k }
life_back (suc (suc (suc zero))) w d q e f = λ k. record { tag = 3; word = sym (eqb-true w 0 e) k; due = sym (eqb-true d 0 f) k }
life_back (suc (suc (suc (suc t)))) w d q e f = absurd (omega arith)

pub waiting_back : (t p : ℕ) → t < 3 → (eqb t 2 || eqb p 0) ≡ true → waiting_parts (waiting_from t p) ≡ record { tag = t; number = p }
waiting_back zero p q e = λ k. record { tag = 0; number = sym (eqb-true p 0 e) k }
waiting_back (suc zero) p q e = λ k. record { tag = 1; number = sym (eqb-true p 0 e) k }
waiting_back (suc (suc zero)) p q e = refl
waiting_back (suc (suc (suc t))) p q e = absurd (omega arith)

pub held_back : (t s : ℕ) → t < 2 → (eqb t 1 || eqb s 0) ≡ true → held_parts (held_from t s) ≡ record { tag = t; number = s }
held_back zero s q e = λ k. record { tag = 0; number = sym (eqb-true s 0 e) k }
held_back (suc zero) s q e = refl
held_back (suc (suc t)) s q e = absurd (omega arith)

pub first_back : (t p : ℕ) → t < 2 → (eqb t 1 || eqb p 0) ≡ true → first_parts (first_from t p) ≡ record { tag = t; number = p }
first_back zero p q e = λ k. record { tag = 0; number = sym (eqb-true p 0 e) k }
first_back (suc zero) p q e = refl
first_back (suc (suc t)) p q e = absurd (omega arith)

pub bit_back : (n : ℕ) → n < 2 → bit (eqb n 1) ≡ n
bit_back zero q = refl
bit_back (suc zero) q = refl
bit_back (suc (suc n)) q = absurd (omega arith)

pub state_back : (t n : ℕ) → t < 2 → slot_number (state_from t n) ≡ t * 32768 + n
state_back zero n q = omega arith
state_back (suc zero) n q = refl
state_back (suc (suc t)) n q = absurd (omega arith)

pub state_in : (t n : ℕ) → n ≤ cap → (eqb t 0 || ltb n cap) ≡ true → StateIn (state_from t n)
state_in t n q e = go (eqb t 0) e
  where
    go : (b : Bool) → (b || ltb n cap) ≡ true → StateIn (cond b (Empty (record { 0 = n })) (Full (record { 0 = n })))
    go true e = q
    go false e = ltb-true n cap e

-- what a case does not hold is 0
pub life_none : (l : Life) → (let p = life_parts l in (eqb p.tag 1 || eqb p.tag 2 || eqb p.word 0)) ≡ true
life_none Free = refl
life_none (Live w d) = refl
life_none (Cancelled w) = refl
life_none Retired = refl

pub due_none : (l : Life) → (eqb (life_parts l).tag 1 || eqb (life_parts l).due 0) ≡ true
due_none Free = refl
due_none (Live w d) = refl
due_none (Cancelled w) = refl
due_none Retired = refl

pub waiting_none : (w : Waiting) → (eqb (waiting_parts w).tag 2 || eqb (waiting_parts w).number 0) ≡ true
waiting_none No = refl
waiting_none Last = refl
waiting_none (Before p) = refl

pub held_none : (h : Option Slot) → (eqb (held_parts h).tag 1 || eqb (held_parts h).number 0) ≡ true
held_none None = refl
held_none (Some s) = refl

pub first_none : (f : Option Place) → (eqb (first_parts f).tag 1 || eqb (first_parts f).number 0) ≡ true
first_none None = refl
first_none (Some p) = refl
