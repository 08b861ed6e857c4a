-- The bytes of each kind of record pass their test, and the record is read again from them.
-- Assumes nothing.
use mathlib.Core.Path.{◌≡◌, refl, ap, ◌∙◌}
use mathlib.Core.Bool.{Bool, true, ◌||◌}
use mathlib.Core.List.{List, ◌++◌}
use Prim.Native.Nat.{ℕ, ◌+◌, ◌*◌, ◌/◌, ◌%◌, ◌^◌, ◌<◌, ◌≤◌}
use native.Mathlib.Omega.{arith}
use lib.Dec.{eqb, ltb}
use borrow.Author.Tests.{lt-ltb}
use Rattle.theory.specs.Tests.{bit}
use Rattle.theory.proofs.Tests.{true_ref}
use Rattle.heap.specs.Capacity.{cap}
use Rattle.heap.specs.declared.Entry.{Entry}
use Rattle.heap.specs.declared.SlotState.{SlotState}
use Rattle.heap.specs.declared.SlotState.TheVariants.{Full, Empty}
use Rattle.heap.specs.declared.SlabSlot.{SlabSlot}
use Rattle.state.specs.declared.Timer.{Timer}
use Rattle.digits.specs.Digits.{digits, value_at, Stands}
use Rattle.digits.proofs.Digits.{value_digits, field, behind}
use Rattle.cells.specs.declared.Header.{Header}
use Rattle.cells.specs.Parts.{slot_number, state_from, life_parts, life_from, waiting_parts, waiting_from, held_parts, held_from, first_parts, first_from}
use Rattle.cells.specs.Cells.{marks_of, header_bytes, header_of, entry_bytes, entry_of, slot_bytes, slot_of, tags_of, timer_bytes, timer_of}
use Rattle.cells.specs.Fine.{header_spare, header_range, header_clear, header_in, entry_spare, entry_range, entry_clear, entry_in, slot_spare, slot_range, slot_clear, slot_in, timer_spare, timer_range, timer_clear, timer_in}
use Rattle.cells.specs.Ranges.{HeaderIn, EntryIn, StateIn, TimerIn}
use Rattle.cells.proofs.Tags.{life_small, waiting_small, held_small, first_small, bit_small, life_again, waiting_again, held_again, first_again, bit_again, life_none, due_none, waiting_none, held_none, first_none}
use Rattle.cells.proofs.Tables.{header_spare_lem, header_range_lem, entry_spare_lem, entry_range_lem, slot_spare_lem, slot_range_lem, timer_spare_lem, timer_range_lem}

-- the bytes pass, and are read as the record
pub record Again {A : Type 0} (spare range : Bool) (read x : A) : Type 0 where
  pub clear : spare ≡ true
  pub within : range ≡ true
  pub again : read ≡ x

-- two marks, and three tags, in one byte
marks_apart : (a b : ℕ) → a ≤ 1 → b ≤ 1 → ((a * 2 + b) / 4 ≡ 0) × ((a * 2 + b) / 2 % 2 ≡ a) × ((a * 2 + b) % 2 ≡ b)
marks_apart a b p q = (omega arith, omega arith, omega arith)

tags_apart : (a b c : ℕ) → b ≤ 2 → c ≤ 1
    → ((a * 64 + b * 4 + c * 2) / 64 ≡ a) × ((a * 64 + b * 4 + c * 2) / 4 % 4 ≡ b) × ((a * 64 + b * 4 + c * 2) / 2 % 2 ≡ c)
tags_apart a b c p q = (omega arith, omega arith, omega arith)

tags_clear : (a b c : ℕ) → b ≤ 2 → c ≤ 1 → ((a * 64 + b * 4 + c * 2) / 16 % 4 ≡ 0) × ((a * 64 + b * 4 + c * 2) % 2 ≡ 0)
tags_clear a b c p q = (omega arith, omega arith)

-- a count in 9 bits of 16
count_clear : (n : ℕ) → n ≤ cap → (n / 512 ≡ 0) × (n % 512 ≤ cap)
count_clear n h = (omega arith, omega arith)

-- a slot in its number
state_again : (s : SlotState) → StateIn s → Again (slot_spare (slot_number s)) (slot_range (slot_number s)) (state_from (slot_number s / 32768) (slot_number s % 512)) s
state_again (Full p) h =
    let n = 32768 + p.0 in
    let d : n / 32768 ≡ 1 = omega arith in
    let m : n % 512 ≡ p.0 = omega arith in
    let g : n / 512 ≡ 64 = omega arith in
    record {
      clear = true_ref (slot_spare_lem n) (ap (λ (x : ℕ). x % 64) g);
      within =
          true_ref (slot_range_lem n)
          (omega arith, (λ k. eqb (d k) 0 || ltb (m k) cap) ∙ lt-ltb p.0 cap h);
      again = λ k. state_from (d k) (m k);
    }
state_again (Empty n) h =
    let d : n.0 / 32768 ≡ 0 = omega arith in
    let m : n.0 % 512 ≡ n.0 = omega arith in
    record {
      clear = true_ref (slot_spare_lem n.0) (omega arith);
      within = true_ref (slot_range_lem n.0) (omega arith, (λ k. eqb (d k) 0 || ltb (n.0 % 512) cap));
      again = λ k. state_from (d k) (m k);
    }

state_small : (s : SlotState) → StateIn s → slot_number s < 256 ^ 2
state_small (Full p) h = omega arith
state_small (Empty n) h = omega arith

module _ {l : List ℕ} {i : ℕ} where
  pub header_again : (h : Header) → HeaderIn h → Stands l i (header_bytes h) → Again (header_clear l i) (header_in l i) (header_of l i) h
  unfolding header_bytes header_of header_clear header_in
  header_again h v s0 =
      let m = marks_of h in
      let f = first_parts h.first in
      let t5 = digits 2 h.free.0 in
      let t4 = digits 2 h.made ++ t5 in
      let t3 = digits 2 h.len ++ t4 in
      let t2 = digits 1 f.number ++ t3 in
      let t1 = digits 1 m ++ t2 in
      let s1 : Stands l (i + 1) t1 = behind 1 1 (i + 1) t1 refl s0 in
      let s2 : Stands l (i + 2) t2 = behind 1 m (i + 2) t2 (omega arith) s1 in
      let s3 : Stands l (i + 3) t3 = behind 1 f.number (i + 3) t3 (omega arith) s2 in
      let s4 : Stands l (i + 5) t4 = behind 2 h.len (i + 5) t4 (omega arith) s3 in
      let s5 : Stands l (i + 7) t5 = behind 2 h.made (i + 7) t5 (omega arith) s4 in
      let n0 : value_at 1 l i ≡ 1 = field 1 1 t1 (omega arith) s0 in
      let n1 : value_at 1 l (i + 1) ≡ m = field 1 m t2 (omega (arith, bit_small h.closed, first_small h.first)) s1 in
      let n2 : value_at 1 l (i + 2) ≡ f.number = field 1 f.number t3 (omega (arith, v.first_in)) s2 in
      let n3 : value_at 2 l (i + 3) ≡ h.len = field 2 h.len t4 (omega (arith, v.len_in)) s3 in
      let n4 : value_at 2 l (i + 5) ≡ h.made = field 2 h.made t5 (omega (arith, v.made_in)) s4 in
      let n5 : value_at 2 l (i + 7) ≡ h.free.0 = value_digits 2 h.free.0 (omega (arith, v.free_in)) s5 in
      let a = marks_apart (bit h.closed) f.tag (bit_small h.closed) (first_small h.first) in
      let x = count_clear h.len v.len_in in
      let y = count_clear h.made v.made_in in
      let z = count_clear h.free.0 v.free_in in
      let head : first_from (value_at 1 l (i + 1) % 2) (value_at 1 l (i + 2)) ≡ h.first =
      (λ k. first_from (n1 k % 2) (n2 k)) ∙ ap (λ (t : ℕ). first_from t f.number) a.2 ∙ first_again h.first
      in
      let shut : eqb (value_at 1 l (i + 1) / 2 % 2) 1 ≡ h.closed =
      ap (λ (t : ℕ). eqb (t / 2 % 2) 1) n1 ∙ ap (λ (t : ℕ). eqb t 1) a.1 ∙ bit_again h.closed
      in
      let none : (eqb (m % 2) 1 || eqb f.number 0) ≡ true = ap (λ (t : ℕ). eqb t 1 || eqb f.number 0) a.2 ∙ first_none h.first in
      record {
        clear =
            (λ k. header_spare (n1 k) (n2 k) (n3 k) (n4 k) (n5 k))
            ∙ true_ref (header_spare_lem m f.number h.len h.made h.free.0) ((((a.0, none), x.0), y.0), z.0);
        within =
            (λ k. header_range (n0 k) (n2 k) (n3 k) (n4 k) (n5 k))
            ∙ true_ref (header_range_lem 1 f.number h.len h.made h.free.0) ((((refl, v.first_in), x.1), y.1), z.1);
        again = λ k. record { closed = shut k; first = head k; len = n3 k; made = n4 k; free = record { 0 = n5 k } };
      }

  pub entry_again : (e : Entry) → EntryIn e → Stands l i (entry_bytes e) → Again (entry_clear l i) (entry_in l i) (entry_of l i) e
  unfolding entry_bytes entry_of entry_clear entry_in
  entry_again e h s0 =
      let t3 = digits 1 e.slot.0 in
      let t2 = digits 1 e.place.0 ++ t3 in
      let t1 = digits 4 e.generation ++ t2 in
      let s1 : Stands l (i + 8) t1 = behind 8 e.at (i + 8) t1 refl s0 in
      let s2 : Stands l (i + 12) t2 = behind 4 e.generation (i + 12) t2 (omega arith) s1 in
      let s3 : Stands l (i + 13) t3 = behind 1 e.place.0 (i + 13) t3 (omega arith) s2 in
      let a : value_at 8 l i ≡ e.at = field 8 e.at t1 h.at_in s0 in
      let g : value_at 4 l (i + 8) ≡ e.generation = field 4 e.generation t2 (omega (arith, h.generation_in)) s1 in
      let p : value_at 1 l (i + 12) ≡ e.place.0 = field 1 e.place.0 t3 (omega (arith, h.place_in)) s2 in
      let q : value_at 1 l (i + 13) ≡ e.slot.0 = value_digits 1 e.slot.0 (omega (arith, h.slot_in_range)) s3 in
      record {
        clear = (λ k. entry_spare (g k)) ∙ true_ref (entry_spare_lem e.generation) (omega (arith, h.generation_in));
        within = (λ k. entry_range (p k) (q k)) ∙ true_ref (entry_range_lem e.place.0 e.slot.0) (h.place_in, h.slot_in_range);
        again = λ k. record { at = a k; generation = g k; place = record { 0 = p k }; slot = record { 0 = q k } };
      }

  pub slot_again : (s : SlabSlot) → StateIn s.state → Stands l i (slot_bytes s) → Again (slot_clear l i) (slot_in l i) (slot_of l i) s
  unfolding slot_bytes slot_of slot_clear slot_in
  slot_again s h t =
      let n : value_at 2 l i ≡ slot_number s.state = value_digits 2 (slot_number s.state) (state_small s.state h) t in
      let a = state_again s.state h in
      let e : state_from (value_at 2 l i / 32768) (value_at 2 l i % 512) ≡ s.state = (λ k. state_from (n k / 32768) (n k % 512)) ∙ a.again in
      record { clear = ap slot_spare n ∙ a.clear; within = ap slot_range n ∙ a.within; again = λ k. record { state = e k } }

  pub timer_again : (t : Timer) → TimerIn t → Stands l i (timer_bytes t) → Again (timer_clear l i) (timer_in l i) (timer_of l i) t
  unfolding timer_bytes timer_of timer_clear timer_in
  timer_again t h s0 =
      let f = life_parts t.life in
      let b = waiting_parts t.waiting in
      let o = held_parts t.held in
      let m = tags_of t in
      let t5 = digits 8 f.due in
      let t4 = digits 4 f.word ++ t5 in
      let t3 = digits 4 t.uses ++ t4 in
      let t2 = digits 1 o.number ++ t3 in
      let t1 = digits 1 b.number ++ t2 in
      let s1 : Stands l (i + 1) t1 = behind 1 m (i + 1) t1 refl s0 in
      let s2 : Stands l (i + 2) t2 = behind 1 b.number (i + 2) t2 (omega arith) s1 in
      let s3 : Stands l (i + 3) t3 = behind 1 o.number (i + 3) t3 (omega arith) s2 in
      let s4 : Stands l (i + 7) t4 = behind 4 t.uses (i + 7) t4 (omega arith) s3 in
      let s5 : Stands l (i + 11) t5 = behind 4 f.word (i + 11) t5 (omega arith) s4 in
      let small : m < 256 ^ 1 = omega (arith, life_small t.life, waiting_small t.waiting, held_small t.held) in
      let n : value_at 1 l i ≡ m = field 1 m t1 small s0 in
      let p : value_at 1 l (i + 1) ≡ b.number = field 1 b.number t2 (omega (arith, h.next_in_range)) s1 in
      let q : value_at 1 l (i + 2) ≡ o.number = field 1 o.number t3 (omega (arith, h.slot_in_range)) s2 in
      let u : value_at 4 l (i + 3) ≡ t.uses = field 4 t.uses t4 h.uses_in s3 in
      let x : value_at 4 l (i + 7) ≡ f.word = field 4 f.word t5 h.word_in s4 in
      let d : value_at 8 l (i + 11) ≡ f.due = value_digits 8 f.due h.due_in s5 in
      let a = tags_apart f.tag b.tag o.tag (waiting_small t.waiting) (held_small t.held) in
      let z = tags_clear f.tag b.tag o.tag (waiting_small t.waiting) (held_small t.held) in
      let la : life_from (value_at 1 l i / 64) (value_at 4 l (i + 7)) (value_at 8 l (i + 11)) ≡ t.life =
      (λ k. life_from (n k / 64) (x k) (d k)) ∙ ap (λ (y : ℕ). life_from y f.word f.due) a.0 ∙ life_again t.life
      in
      let wa : waiting_from (value_at 1 l i / 4 % 4) (value_at 1 l (i + 1)) ≡ t.waiting =
      (λ k. waiting_from (n k / 4 % 4) (p k)) ∙ ap (λ (y : ℕ). waiting_from y b.number) a.1 ∙ waiting_again t.waiting
      in
      let ha : held_from (value_at 1 l i / 2 % 2) (value_at 1 l (i + 2)) ≡ t.held =
      (λ k. held_from (n k / 2 % 2) (q k)) ∙ ap (λ (y : ℕ). held_from y o.number) a.2 ∙ held_again t.held
      in
      let wn : (eqb (m / 4 % 4) 2 || eqb b.number 0) ≡ true = ap (λ (y : ℕ). eqb y 2 || eqb b.number 0) a.1 ∙ waiting_none t.waiting in
      let hn : (eqb (m / 2 % 2) 1 || eqb o.number 0) ≡ true = ap (λ (y : ℕ). eqb y 1 || eqb o.number 0) a.2 ∙ held_none t.held in
      let ln : (eqb (m / 64) 1 || eqb (m / 64) 2 || eqb f.word 0) ≡ true =
      ap (λ (y : ℕ). eqb y 1 || eqb y 2 || eqb f.word 0) a.0 ∙ life_none t.life
      in
      let dn : (eqb (m / 64) 1 || eqb f.due 0) ≡ true = ap (λ (y : ℕ). eqb y 1 || eqb f.due 0) a.0 ∙ due_none t.life in
      let three : m / 4 % 4 < 3 = omega (arith, a.1, waiting_small t.waiting) in
      record {
        clear =
            (λ k. timer_spare (n k) (p k) (q k) (x k) (d k))
            ∙ true_ref (timer_spare_lem m b.number o.number f.word f.due) (((((z.0, z.1), wn), hn), ln), dn);
        within = (λ k. timer_range (n k) (p k) (q k)) ∙ true_ref (timer_range_lem m b.number o.number) ((three, h.next_in_range), h.slot_in_range);
        again = λ k. record { life = la k; waiting = wa k; held = ha k; uses = u k };
      }
