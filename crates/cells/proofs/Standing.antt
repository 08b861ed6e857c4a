-- Bytes that pass their test are those of the record that they are read as, and its numbers fit.
-- Assumes nothing.
use mathlib.Core.Path.{◌≡◌, refl, ap, sym, ◌∙◌}
use mathlib.Core.Bool.{true}
use mathlib.Core.List.{List}
use Prim.Native.Nat.{ℕ, ◌+◌, ◌*◌, ◌/◌, ◌%◌, ◌^◌, ◌<◌}
use native.Mathlib.Omega.{arith}
use lib.Dec.{eqb}
use Rattle.theory.specs.Tests.{bit}
use Rattle.theory.proofs.Tests.{ref_true}
use Rattle.heap.specs.Capacity.{cap}
use Rattle.digits.specs.Digits.{value_at, Bytes, Stands}
use Rattle.digits.proofs.Digits.{value_small, digits_value, digits_as, with_behind}
use Rattle.cells.specs.declared.parts.LifeParts.{LifeParts}
use Rattle.cells.specs.declared.parts.Part.{Part}
use Rattle.cells.specs.Parts.{slot_number, state_from, life_parts, life_from, waiting_parts, waiting_from, held_parts, held_from, first_parts, first_from}
use Rattle.cells.specs.Cells.{header_bytes, header_of, entry_bytes, entry_of, slot_bytes, slot_of, timer_bytes, timer_of}
use Rattle.cells.specs.Fine.{header_clear, header_in, entry_clear, entry_in, slot_clear, slot_in, timer_clear, timer_in}
use Rattle.cells.specs.Ranges.{HeaderIn, EntryIn, StateIn, TimerIn}
use Rattle.cells.proofs.Tags.{life_back, waiting_back, held_back, first_back, bit_back, state_back, state_in}
use Rattle.cells.proofs.Tables.{header_spare_lem, header_range_lem, entry_spare_lem, entry_range_lem, slot_spare_lem, slot_range_lem, timer_spare_lem, timer_range_lem}

-- a number of two bytes is made of its bits
slot_parts : (n : ℕ) → n < 256 ^ 2 → n / 512 % 64 ≡ 0 → (n / 32768 < 2) × (n / 32768 * 32768 + n % 512 ≡ n)
slot_parts n h e = (omega arith, omega arith)

marks_parts : (m : ℕ) → m / 4 ≡ 0 → m / 2 % 2 * 2 + m % 2 ≡ m
marks_parts m e = omega arith

tags_parts : (t : ℕ) → t < 256 ^ 1 → t / 16 % 4 ≡ 0 → t % 2 ≡ 0 → (t / 64 * 64 + t / 4 % 4 * 4 + t / 2 % 2 * 2 ≡ t) × (t / 64 < 4)
tags_parts t h e f =
    let x : t / 2 / 2 ≡ t / 4 = omega arith in
    let y : t / 4 / 4 ≡ t / 16 = omega arith in
    let z : t / 16 / 4 ≡ t / 64 = omega arith in
    let w : t / 64 * 64 + t / 4 % 4 * 4 + t / 2 % 2 * 2 ≡ t = omega arith in
    (w, omega arith)

module _ (l : List ℕ) (b : Bytes l) (i : ℕ) where
  pub entry_stands : Stands l i (entry_bytes (entry_of l i))
  unfolding entry_bytes entry_of
  entry_stands =
      with_behind 8 (value_at 8 l i) (i + 8) _ refl (digits_value l b 8 i)
      (with_behind 4 (value_at 4 l (i + 8)) (i + 12) _ (omega arith) (digits_value l b 4 (i + 8))
      (with_behind 1 (value_at 1 l (i + 12)) (i + 13) _ (omega arith) (digits_value l b 1 (i + 12)) (digits_value l b 1 (i + 13))))

  pub entry_fits_lem : entry_clear l i ≡ true → entry_in l i ≡ true → EntryIn (entry_of l i)
  unfolding entry_clear entry_in entry_of
  entry_fits_lem c r =
      let g : value_at 4 l (i + 8) / 2 ^ 30 ≡ 0 = ref_true (entry_spare_lem (value_at 4 l (i + 8))) c in
      let q = ref_true (entry_range_lem (value_at 1 l (i + 12)) (value_at 1 l (i + 13))) r in
      record { at_in = value_small l b 8 i; generation_in = omega arith; place_in = q.0; slot_in_range = q.1 }

  pub slot_stands : slot_clear l i ≡ true → Stands l i (slot_bytes (slot_of l i))
  unfolding slot_clear slot_bytes slot_of
  slot_stands c =
      let n = value_at 2 l i in
      let q = slot_parts n (value_small l b 2 i) (ref_true (slot_spare_lem n) c) in
      digits_as l b 2 i (slot_number (state_from (n / 32768) (n % 512))) (state_back (n / 32768) (n % 512) q.0 ∙ q.1)

  pub slot_fits : slot_in l i ≡ true → StateIn (slot_of l i).state
  unfolding slot_in slot_of
  slot_fits r = let q = ref_true (slot_range_lem (value_at 2 l i)) r in state_in (value_at 2 l i / 32768) (value_at 2 l i % 512) q.0 q.1

  -- what a header holds
  pub header_stands : header_clear l i ≡ true → header_in l i ≡ true → Stands l i (header_bytes (header_of l i))
  unfolding header_clear header_in header_bytes header_of
  header_stands c r =
      let m = value_at 1 l (i + 1) in
      let p = value_at 1 l (i + 2) in
      let x = ref_true (header_spare_lem m p (value_at 2 l (i + 3)) (value_at 2 l (i + 5)) (value_at 2 l (i + 7))) c in
      let y = ref_true (header_range_lem (value_at 1 l i) p (value_at 2 l (i + 3)) (value_at 2 l (i + 5)) (value_at 2 l (i + 7))) r in
      let two : m % 2 < 2 = omega arith in
      let f = first_back (m % 2) p two x.0.0.0.1 in
      let e = bit_back (m / 2 % 2) (omega arith) in
      let k : bit (eqb (m / 2 % 2) 1) * 2 + (first_parts (first_from (m % 2) p)).tag ≡ m =
      (λ j. e j * 2 + (f j).tag) ∙ marks_parts m x.0.0.0.0
      in
      with_behind 1 1 (i + 1) _ refl (digits_as l b 1 i 1 (sym y.0.0.0.0))
      (with_behind 1 (bit (eqb (m / 2 % 2) 1) * 2 + (first_parts (first_from (m % 2) p)).tag) (i + 2) _ (omega arith) (digits_as l b 1 (i + 1) _ k)
      (with_behind 1 (first_parts (first_from (m % 2) p)).number (i + 3) _ (omega arith) (digits_as l b 1 (i + 2) _ (ap (λ (q : Part). q.number) f))
      (with_behind 2 (value_at 2 l (i + 3)) (i + 5) _ (omega arith) (digits_value l b 2 (i + 3))
      (with_behind 2 (value_at 2 l (i + 5)) (i + 7) _ (omega arith) (digits_value l b 2 (i + 5)) (digits_value l b 2 (i + 7))))))

  pub header_fits : header_clear l i ≡ true → header_in l i ≡ true → HeaderIn (header_of l i)
  unfolding header_clear header_in header_of
  header_fits c r =
      let m = value_at 1 l (i + 1) in
      let p = value_at 1 l (i + 2) in
      let x = ref_true (header_spare_lem m p (value_at 2 l (i + 3)) (value_at 2 l (i + 5)) (value_at 2 l (i + 7))) c in
      let y = ref_true (header_range_lem (value_at 1 l i) p (value_at 2 l (i + 3)) (value_at 2 l (i + 5)) (value_at 2 l (i + 7))) r in
      let two : m % 2 < 2 = omega arith in
      let f = ap (λ (q : Part). q.number) (first_back (m % 2) p two x.0.0.0.1) in
      let fx = x.0.0.1 in
      let fy = x.0.1 in
      let fz = x.1 in
      let gx = y.0.0.1 in
      let gy = y.0.1 in
      let gz = y.1 in
      record { first_in = omega (arith, f, y.0.0.0.1); len_in = omega arith; made_in = omega arith; free_in = omega arith }

  -- the parts of a timer that passes
  record Parts : Type 0 where
    pub lives : life_parts (life_from (value_at 1 l i / 64) (value_at 4 l (i + 7)) (value_at 8 l (i + 11)))
        ≡ record { tag = value_at 1 l i / 64; word = value_at 4 l (i + 7); due = value_at 8 l (i + 11) }
    pub waits : waiting_parts (waiting_from (value_at 1 l i / 4 % 4) (value_at 1 l (i + 1)))
        ≡ record { tag = value_at 1 l i / 4 % 4; number = value_at 1 l (i + 1) }
    pub holds_slot : held_parts (held_from (value_at 1 l i / 2 % 2) (value_at 1 l (i + 2)))
        ≡ record { tag = value_at 1 l i / 2 % 2; number = value_at 1 l (i + 2) }
    pub tags : value_at 1 l i / 64 * 64 + value_at 1 l i / 4 % 4 * 4 + value_at 1 l i / 2 % 2 * 2 ≡ value_at 1 l i
    pub next_in_range : value_at 1 l (i + 1) < cap
    pub slot_in_range : value_at 1 l (i + 2) < cap

  parts : timer_clear l i ≡ true → timer_in l i ≡ true → Parts
  unfolding timer_clear timer_in
  parts c r =
      let t = value_at 1 l i in
      let p = value_at 1 l (i + 1) in
      let s = value_at 1 l (i + 2) in
      let w = value_at 4 l (i + 7) in
      let d = value_at 8 l (i + 11) in
      let x = ref_true (timer_spare_lem t p s w d) c in
      let y = ref_true (timer_range_lem t p s) r in
      let u = tags_parts t (value_small l b 1 i) x.0.0.0.0.0 x.0.0.0.0.1 in
      let four : t / 64 < 4 = u.1 in
      let two : t / 2 % 2 < 2 = omega arith in
      record {
        lives = life_back (t / 64) w d (omega arith) x.0.1 x.1;
        waits = waiting_back (t / 4 % 4) p y.0.0 x.0.0.0.1;
        holds_slot = held_back (t / 2 % 2) s two x.0.0.1;
        tags = u.0;
        next_in_range = y.0.1;
        slot_in_range = y.1;
      }

  pub timer_stands : timer_clear l i ≡ true → timer_in l i ≡ true → Stands l i (timer_bytes (timer_of l i))
  unfolding timer_bytes timer_of
  timer_stands c r =
      let v = parts c r in
      let la = v.lives in
      let wa = v.waits in
      let ha = v.holds_slot in
      let k : _ ≡ value_at 1 l i = (λ j. (la j).tag * 64 + (wa j).tag * 4 + (ha j).tag * 2) ∙ v.tags in
      with_behind 1 _ (i + 1) _ refl (digits_as l b 1 i _ k)
      (with_behind 1 _ (i + 2) _ (omega arith) (digits_as l b 1 (i + 1) _ (ap (λ (q : Part). q.number) wa))
      (with_behind 1 _ (i + 3) _ (omega arith) (digits_as l b 1 (i + 2) _ (ap (λ (q : Part). q.number) ha))
      (with_behind 4 _ (i + 7) _ (omega arith) (digits_value l b 4 (i + 3))
      (with_behind 4 _ (i + 11) _ (omega arith) (digits_as l b 4 (i + 7) _ (ap (λ (q : LifeParts). q.word) la))
      (digits_as l b 8 (i + 11) _ (ap (λ (q : LifeParts). q.due) la))))))

  pub timer_fits : timer_clear l i ≡ true → timer_in l i ≡ true → TimerIn (timer_of l i)
  unfolding timer_of
  timer_fits c r =
      let v = parts c r in
      record {
        uses_in = value_small l b 4 (i + 3);
        word_in = omega (arith, ap (λ (q : LifeParts). q.word) v.lives, value_small l b 4 (i + 7));
        due_in = omega (arith, ap (λ (q : LifeParts). q.due) v.lives, value_small l b 8 (i + 11));
        next_in_range = omega (arith, ap (λ (q : Part). q.number) v.waits, v.next_in_range);
        slot_in_range = omega (arith, ap (λ (q : Part). q.number) v.holds_slot, v.slot_in_range);
      }
