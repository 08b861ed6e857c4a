-- The image and the set determine each other, room that is not in use apart: what is written of a set in range passes and is read
-- as that set with such room cleared, and what is read of bytes that pass has these bytes and is in range.
-- Assumes nothing.
use mathlib.Core.Path.{◌≡◌, refl, ap, sym, subst, ◌∙◌}
use mathlib.Core.Bool.{Bool, true, ◌&&◌}
use mathlib.Core.List.{List, ◌++◌}
use Prim.Native.Nat.{ℕ, ◌+◌, ◌*◌, ◌<◌}
use native.Mathlib.Omega.{arith}
use lib.Dec.{eqb, ltb}
use lib.ListN.{length, get_or}
use borrow.Author.Tests.{ltb-true, lt-ltb, eqb-true}
use Rattle.theory.proofs.Tests.{and_left, and_right}
use Rattle.heap.specs.Capacity.{cap}
use Rattle.heap.specs.Rules.{no_entry}
use Rattle.heap.specs.declared.SlabSlot.{SlabSlot}
use Rattle.state.specs.State.{no_timer}
use Rattle.state.specs.declared.Set.{Set}
use Rattle.digits.specs.Digits.{Bytes, Stands}
use Rattle.digits.specs.Rows.{rows, used}
use Rattle.digits.proofs.Digits.{stands_left, stands_skip, stands_then, stands_all, stands_whole}
use Rattle.digits.proofs.Passing.{all_by, all_at}
use Rattle.digits.proofs.Rows.{rows_at, rows_ext, rows_self, length_rows, block_stands, blocks_stand}
use Rattle.cells.specs.declared.Header.{Header}
use Rattle.cells.specs.Cells.{zero_slot, header_bytes, header_of, entry_bytes, entry_of, slot_bytes, slot_of, timer_bytes, timer_of}
use Rattle.cells.specs.Fine.{header_clear, header_in, timer_clear, timer_in}
use Rattle.cells.specs.Ranges.{EntryIn, StateIn, TimerIn}
use Rattle.cells.proofs.Lengths.{header_long, entry_long, slot_long, timer_long}
use Rattle.cells.proofs.Again.{Again, header_again, timer_again}
use Rattle.cells.proofs.Standing.{header_stands, header_fits, entry_fits_lem, slot_fits, timer_stands, timer_fits}
use Rattle.image.specs.Image.{entries_at, slots_at, timers_at, size, header_for, entries_bytes, slots_bytes, timers_bytes, image_of, entry_or, slot_or, entries_of, slots_of, timers_of, set_from, entry_clear_if, slot_clear_if, entries_clear, slots_clear, timers_clear, entry_in_if, slot_in_if, entries_in, slots_in, timers_in, spare_clear, fields_in, image_fine, cleared}
use Rattle.image.specs.Ranges.{SetIn}
use Rattle.image.proofs.Calling.{fine_by}
use Rattle.image.proofs.Lengths.{entries_long, slots_long, image_long}
use Rattle.image.proofs.Records.{entry_if_again, slot_if_again, entry_if_stands, slot_if_stands, used_twice}

module _ (s : Set) (h : SetIn s) where
  -- where the parts of an image stand
  header_there : Stands (image_of s) 0 (header_bytes (header_for s))
  unfolding image_of
  header_there =
      stands_left (header_bytes (header_for s)) (entries_bytes s.heap ++ (slots_bytes s.heap ++ timers_bytes s)) (stands_all (image_of s))

  behind_header : Stands (image_of s) entries_at (entries_bytes s.heap ++ (slots_bytes s.heap ++ timers_bytes s))
  unfolding image_of
  behind_header =
      stands_skip (header_bytes (header_for s)) (entries_bytes s.heap ++ (slots_bytes s.heap ++ timers_bytes s)) 9 entries_at
      (header_long (header_for s)) (omega arith) (stands_all (image_of s))

  behind_entries : Stands (image_of s) slots_at (slots_bytes s.heap ++ timers_bytes s)
  behind_entries =
      stands_skip (entries_bytes s.heap) (slots_bytes s.heap ++ timers_bytes s) (cap * 14) slots_at (entries_long s.heap) refl
      behind_header

  timers_there : Stands (image_of s) timers_at (timers_bytes s)
  timers_there = stands_skip (slots_bytes s.heap) (timers_bytes s) (cap * 2) timers_at (slots_long s.heap) refl behind_entries

  -- each part passes, and is read again
  head : Again (header_clear (image_of s) 0) (header_in (image_of s) 0) (header_of (image_of s) 0) (header_for s)
  head = header_again (header_for s) h.header_in_range header_there

  entry : (j : ℕ) → j < cap
      → Again (entry_clear_if (ltb j s.heap.len) (image_of s) (entries_at + j * 14)) (entry_in_if (ltb j s.heap.len) (image_of s) (entries_at + j * 14))
      (entry_or (ltb j s.heap.len) (image_of s) (entries_at + j * 14)) (used no_entry s.heap.len s.heap.entries j)
  unfolding entries_bytes
  entry j q =
      let n = s.heap.len in
      entry_if_again (ltb j n) (get_or s.heap.entries j no_entry) (λ e. h.entries_in_range j (ltb-true j n e))
      (block_stands entry_bytes 14 entry_long (used no_entry n s.heap.entries) cap
      (stands_left (entries_bytes s.heap) (slots_bytes s.heap ++ timers_bytes s) behind_header) j q)

  slot : (j : ℕ) → j < cap
      → Again (slot_clear_if (ltb j s.heap.made) (image_of s) (slots_at + j * 2)) (slot_in_if (ltb j s.heap.made) (image_of s) (slots_at + j * 2))
      (slot_or (ltb j s.heap.made) (image_of s) (slots_at + j * 2)) (used zero_slot s.heap.made s.heap.slots j)
  unfolding slots_bytes
  slot j q =
      let n = s.heap.made in
      slot_if_again (ltb j n) (get_or s.heap.slots j zero_slot) (λ e. h.slots_in_range j (ltb-true j n e))
      (block_stands slot_bytes 2 slot_long (used zero_slot n s.heap.slots) cap
      (stands_left (slots_bytes s.heap) (timers_bytes s) behind_entries) j q)

  timer : (j : ℕ) → j < cap
      → Again (timer_clear (image_of s) (timers_at + j * 19)) (timer_in (image_of s) (timers_at + j * 19)) (timer_of (image_of s) (timers_at + j * 19))
      (get_or s.timers j no_timer)
  unfolding timers_bytes
  timer j q =
      timer_again (get_or s.timers j no_timer) (h.each_timer_in j q)
      (block_stands timer_bytes 19 timer_long (λ j. get_or s.timers j no_timer) cap timers_there j q)

  -- the counts are read again
  len_again : s.heap.len ≡ (header_of (image_of s) 0).len
  len_again = sym (ap (λ (x : Header). x.len) head.again)

  made_again : s.heap.made ≡ (header_of (image_of s) 0).made
  made_again = sym (ap (λ (x : Header). x.made) head.again)

  entries_pass : (entries_clear (image_of s) entries_at s.heap.len ≡ true) × (entries_in (image_of s) entries_at s.heap.len ≡ true)
  unfolding entries_clear entries_in
  entries_pass = (all_by _ cap (λ j q. (entry j q).clear), all_by _ cap (λ j q. (entry j q).within))

  slots_pass : (slots_clear (image_of s) slots_at s.heap.made ≡ true) × (slots_in (image_of s) slots_at s.heap.made ≡ true)
  unfolding slots_clear slots_in
  slots_pass = (all_by _ cap (λ j q. (slot j q).clear), all_by _ cap (λ j q. (slot j q).within))

  timers_pass : (timers_clear (image_of s) timers_at ≡ true) × (timers_in (image_of s) timers_at ≡ true)
  unfolding timers_clear timers_in
  timers_pass = (all_by _ cap (λ j q. (timer j q).clear), all_by _ cap (λ j q. (timer j q).within))

  spare_pass : spare_clear (image_of s) ≡ true
  unfolding spare_clear
  spare_pass =
      (λ k.
      head.clear k
      && entries_clear (image_of s) entries_at (sym len_again k)
      && slots_clear (image_of s) slots_at (sym made_again k)
      && timers_pass.0 k)
      ∙ (λ k. entries_pass.0 k && slots_pass.0 k && true)

  fields_pass : fields_in (image_of s) ≡ true
  unfolding fields_in
  fields_pass =
      (λ k.
      head.within k && entries_in (image_of s) entries_at (sym len_again k) && slots_in (image_of s) slots_at (sym made_again k) && timers_pass.1 k)
      ∙ (λ k. entries_pass.1 k && slots_pass.1 k && true)

  -- the image of a set in range is one
  pub image_fine_lem : image_fine (image_of s) ≡ true
  image_fine_lem = fine_by (image_of s) true (image_long s) (λ k. spare_pass k && fields_pass k)

  entries_again : entries_of (image_of s) entries_at s.heap.len ≡ rows (used no_entry s.heap.len s.heap.entries) cap
  unfolding entries_of
  entries_again = rows_ext _ _ cap (λ j q. (entry j q).again)

  slots_again : slots_of (image_of s) slots_at s.heap.made ≡ rows (used zero_slot s.heap.made s.heap.slots) cap
  unfolding slots_of
  slots_again = rows_ext _ _ cap (λ j q. (slot j q).again)

  timers_again : timers_of (image_of s) timers_at ≡ s.timers
  unfolding timers_of
  timers_again =
      rows_ext _ (λ j. get_or s.timers j no_timer) cap (λ j q. (timer j q).again)
      ∙ ap (rows (λ j. get_or s.timers j no_timer)) (sym h.timers_long)
      ∙ rows_self no_timer s.timers

  -- what is written of a set is read as that set, with room that is not in use cleared
  pub read_written : set_from (image_of s) ≡ cleared s
  unfolding set_from cleared
  read_written =
      let a = head.again in
      let e = ap (λ (n : ℕ). entries_of (image_of s) entries_at n) (sym len_again) ∙ entries_again in
      let t = ap (λ (n : ℕ). slots_of (image_of s) slots_at n) (sym made_again) ∙ slots_again in
      λ k. record {
        heap = record { entries = e k; len = (a k).len; slots = t k; made = (a k).made; free = (a k).free };
        timers = timers_again k;
        first = (a k).first;
        closed = (a k).closed;
      }

module _ (l : List ℕ) (y : Bytes l) (f : image_fine l ≡ true) where
  -- what the test says
  long : length l ≡ size
  unfolding image_fine
  long = eqb-true (length l) size (and_left (eqb (length l) size) (spare_clear l) (and_left (eqb (length l) size && spare_clear l) (fields_in l) f))

  spare : spare_clear l ≡ true
  unfolding image_fine
  spare = and_right (eqb (length l) size) (spare_clear l) (and_left (eqb (length l) size && spare_clear l) (fields_in l) f)

  within : fields_in l ≡ true
  unfolding image_fine
  within = and_right (eqb (length l) size && spare_clear l) (fields_in l) f

  record Tested : Type 0 where
    pub head_clear : header_clear l 0 ≡ true
    pub head_in : header_in l 0 ≡ true
    pub entry_clear_lem : (j : ℕ) → j < cap → entry_clear_if (ltb j (header_of l 0).len) l (entries_at + j * 14) ≡ true
    pub entry_in : (j : ℕ) → j < cap → entry_in_if (ltb j (header_of l 0).len) l (entries_at + j * 14) ≡ true
    pub slot_clear_lem : (j : ℕ) → j < cap → slot_clear_if (ltb j (header_of l 0).made) l (slots_at + j * 2) ≡ true
    pub slot_in_range : (j : ℕ) → j < cap → slot_in_if (ltb j (header_of l 0).made) l (slots_at + j * 2) ≡ true
    pub timer_clear_lem : (j : ℕ) → j < cap → timer_clear l (timers_at + j * 19) ≡ true
    pub timer_in_lem : (j : ℕ) → j < cap → timer_in l (timers_at + j * 19) ≡ true

  tested : Tested
  unfolding spare_clear fields_in entries_clear entries_in slots_clear slots_in timers_clear timers_in
  tested =
      let n = (header_of l 0).len in
      let m = (header_of l 0).made in
      let a3 = and_left (header_clear l 0 && entries_clear l entries_at n && slots_clear l slots_at m) (timers_clear l timers_at) spare in
      let a2 = and_left (header_clear l 0 && entries_clear l entries_at n) (slots_clear l slots_at m) a3 in
      let b3 = and_left (header_in l 0 && entries_in l entries_at n && slots_in l slots_at m) (timers_in l timers_at) within in
      let b2 = and_left (header_in l 0 && entries_in l entries_at n) (slots_in l slots_at m) b3 in
      record {
        head_clear = and_left (header_clear l 0) (entries_clear l entries_at n) a2;
        head_in = and_left (header_in l 0) (entries_in l entries_at n) b2;
        entry_clear_lem = all_at (λ j. entry_clear_if (ltb j n) l (entries_at + j * 14)) cap (and_right (header_clear l 0) (entries_clear l entries_at n) a2);
        entry_in = all_at (λ j. entry_in_if (ltb j n) l (entries_at + j * 14)) cap (and_right (header_in l 0) (entries_in l entries_at n) b2);
        slot_clear_lem =
            all_at (λ j. slot_clear_if (ltb j m) l (slots_at + j * 2)) cap
            (and_right (header_clear l 0 && entries_clear l entries_at n) (slots_clear l slots_at m) a3);
        slot_in_range =
            all_at (λ j. slot_in_if (ltb j m) l (slots_at + j * 2)) cap (and_right (header_in l 0 && entries_in l entries_at n) (slots_in l slots_at m) b3);
        timer_clear_lem =
            all_at (λ j. timer_clear l (timers_at + j * 19)) cap
            (and_right (header_clear l 0 && entries_clear l entries_at n && slots_clear l slots_at m) (timers_clear l timers_at) spare);
        timer_in_lem =
            all_at (λ j. timer_in l (timers_at + j * 19)) cap
            (and_right (header_in l 0 && entries_in l entries_at n && slots_in l slots_at m) (timers_in l timers_at) within);
      }

  -- the arrays stand where they are read
  entries_stand : Stands l entries_at (entries_bytes (set_from l).heap)
  unfolding entries_bytes set_from entries_of
  entries_stand =
      let n = (header_of l 0).len in
      blocks_stand entry_bytes 14 entry_long _ cap
      (λ j q.
      subst (λ x. Stands l (entries_at + j * 14) (entry_bytes x)) (sym (used_twice no_entry n cap (λ j. entry_of l (entries_at + j * 14)) j q))
      (entry_if_stands l y (entries_at + j * 14) (ltb j n) (tested.entry_clear_lem j q)))

  slots_stand : Stands l slots_at (slots_bytes (set_from l).heap)
  unfolding slots_bytes set_from slots_of
  slots_stand =
      let n = (header_of l 0).made in
      blocks_stand slot_bytes 2 slot_long _ cap
      (λ j q.
      subst (λ x. Stands l (slots_at + j * 2) (slot_bytes x)) (sym (used_twice zero_slot n cap (λ j. slot_of l (slots_at + j * 2)) j q))
      (slot_if_stands l y (slots_at + j * 2) (ltb j n) (tested.slot_clear_lem j q)))

  timers_stand : Stands l timers_at (timers_bytes (set_from l))
  unfolding timers_bytes set_from timers_of
  timers_stand =
      blocks_stand timer_bytes 19 timer_long _ cap
      (λ j q.
      subst (λ x. Stands l (timers_at + j * 19) (timer_bytes x)) (sym (rows_at (λ j. timer_of l (timers_at + j * 19)) cap j no_timer q))
      (timer_stands l y (timers_at + j * 19) (tested.timer_clear_lem j q) (tested.timer_in_lem j q)))

  header_stand : Stands l 0 (header_bytes (header_for (set_from l)))
  unfolding set_from
  header_stand = header_stands l y 0 tested.head_clear tested.head_in

  -- bytes that pass are written again as they were
  pub written_read : image_of (set_from l) ≡ l
  unfolding image_of
  written_read =
      let s = set_from l in
      stands_whole (long ∙ sym (image_long s))
      (stands_then (header_bytes (header_for s)) (entries_bytes s.heap ++ (slots_bytes s.heap ++ timers_bytes s)) 9 entries_at
      (header_long (header_for s)) refl header_stand
      (stands_then (entries_bytes s.heap) (slots_bytes s.heap ++ timers_bytes s) (cap * 14) slots_at (entries_long s.heap) refl
      entries_stand
      (stands_then (slots_bytes s.heap) (timers_bytes s) (cap * 2) timers_at (slots_long s.heap) refl slots_stand timers_stand)))

  -- and what is read of them is in range
  pub set_in : SetIn (set_from l)
  unfolding set_from entries_of slots_of timers_of
  set_in =
      let n = (header_of l 0).len in
      let m = (header_of l 0).made in
      let t = tested in
      let hi = header_fits l y 0 t.head_clear t.head_in in
      record {
        timers_long = length_rows (λ j. timer_of l (timers_at + j * 19)) cap;
        header_in_range = hi;
        entries_in_range = λ j q.
            let p : j < cap = omega (arith, hi.len_in) in
            let i = entries_at + j * 14 in
            let b = lt-ltb j n q in
            subst EntryIn (sym (rows_at (λ j. entry_or (ltb j n) l (entries_at + j * 14)) cap j no_entry p ∙ ap (λ (x : Bool). entry_or x l i) b))
            (entry_fits_lem l y i (sym (ap (λ (x : Bool). entry_clear_if x l i) b) ∙ t.entry_clear_lem j p) (sym (ap (λ (x : Bool). entry_in_if x l i) b) ∙ t.entry_in j p));
        slots_in_range = λ j q.
            let p : j < cap = omega (arith, hi.made_in) in
            let i = slots_at + j * 2 in
            let b = lt-ltb j m q in
            subst (λ (x : SlabSlot). StateIn x.state)
            (sym (rows_at (λ j. slot_or (ltb j m) l (slots_at + j * 2)) cap j zero_slot p ∙ ap (λ (x : Bool). slot_or x l i) b))
            (slot_fits l y i (sym (ap (λ (x : Bool). slot_in_if x l i) b) ∙ t.slot_in_range j p));
        each_timer_in = λ j q.
            subst TimerIn (sym (rows_at (λ j. timer_of l (timers_at + j * 19)) cap j no_timer q))
            (timer_fits l y (timers_at + j * 19) (t.timer_clear_lem j q) (t.timer_in_lem j q));
      }

-- bytes are an image exactly where they are the image of a set in range
pub fine_image : (l : List ℕ) → Bytes l → image_fine l ≡ true → (s : Set) × SetIn s × (image_of s ≡ l)
fine_image l y f = (set_from l, set_in l y f, written_read l y f)
