-- What the functions over arrays and over a whole image rest on: room for the records, what is told by an answer, and an image that
-- passes where each part of it does.
-- Assumes nothing.
use mathlib.Core.Path.{◌≡◌, refl, sym, ap, subst, ◌∙◌}
use mathlib.Core.Bool.{Bool, true, false, cond, ◌&&◌}
use mathlib.Core.List.{List}
use Prim.Native.Nat.{ℕ, suc, ◌+◌, ◌*◌, ◌<◌, ◌≤◌}
use native.Mathlib.Omega.{arith}
use lib.Dec.{ltb}
use lib.ListN.{get_or}
use borrow.Author.Tests.{lt-ltb}
use Rattle.std.specs.Prelude.{Option, Some, None, Result, Ok, Err}
use Rattle.std.specs.Bool.{then_some}
use Rattle.std.specs.Result.{result_ok}
use Rattle.std.proofs.Math.Nat.{mul-le-mul_right}
use Rattle.heap.specs.Capacity.{cap}
use Rattle.heap.specs.Rules.{no_entry}
use Rattle.heap.specs.declared.Entry.{Entry}
use Rattle.heap.specs.declared.SlabSlot.{SlabSlot}
use Rattle.digits.specs.Digits.{zeros_at}
use Rattle.digits.specs.Promises.{Puts}
use Rattle.digits.specs.Rows.{rows, blocks, used}
use Rattle.digits.proofs.Passing.{all_ext, two_tests}
use Rattle.digits.proofs.Rows.{rows_ext, used_in}
use Rattle.state.specs.State.{no_timer}
use Rattle.state.specs.declared.Set.{Set}
use Rattle.state.specs.declared.Timer.{Timer}
use Rattle.cells.specs.declared.Header.{Header}
use Rattle.cells.specs.Cells.{header_of, entry_of, slot_of, zero_slot, timer_of}
use Rattle.cells.specs.Fine.{header_clear, header_in, entry_clear, entry_in, slot_clear, slot_in, timer_clear, timer_in}
use Rattle.image.specs.Image.{clear_if, in_if, read_or, entries_at, slots_at, timers_at, entries_clear, slots_clear, timers_clear, entries_in, slots_in, timers_in, entries_of, slots_of, timers_of, spare_clear, fields_in, set_from}
use Rattle.image.specs.Promises.{rows_pass, FindsSet}

-- one record more
pub room_more : (i n w : ℕ) → i < n → i * w + w ≤ n * w
room_more i n w h = let m : suc i * w ≤ n * w = mul-le-mul_right w h in omega (arith, m)

-- whether there is an answer tells whether the bytes pass
pub not_passed : {A : Type 0} (b : Bool) (y : A) → None ≡ then_some b y → b ≡ false
not_passed true y e = cc
not_passed false y e = refl

pub passed : {A : Type 0} (b : Bool) (x y : A) → Some x ≡ then_some b y → (b ≡ true) × (x ≡ y)
passed true x y e = (refl, cc)
passed false x y e = cc

-- what is found of bytes, where they pass
pub found_ok : {A : Type 0} (b : Bool) (x : A) {o : Option A} {r : Result A A} → o ≡ result_ok r → r ≡ cond b (Ok x) (Err x) → o ≡ then_some b x
found_ok true x p q = p ∙ ap result_ok q
found_ok false x p q = p ∙ ap result_ok q

-- four parts, each with two tests
four : (a b c d w x y z : Bool) → ((a && b && c && d) && (w && x && y && z)) ≡ ((a && w) && (b && x) && (c && y) && (d && z))
four a b c d w x y z =
    sym (two_tests (a && b && c) (w && x && y) d z)
    ∙ ap (λ (t : Bool). t && (d && z)) (sym (two_tests (a && b) (w && x) c y))
    ∙ ap (λ (t : Bool). t && (c && y) && (d && z)) (sym (two_tests a w b x))

right_not : (a b : Bool) → b ≡ false → (a && b) ≡ false
right_not true b e = e
right_not false b e = refl

-- all timers are in use
module _ (l : List ℕ) where
  each : {A : Type 0} (x y : A) (j : ℕ) → j < cap → cond (ltb j cap) x y ≡ x
  each x y j q = ap (λ (b : Bool). cond b x y) (lt-ltb j cap q)

  timers_pass : rows_pass timer_clear timer_in 19 cap cap l timers_at ≡ (timers_clear l timers_at && timers_in l timers_at)
  unfolding timers_clear timers_in
  timers_pass =
      let a = all_ext (λ j. clear_if timer_clear 19 (ltb j cap) l (timers_at + j * 19)) (λ j. timer_clear l (timers_at + j * 19)) cap
      (λ j q. each (timer_clear l (timers_at + j * 19)) (zeros_at 19 l (timers_at + j * 19)) j q)
      in
      let b = all_ext (λ j. in_if timer_in (ltb j cap) l (timers_at + j * 19)) (λ j. timer_in l (timers_at + j * 19)) cap
      (λ j q. each (timer_in l (timers_at + j * 19)) true j q)
      in
      λ k. a k && b k

  timers_read : rows (λ j. read_or timer_of no_timer (ltb j cap) l (timers_at + j * 19)) cap ≡ timers_of l timers_at
  unfolding timers_of
  timers_read =
      rows_ext (λ j. read_or timer_of no_timer (ltb j cap) l (timers_at + j * 19)) (λ j. timer_of l (timers_at + j * 19)) cap
      (λ j q. each (timer_of l (timers_at + j * 19)) no_timer j q)

  -- the parts of an image, by what is read of its header
  abbrev pub head_pass : Bool
  head_pass = header_clear l 0 && header_in l 0

  abbrev entries_pass : Header → Bool
  entries_pass h = rows_pass entry_clear entry_in 14 cap h.len l entries_at

  abbrev slots_pass : Header → Bool
  slots_pass h = rows_pass slot_clear slot_in 2 cap h.made l slots_at

  abbrev all_timers : Bool
  all_timers = rows_pass timer_clear timer_in 19 cap cap l timers_at

  module _ (h : Header) (e : h ≡ header_of l 0) where
    whole : (spare_clear l && fields_in l) ≡ (head_pass && entries_pass h && slots_pass h && all_timers)
    unfolding spare_clear fields_in entries_clear slots_clear entries_in slots_in
    whole =
        let n = (header_of l 0).len in
        let m = (header_of l 0).made in
        four (header_clear l 0) (entries_clear l entries_at n) (slots_clear l slots_at m) (timers_clear l timers_at) (header_in l 0)
        (entries_in l entries_at n) (slots_in l slots_at m) (timers_in l timers_at)
        ∙ (λ k. head_pass && entries_pass (sym e k) && slots_pass (sym e k) && sym timers_pass k)

    -- nothing is read where one of them does not pass
    pub head_not : None ≡ then_some head_pass (header_of l 0) → (spare_clear l && fields_in l) ≡ false
    head_not n = whole ∙ (λ k. not_passed head_pass (header_of l 0) n k && entries_pass h && slots_pass h && all_timers)

    pub entries_not : entries_pass h ≡ false → (spare_clear l && fields_in l) ≡ false
    entries_not n = whole ∙ (λ k. right_not head_pass (entries_pass h) n k && slots_pass h && all_timers)

    pub slots_not : slots_pass h ≡ false → (spare_clear l && fields_in l) ≡ false
    slots_not n = whole ∙ (λ k. right_not (head_pass && entries_pass h) (slots_pass h) n k && all_timers)

    pub timers_not : all_timers ≡ false → (spare_clear l && fields_in l) ≡ false
    timers_not n = whole ∙ right_not (head_pass && entries_pass h && slots_pass h) all_timers n

    pub all_pass : head_pass ≡ true → entries_pass h ≡ true → slots_pass h ≡ true → all_timers ≡ true → (spare_clear l && fields_in l) ≡ true
    all_pass a b c d = whole ∙ (λ k. a k && b k && c k && d k)

    -- and else the set is read of them
    pub set_read : {es : List Entry} {ss : List SlabSlot} {ts : List Timer} → es ≡ rows (λ j. read_or entry_of no_entry (ltb j h.len) l (entries_at + j * 14)) cap
        → ss ≡ rows (λ j. read_or slot_of zero_slot (ltb j h.made) l (slots_at + j * 2)) cap
        → ts ≡ rows (λ j. read_or timer_of no_timer (ltb j cap) l (timers_at + j * 19)) cap
        → record { heap = record { entries = es; len = h.len; slots = ss; made = h.made; free = h.free }; timers = ts; first = h.first; closed = h.closed }
        ≡ set_from l
    unfolding set_from entries_of slots_of
    set_read {es} {ss} {ts} a b d =
        let n = a ∙ ap (λ (x : Header). entries_of l entries_at x.len) e in
        let m = b ∙ ap (λ (x : Header). slots_of l slots_at x.made) e in
        let t = d ∙ timers_read in
        λ k. record {
          heap = record { entries = n k; len = (e k).len; slots = m k; made = (e k).made; free = (e k).free };
          timers = t k;
          first = (e k).first;
          closed = (e k).closed;
        }

-- what is answered of the whole
pub set_none : (l : List ℕ) (r : Option Set) → r ≡ None → (spare_clear l && fields_in l) ≡ false → FindsSet l r
set_none l r z n = z ∙ (λ k. then_some (sym n k) (set_from l))

pub set_some : (l : List ℕ) (s : Set) → s ≡ set_from l → (spare_clear l && fields_in l) ≡ true → FindsSet l (Some s)
set_some l s e n = (λ k. Some (e k)) ∙ (λ k. then_some (sym n k) (set_from l))

-- the records of an array are put, of which there are as many as there are places
pub puts_rows : {A : Type 0} (f : A → List ℕ) (g : ℕ → A) (w : ℕ) {m at r : ℕ} {out out' : List ℕ} → m ≡ cap
    → Puts (m * w) out at (blocks f (rows g m)) out' r → Puts (cap * w) out at (blocks f (rows g cap)) out' r
puts_rows f g w {m} {at} {r} {out} {out'} e p = subst (λ (n : ℕ). Puts (n * w) out at (blocks f (rows g n)) out' r) e p

pub timers_used : (ts : List Timer) → rows (used no_timer cap ts) cap ≡ rows (λ j. get_or ts j no_timer) cap
timers_used ts = rows_ext (used no_timer cap ts) (λ j. get_or ts j no_timer) cap (λ j q. used_in no_timer cap ts j q)
