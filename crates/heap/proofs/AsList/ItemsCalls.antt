-- A push and a removal on a heap are the push and the removal on its list. The slots make no difference to the entries.
-- Assumes nothing.
use mathlib.Core.Path.{◌≡◌, refl, sym, ◌∙◌}
use mathlib.Core.List.{[], ◌∷◌, ◌++◌}
use Prim.Native.Nat.{ℕ, ◌+◌, ◌-◌, ◌≤◌, ◌<◌}
use native.Mathlib.Numerals.{add-one}
use native.Mathlib.Omega.{arith}
use lib.ListN.{length, set, length-set}
use lib.Seq.{take-take, take-suc-set}
use borrow.Author.Tests.{eq-eqb, ne_eqb}
use Rattle.theory.specs.Heap as T
use Rattle.theory.proofs.Order.{split}
use Rattle.theory.proofs.Walks.{up_fuel}
use Rattle.heap.specs.declared.Slot.{Slot}
use Rattle.heap.specs.declared.Pos.{Pos}
use Rattle.heap.specs.declared.Place.{Place}
use Rattle.heap.specs.declared.Entry.{Entry}
use Rattle.heap.specs.declared.Heap.{Heap}
use Rattle.heap.specs.Rules.{no_entry, entry_at, items, key, before, put_at, taken_of, with_len, added_of, new_entry, pushed_of, vacated_of, filled_of, removed_of}
use Rattle.heap.proofs.AsList.Items.{items_length, items_at, items_put, put_len, put_long, Walked, walked_stay, walked_as, choose}
use Rattle.heap.proofs.AsList.ItemsUp.{up_walked}
use Rattle.heap.proofs.AsList.ItemsDown.{down_walked}

module _ (h : Heap) (e : Entry) where
  -- one entry more
  added_len : (added_of (taken_of h) e).len ≡ h.len + 1
  unfolding added_of taken_of put_at
  added_len = refl

  -- and the same room
  added_long : length (added_of (taken_of h) e).entries ≡ length h.entries
  unfolding added_of taken_of put_at
  added_long = length-set h.entries h.len e

  -- an entry that goes last is last in the list
  items_added : h.len < length h.entries → items (added_of (taken_of h) e) ≡ items h ++ (e ∷ [])
  unfolding added_of taken_of put_at
  items_added room = rw (add-one h.len) (take-suc-set h.entries h.len e room)

-- a push on the heap is the push on the list
pub push_walked : (h : Heap) (at g : ℕ) (place : Place) → h.len < length h.entries
    → Walked (h.len + 1) (length h.entries) 0 (pushed_of h at g place) (T.push key no_entry (items h) (new_entry h at g place))
unfolding pushed_of T.push
push_walked h at g place room =
    let e = new_entry h at g place in
    let n = items_length h (omega arith) in
    walked_as (added_len h e) (added_long h e) (λ t. T.up_from key no_entry (sym n t) (items_added h e room t) (sym n t))
    (up_walked h.len (added_of (taken_of h) e) h.len 0 (omega (arith, added_len h e)))

-- the last entry in another's place
abbrev pub filling_of : Heap → ℕ → Heap
filling_of h p = put_at (with_len h (h.len - 1)) p (entry_at h (h.len - 1))

-- the same in the list
items_fill : (h : Heap) (p : ℕ) → h.len ≤ length h.entries → p < h.len - 1 → items (filling_of h p) ≡ T.fill no_entry (items h) p
unfolding T.fill
items_fill h p fits inside =
    rw items_length
    (items_put (with_len h (h.len - 1)) p (entry_at h (h.len - 1)) inside
    ∙ (λ t. set (sym (take-take (h.len - 1) h.len h.entries (omega arith)) t) p (sym (items_at h (h.len - 1) (omega arith)) t)))

-- filling a hole in the heap is a removal from the list
fill_walked : (h : Heap) (p : ℕ) → h.len ≤ length h.entries → p < h.len
    → Walked (h.len - 1) (length h.entries) 0 (filled_of h p) (T.removeAt key no_entry (items h) p)
unfolding filled_of T.removeAt
fill_walked h p fits lt =
    let n = h.len - 1 in
    let last = entry_at h n in
    let len : (filling_of h p).len ≡ n = put_len (with_len h n) p last in
    let room : length (filling_of h p).entries ≡ length h.entries = put_long (with_len h n) p last in
    let ys = T.fill no_entry (items h) p in
    rw items_length
    (split p n
    (λ e. rw (eq-eqb p n e) (walked_as refl refl (λ t. T.stay (sym (take-take n h.len h.entries (omega arith)) t) p) (walked_stay (with_len h n) p 0)))
    (λ m. rw (ne_eqb p n m, items_at h n (omega arith), items_at h p lt)
    (choose (Walked n (length h.entries) 0) (before last (entry_at h p))
    (walked_as len room ((λ t. T.up_from key no_entry p (items_fill h p fits (omega arith) t) p) ∙ up_fuel key no_entry p n ys p (omega arith) (omega arith))
    (up_walked p (filling_of h p) p 0 (omega arith)))
    (walked_as len room (λ t. T.down_from key no_entry n (items_fill h p fits (omega arith) t) (len t) p)
    (down_walked n (filling_of h p) p 0 (omega arith))))))

-- a removal from the heap is the removal from the list
pub remove_walked : (h : Heap) (s : Slot) (p : Pos) → h.len ≤ length h.entries → p.0 < h.len
    → Walked (h.len - 1) (length h.entries) 0 (removed_of h s p) (T.removeAt key no_entry (items h) p.0)
unfolding removed_of vacated_of
remove_walked h s p fits lt = fill_walked (vacated_of h s) p.0 fits lt
