-- Laws of the rules of push and remove, which the proofs of the code cite: how a walk steps and stops, which child it goes to, and
-- that each entry's slot stays a slot of the slab.
-- Assumes nothing.
use mathlib.Core.Path.{◌≡◌, refl, sym, subst}
use mathlib.Core.List.{List, [], ◌∷◌}
use mathlib.Core.Bool.{Bool, true, false}
use mathlib.Core.Logic.{◌≢◌, by_cases}
use Prim.Native.Nat.{ℕ, zero, suc, ◌+◌, ◌-◌, ◌*◌, ◌<◌, ◌≤◌}
use native.Mathlib.Decide.{ℕ_discrete}
use native.Mathlib.Omega.{arith}
use lib.Dec.{ltb}
use lib.ListN.{get_or, set}
use lib.Seq.{get_or-set_other}
use borrow.Author.Tests.{eq-eqb, ne_eqb, ltb-true}
use Rattle.theory.specs.Order.{parent}
use Rattle.heap.specs.Capacity.{cap}
use Rattle.heap.specs.declared.Slot.{Slot}
use Rattle.heap.specs.declared.Entry.{Entry}
use Rattle.heap.specs.declared.Heap.{Heap}
use Rattle.heap.specs.Rules.{no_entry, entry_at, slot_at, before, put_at, swap_at, rises_at, moved, up_from, pick_child, child_of, down_from, taken_of, with_len, added_of, vacated_of}
use Rattle.heap.specs.Sound.{SlotsIn}

-- what the stored element and the old one at a place have, the element at that place has after the store
set_either : {A : Type 0} (P : A → Type 0) (l : List A) (i k : ℕ) (a d : A) → P a → P (get_or l k d) → P (get_or (set l i a) k d)
set_either P [] i k a d p q = q
set_either P (x ∷ l) zero zero a d p q = p
set_either P (x ∷ l) zero (suc k) a d p q = q
set_either P (x ∷ l) (suc i) zero a d p q = q
set_either P (x ∷ l) (suc i) (suc k) a d p q = set_either P l i k a d p q

-- what the stored element has, and what is read past the end, the element there has after the store
set_here : {A : Type 0} (P : A → Type 0) (l : List A) (i : ℕ) (a d : A) → P a → P d → P (get_or (set l i a) i d)
set_here P [] i a d p q = q
set_here P (x ∷ l) zero a d p q = p
set_here P (x ∷ l) (suc i) a d p q = set_here P l i a d p q

-- a store of an entry keeps the length
pub len_put : (h : Heap) (i : ℕ) (e : Entry) → (put_at h i e).len ≡ h.len
unfolding put_at
len_put h i e = refl

-- a swap keeps the length
pub len_swap : (h : Heap) (i j : ℕ) → (swap_at h i j).len ≡ h.len
unfolding swap_at put_at
len_swap h i j = refl

-- emptying a slot keeps the length
pub len_vacated : (h : Heap) (s : Slot) → (vacated_of h s).len ≡ h.len
unfolding vacated_of
len_vacated h s = refl

-- taking the free head keeps the length
pub len_taken : (h : Heap) → (taken_of h).len ≡ h.len
unfolding taken_of
len_taken h = refl

-- an entry more makes the length one more
pub len_added : (h : Heap) (e : Entry) → (added_of h e).len ≡ h.len + 1
unfolding added_of put_at
len_added h e = refl

-- a store of an entry whose slot is in the slab keeps the slots in it
slots_in_put : (h : Heap) (i : ℕ) (e : Entry) → e.slot.0 < cap → SlotsIn h → SlotsIn (put_at h i e)
unfolding put_at
slots_in_put h i e p r =
    record { len_in = r.len_in; slots_in_range = λ k b. set_either (λ (x : Entry). x.slot.0 < cap) h.entries i k e no_entry p (r.slots_in_range k b) }

-- so does a swap of two entries of the heap
pub slots_in_swap : (h : Heap) (i j : ℕ) → i < h.len → j < h.len → SlotsIn h → SlotsIn (swap_at h i j)
unfolding swap_at
slots_in_swap h i j p q r = slots_in_put _ _ _ (r.slots_in_range i p) (slots_in_put _ _ _ (r.slots_in_range j q) r)

-- so does a heap of fewer entries
slots_in_short : (h : Heap) (n : ℕ) → n ≤ h.len → SlotsIn h → SlotsIn (with_len h n)
slots_in_short h n p r = record { len_in = omega arith; slots_in_range = λ k b. r.slots_in_range k (omega arith) }

-- so does emptying a slot
pub slots_in_vacated : (h : Heap) (s : Slot) → SlotsIn h → SlotsIn (vacated_of h s)
unfolding vacated_of
slots_in_vacated h s r = record { len_in = r.len_in; slots_in_range = r.slots_in_range }

-- so does taking the free head
pub slots_in_taken : (h : Heap) → SlotsIn h → SlotsIn (taken_of h)
unfolding taken_of
slots_in_taken h r = record { len_in = r.len_in; slots_in_range = r.slots_in_range }

-- so does an entry more, where there is room and its slot is in the slab
pub slots_in_added : (h : Heap) (e : Entry) → h.len < cap → e.slot.0 < cap → SlotsIn h → SlotsIn (added_of h e)
unfolding added_of put_at
slots_in_added h e l p r =
    record {
      len_in = omega arith;
      slots_in_range = λ k b. by_cases (ℕ_discrete k h.len)
          (λ q. subst (λ (j : ℕ). (get_or (set h.entries h.len e) j no_entry).slot.0 < cap) (sym q)
          (set_here (λ (x : Entry). x.slot.0 < cap) h.entries h.len e no_entry p (omega arith)))
          (λ q. subst (λ (x : Entry). x.slot.0 < cap) (sym (get_or-set_other h.entries h.len k e no_entry q)) (r.slots_in_range k (omega arith)));
    }

-- the last entry of a heap that has one has its slot in the slab
last_in : (h : Heap) → SlotsIn h → (p : ℕ) → p < h.len → slot_at h (h.len - 1) < cap
last_in h r p b = r.slots_in_range (h.len - 1) (omega arith)

-- so does the last entry's move into a hole of the heap that is one shorter
pub slots_in_filled : (h : Heap) (p : ℕ) → p < h.len → SlotsIn h → SlotsIn (put_at (with_len h (h.len - 1)) p (entry_at h (h.len - 1)))
slots_in_filled h p b r = slots_in_put _ _ _ (last_in h r p b) (slots_in_short h (h.len - 1) (omega arith) r)

-- off the head an entry rises where it is smaller than its parent
pub rises_is : (h : Heap) (i : ℕ) → 0 < i → rises_at h i ≡ before (entry_at h i) (entry_at h (parent i))
unfolding rises_at
rises_is h i p = let n : i ≢ 0 = omega arith in rw (ne_eqb i 0 n)

-- at the head it does not rise
pub top_stays : (h : Heap) (i : ℕ) → i ≡ 0 → rises_at h i ≡ false
unfolding rises_at
top_stays h i p = rw p

-- an entry that does not rise is at the end of its way up
pub up_stop : (k : ℕ) (h : Heap) (i n : ℕ) → rises_at h i ≡ false → up_from k h i n ≡ moved h i n
unfolding up_from
up_stop zero h i n p = refl
up_stop (suc k) h i n p = simp p

-- an entry that rises changes places with its parent and goes on from there
pub up_step : (k k' : ℕ) (h : Heap) (i n : ℕ) → k ≡ suc k' → rises_at h i ≡ true → up_from k h i n ≡ up_from k' (swap_at h i (parent i)) (parent i) (n + 1)
unfolding up_from
up_step k k' h i n q p = rw (q, p)

-- an entry with no child to go to is at the end of its way down
pub down_stop : (k : ℕ) (h : Heap) (i n : ℕ) → child_of h i ≡ i → down_from k h i n ≡ moved h i n
unfolding down_from
down_stop zero h i n p = refl
down_stop (suc k) h i n p = simp (eq-eqb _ _ p)

-- an entry with a child to go to changes places with it and goes on from there
pub down_step : (k k' : ℕ) (h : Heap) (i n : ℕ) → k ≡ suc k' → (child_of h i ≡ i → ⊥) → down_from k h i n ≡ down_from k' (swap_at h i (child_of h i)) (child_of h i) (n + 1)
unfolding down_from
down_step k k' h i n q p = rw (q, ne_eqb _ _ p)

-- the child that an entry goes to, by what the tests of it say
pub child_picks : (h : Heap) (i : ℕ) {l r a b d : Bool} → ltb (2 * i + 1) h.len ≡ l → ltb (2 * i + 2) h.len ≡ r
    → before (entry_at h (2 * i + 1)) (entry_at h i) ≡ a → before (entry_at h (2 * i + 2)) (entry_at h (2 * i + 1)) ≡ b
    → before (entry_at h (2 * i + 2)) (entry_at h i) ≡ d → child_of h i ≡ pick_child l r a b d i
unfolding child_of
child_picks h i p q x y z = λ t. pick_child (p t) (q t) (x t) (y t) (z t) i

below : (l r a b d : Bool) (i n : ℕ) → (l ≡ true → 2 * i + 1 < n) → (r ≡ true → 2 * i + 2 < n)
    → (pick_child l r a b d i ≡ i → ⊥) → (i < pick_child l r a b d i) × (pick_child l r a b d i < n)
below false r a b d i n p q f = absurd (f refl)
below true false false b d i n p q f = absurd (f refl)
below true false true b d i n p q f = omega (arith, p refl)
below true true true true d i n p q f = omega (arith, q refl)
below true true true false d i n p q f = omega (arith, p refl)
below true true false b true i n p q f = omega (arith, q refl)
below true true false b false i n p q f = absurd (f refl)

-- the child that an entry goes to stands below it, and in the heap
pub child_below : (h : Heap) (i : ℕ) → (child_of h i ≡ i → ⊥) → (i < child_of h i) × (child_of h i < h.len)
unfolding child_of
child_below h i = below _ _ _ _ _ i h.len (ltb-true _ _) (ltb-true _ _)
