-- What is read after an entry is put at a position, and after that which positions and slots name each other.
-- Assumes nothing.
use mathlib.Core.Path.{◌≡◌, ◌∙◌, ap}
use Prim.Native.Nat.{ℕ, ◌<◌}
use lib.ListN.{length, length-set}
use lib.Seq.{get_or-set_same, get_or-set_other}
use Rattle.heap.specs.declared.Entry.{Entry}
use Rattle.heap.specs.declared.SlabSlot.{SlabSlot}
use Rattle.heap.specs.declared.SlotState.TheVariants.{Full}
use Rattle.heap.specs.declared.Heap.{Heap}
use Rattle.heap.specs.Rules.{no_slot, entry_at, state_at, slot_at, put_at}
use Rattle.heap.specs.Sound.{Placed}

-- an entry's slot number
abbrev pub slot_of : Entry → ℕ
slot_of e = e.slot.0

-- a position whose entry has the slot q, which names it
named_by : (h : Heap) (p q : ℕ) → slot_at h p ≡ q → q < h.made → state_at h q ≡ Full (record { 0 = p }) → Placed h p
named_by h p q e b f = (rw e b, ap (state_at h) e ∙ f)

module _ (h : Heap) (i : ℕ) (e : Entry) where
  -- the entry stands there
  pub entry_same : i < length h.entries → entry_at (put_at h i e) i ≡ e
  unfolding put_at
  entry_same b = rw get_or-set_same

  -- at other positions nothing changes
  pub entry_other : (j : ℕ) → (j ≡ i → ⊥) → entry_at (put_at h i e) j ≡ entry_at h j
  unfolding put_at
  entry_other j f = rw get_or-set_other

  -- the entry's slot is full with the position
  pub state_same : slot_of e < length h.slots → state_at (put_at h i e) (slot_of e) ≡ Full (record { 0 = i })
  unfolding put_at
  state_same b = ap (λ (y : SlabSlot). y.state) (get_or-set_same h.slots (slot_of e) _ no_slot b)

  -- no other slot changes
  pub state_other : (s : ℕ) → (s ≡ slot_of e → ⊥) → state_at (put_at h i e) s ≡ state_at h s
  unfolding put_at
  state_other s f = ap (λ (y : SlabSlot). y.state) (get_or-set_other h.slots (slot_of e) s _ no_slot f)

  -- the array keeps its length
  pub long_entries : length (put_at h i e).entries ≡ length h.entries
  unfolding put_at
  long_entries = simp length-set

  -- and so does the slab
  pub long_slots : length (put_at h i e).slots ≡ length h.slots
  unfolding put_at
  long_slots = simp length-set

  -- the position and the entry's slot name each other
  pub put_here : i < length h.entries → slot_of e < length h.slots → slot_of e < h.made → Placed (put_at h i e) i
  unfolding put_at
  put_here a b c = named_by (put_at h i e) i (slot_of e) (ap slot_of (entry_same a)) c (state_same b)

  -- another position, with another slot, is named as before
  pub put_there : (j : ℕ) → (j ≡ i → ⊥) → (slot_at h j ≡ slot_of e → ⊥) → Placed h j → Placed (put_at h i e) j
  unfolding put_at
  put_there j f g n = named_by (put_at h i e) j (slot_at h j) (ap slot_of (entry_other j f)) n.0 (state_other (slot_at h j) g ∙ n.1)
