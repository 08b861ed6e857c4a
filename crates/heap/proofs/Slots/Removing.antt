-- A removal puts the vacated slot in front of the free chain, and the last entry takes its slot along into the hole: the slab is
-- kept.
-- Assumes nothing.
use mathlib.Core.Path.{◌≡◌, refl, sym, ◌∙◌, ap}
use mathlib.Core.Bool.{true, false}
use Prim.Native.Nat.{ℕ, suc, ◌-◌, ◌<◌}
use native.Mathlib.Omega.{arith}
use lib.ListN.{length, length-set}
use lib.Seq.{get_or-set_same, get_or-set_other}
use borrow.Author.Tests.{ne_eqb}
use Rattle.theory.specs.Counting.{count}
use Rattle.theory.specs.Chain.{unless}
use Rattle.theory.proofs.Tests.{by-ref, ref_eq}
use Rattle.theory.proofs.Counting.{count_off}
use Rattle.theory.proofs.ChainChange.{push_ok}
use Rattle.heap.specs.declared.Slot.{Slot}
use Rattle.heap.specs.declared.Pos.{Pos}
use Rattle.heap.specs.declared.SlabSlot.{SlabSlot}
use Rattle.heap.specs.declared.SlotState.TheVariants.{Full, Empty}
use Rattle.heap.specs.declared.Heap.{Heap}
use Rattle.heap.specs.Rules.{no_slot, entry_at, state_at, slot_at, put_at, with_len, vacated_of}
use Rattle.heap.specs.Faults.{is_full, link_of, full_at, empty_at, next_at}
use Rattle.heap.specs.Sound.{Placed}
use Rattle.heap.specs.Slab.{Slab}
use Rattle.heap.proofs.Slots.Slab.{back, slot_apart, not_full_at, full_at_lem}
use Rattle.heap.proofs.Slots.Stored.{entry_same, entry_other, put_here, put_there}
use Rattle.heap.proofs.Slots.Spare.{Spare, Alike, alike_both, alike_spare, len_alike, put_alike, empty_same, empty_tells, full_empty, link_empty}
use Rattle.heap.proofs.Walking.Steps.{move_last}

-- the slot t is full with the position p
module _ (h : Heap) (s : Slab h) (t : Slot) (p : Pos) (b : t.0 < h.made) (full : state_at h t.0 ≡ Full p) where
  -- the position is one of the heap's
  pub here : p.0 < h.len
  here = (back h s t.0 p b full).0

  -- the slot is that of the entry there
  pub own : slot_at h p.0 ≡ t.0
  own = (back h s t.0 p b full).1

  -- no other entry has it
  not_own : (q : ℕ) → q < h.len → (q ≡ p.0 → ⊥) → slot_at h q ≡ t.0 → ⊥
  not_own q c f e = slot_apart h s q p.0 c here f (e ∙ sym own)

  abbrev gone : Heap
  gone = vacated_of h t

  -- the slot is empty and names the old free head
  pub gone_state : state_at gone t.0 ≡ Empty h.free
  unfolding vacated_of
  gone_state = ap (λ (y : SlabSlot). y.state) (get_or-set_same h.slots t.0 _ no_slot (omega (arith, s.slots_long, s.made_in)))

  -- no other slot changes
  gone_stays : (k : ℕ) → (k ≡ t.0 → ⊥) → state_at gone k ≡ state_at h k
  unfolding vacated_of
  gone_stays k f = ap (λ (y : SlabSlot). y.state) (get_or-set_other h.slots t.0 k _ no_slot f)

  -- no other slot becomes full, or empty
  pub gone_full : (k : ℕ) → (k ≡ t.0 → ⊥) → full_at gone k ≡ full_at h k
  unfolding full_at
  gone_full k f = ap is_full (gone_stays k f)

  gone_next : (k : ℕ) → (k ≡ t.0 → ⊥) → next_at h k ≡ next_at gone k
  unfolding next_at vacated_of
  gone_next k f = ap (link_of h.made) (sym (gone_stays k f))

  -- an entry that stays is named as before
  gone_named : (q : ℕ) → q < h.len → (q ≡ p.0 → ⊥) → Placed gone q
  unfolding vacated_of
  gone_named q c f = ((s.forth q c).0, gone_stays (slot_at h q) (not_own q c f) ∙ (s.forth q c).1)

  -- one slot less is full, and the free chain has it in front
  gone_spare : Spare gone (h.len - 1)
  unfolding vacated_of
  gone_spare =
      let off : full_at gone t.0 ≡ false = not_full_at gone t.0 h.free gone_state in
      let on : full_at h t.0 ≡ true = full_at_lem h t.0 p full in
      let n : count (full_at h) h.made ≡ suc (count (full_at gone) h.made) = count_off (full_at gone) (full_at h) h.made t.0 gone_full off on b in
      record {
        counted = omega (arith, s.counted);
        chained =
            rw (ne_eqb t.0 h.made (λ q. omega arith))
            (push_ok (empty_at h) (empty_at gone) (next_at h) (next_at gone) h.made t.0
            (λ k f. empty_same gone h k refl (sym (gone_full k f))) gone_next
            (unless h.made h.free.0) b (full_empty h t.0 on) (empty_tells gone t.0 b off)
            (link_empty gone t.0 h.free gone_state) s.chained).0;
      }

  -- the hole was the last position
  pub slab_last : p.0 ≡ h.len - 1 → Slab (with_len gone (h.len - 1))
  unfolding vacated_of
  slab_last l =
      let r = alike_spare gone (with_len gone (h.len - 1)) (h.len - 1) (len_alike gone (h.len - 1)) gone_spare in
      record {
        entries_long = s.entries_long;
        slots_long = simp length-set s.slots_long;
        len_in = omega (arith, s.len_in);
        made_in = s.made_in;
        counted = r.counted;
        forth = λ q c. gone_named q (omega arith) (λ e. omega arith);
        chained = r.chained;
      }

  -- it was not: the last entry moves there
  module _ (f : p.0 ≡ h.len - 1 → ⊥) where
    last_in : h.len - 1 < h.len
    last_in = omega (arith, here)

    abbrev short : Heap
    short = with_len gone (h.len - 1)

    -- the last entry stands in the hole
    pub fill_entry : entry_at (move_last h t p) p.0 ≡ entry_at h (h.len - 1)
    unfolding vacated_of
    fill_entry = entry_same short p.0 (entry_at h (h.len - 1)) (omega (arith, s.entries_long, s.len_in, here))

    -- elsewhere what stood there
    pub fill_other : (q : ℕ) → (q ≡ p.0 → ⊥) → entry_at (move_last h t p) q ≡ entry_at h q
    unfolding vacated_of
    fill_other q g = entry_other short p.0 (entry_at h (h.len - 1)) q g

    slot_in_range : slot_at h (h.len - 1) < length gone.slots
    unfolding vacated_of
    slot_in_range = simp length-set (omega (arith, s.slots_long, s.made_in, (s.forth (h.len - 1) last_in).0))

    -- the same slots are full as once the slot is vacated
    pub fill_alike : Alike gone (move_last h t p)
    unfolding vacated_of
    fill_alike =
        alike_both gone short (move_last h t p) (len_alike gone (h.len - 1))
        (put_alike short p.0 (entry_at h (h.len - 1)) slot_in_range
        (full_at_lem short (slot_at h (h.len - 1)) _ gone_last.1))
      where
        gone_last : Placed gone (h.len - 1)
        gone_last = gone_named (h.len - 1) last_in (λ e. f (sym e))

    fill_forth : (q : ℕ) → q < h.len - 1 → Placed (move_last h t p) q
    unfolding vacated_of put_at
    fill_forth q c =
        by-ref (ref_eq q p.0)
        (λ e. rw e
        (put_here short p.0 (entry_at h (h.len - 1)) (omega (arith, s.entries_long, s.len_in, here)) slot_in_range (s.forth (h.len - 1) last_in).0))
        (λ n. let d : q < h.len = omega arith in
        put_there short p.0 (entry_at h (h.len - 1)) q n (slot_apart h s q (h.len - 1) d last_in (λ e. omega arith)) (gone_named q d n))

    -- the slab is kept
    pub slab_fill : Slab (move_last h t p)
    unfolding put_at vacated_of
    slab_fill =
        let r = alike_spare gone (move_last h t p) (h.len - 1) fill_alike gone_spare in
        record {
          entries_long = simp length-set s.entries_long;
          slots_long = simp length-set s.slots_long;
          len_in = omega (arith, s.len_in);
          made_in = s.made_in;
          counted = r.counted;
          forth = fill_forth;
          chained = r.chained;
        }
