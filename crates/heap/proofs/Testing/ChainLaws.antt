-- The test of the free chain, turn by turn: what one turn of the walk along it, which marks the slots that it meets, makes of its
-- rule.
-- Assumes nothing.
use mathlib.Core.Path.{◌≡◌, sym, ◌∙◌, ap, subst}
use mathlib.Core.Logic.{◌≢◌}
use mathlib.Core.Bool.{Bool, true, false, not}
use mathlib.Core.Option.{Option, none, some}
use mathlib.Core.List.{List}
use Prim.Native.Nat.{ℕ, ◌+◌, ◌-◌, ◌<◌, ◌≤◌}
use native.Mathlib.Decide.{ℕ_discrete}
use native.Mathlib.Omega.{arith}
use lib.ListN.{length, get_or, set, replicate, length-set, length-replicate, get_or-replicate}
use lib.Seq.{get_or-set_same, get_or-set_other}
use borrow.Author.Tests.{eq-eqb, ne_eqb}
use Rattle.theory.specs.Counting.{count}
use Rattle.theory.specs.Chain.{unless}
use Rattle.theory.specs.WrongStep.{wrong_step}
use Rattle.theory.proofs.WrongTurns.{Walking, walk_starts, walk_short, walk_stranger, walk_again, walk_goes, walk_ends, walk_long}
use Rattle.refusals.specs.declared.fault.Fault.TheVariants.{FreeChain}
use Rattle.refusals.specs.Faults.{fault_by}
use Rattle.heap.specs.Capacity.{cap}
use Rattle.heap.specs.declared.Pos.{Pos}
use Rattle.heap.specs.declared.Slot.{Slot}
use Rattle.heap.specs.declared.SlotState.TheVariants.{Full, Empty}
use Rattle.heap.specs.declared.Heap.{Heap}
use Rattle.heap.specs.Rules.{state_at}
use Rattle.heap.specs.Faults.{link_of, empty_at, next_at, chain_fault}
use Rattle.heap.specs.Sound.{Counted}
use Rattle.heap.proofs.Slots.Slab.{full_at_lem}
use Rattle.heap.proofs.Soundness.SoundFacts.{empty_not, empty_full, empty_made}
use Rattle.heap.proofs.Testing.FaultLaws.{full_no, empty_past}

-- the chain as a walk along it finds it: n slots are empty, it has met k, stands at a slot and has marked those that it met
pub record OnChain (h : Heap) (n k at : ℕ) (met : List Bool) : Type 0 where
  pub many : n ≡ count (empty_at h) h.made
  pub room : length met ≡ cap
  pub walk : Walking (empty_at h) (next_at h) h.made (unless h.made h.free.0) k (unless h.made at) (λ x. get_or met x false)

module _ (h : Heap) where
  -- the walk begins with as many slots to meet as there are slots less entries, and none marked
  pub chain_starts : Counted h → OnChain h (h.made - h.len) 0 h.free.0 (replicate cap false)
  chain_starts k = record {
    many = omega (arith, empty_full h, k.counted);
    room = length-replicate cap false;
    walk = walk_starts (empty_at h) (next_at h) h.made (unless h.made h.free.0) (λ x b. get_or-replicate cap x false false (omega (arith, k.made_in)));
  }

  module _ {n k at : ℕ} {met : List Bool} (w : OnChain h n k at met) where
    -- where the chain stands: at a slot that is not its end, or at its end
    stands : at ≢ h.made → Walking (empty_at h) (next_at h) h.made (unless h.made h.free.0) k (some at) (λ x. get_or met x false)
    stands d = rw (ne_eqb at h.made d) at w.walk

    ended : at ≡ h.made → Walking (empty_at h) (next_at h) h.made (unless h.made h.free.0) k none (λ x. get_or met x false)
    ended e = rw (eq-eqb at h.made e) at w.walk

    -- the fault is at this step where the chain goes wrong there
    wrong : wrong_step (empty_at h) (next_at h) h.made (unless h.made h.free.0) ≡ some k → some (FreeChain k) ≡ chain_fault h
    unfolding chain_fault
    wrong e = sym (ap (fault_by FreeChain) e)

    -- a slot that was not made is the fault, and so is an end too soon
    pub chain_past : k < n → h.made ≤ at → some (FreeChain k) ≡ chain_fault h
    chain_past l g = go (ℕ_discrete at h.made)
      where
        go : Dec (at ≡ h.made) → some (FreeChain k) ≡ chain_fault h
        go (yes e) = wrong (walk_short (empty_at h) (next_at h) h.made _ (ended e) (omega (arith, w.many)))
        go (no e) = wrong (walk_stranger (empty_at h) (next_at h) h.made _ (stands e) (empty_past h at g))

    -- a slot that was met before is the fault
    pub chain_again : at < h.made → get_or met at false ≡ true → some (FreeChain k) ≡ chain_fault h
    chain_again g m = wrong (walk_again (empty_at h) (next_at h) h.made _ (stands (λ e. omega arith)) g m)

    -- a slot that is full is the fault
    pub chain_full : {p : Pos} → at < h.made → state_at h at ≡ Full p → some (FreeChain k) ≡ chain_fault h
    chain_full {p} g e =
        wrong (walk_stranger (empty_at h) (next_at h) h.made _ (stands (λ e. omega arith)) (empty_not h at g ∙ ap not (full_at_lem h at p e)))

    -- after a slot that is empty and was not met the walk goes on
    pub chain_goes : {s : Slot} → Counted h → k < n → at < h.made → get_or met at false ≡ false → state_at h at ≡ Empty s
        → OnChain h n (k + 1) s.0 (set met at true)
    unfolding next_at
    chain_goes {s} c l g m e = record {
      many = w.many;
      room = length-set met at true ∙ w.room;
      walk = subst (λ (o : Option ℕ). Walking (empty_at h) (next_at h) h.made (unless h.made h.free.0) (k + 1) o (λ x. get_or (set met at true) x false))
          (ap (link_of h.made) e)
          (walk_goes (empty_at h) (next_at h) h.made _ (stands (λ e. omega arith)) (omega (arith, w.many)) g
          (empty_not h at g ∙ ap not (full_no h at e)) m
          (get_or-set_same met at true false (omega (arith, w.room, c.made_in))) (λ y d. get_or-set_other met at y true false d));
    }

    -- with every empty slot met, there is no fault where the chain has ended
    pub chain_ends : n ≤ k → at ≡ h.made → none ≡ chain_fault h
    unfolding chain_fault
    chain_ends l e =
        sym (ap (fault_by FreeChain) (walk_ends (empty_at h) (next_at h) h.made _ (omega (arith, w.many, w.walk.within)) (ended e)))

    -- and one where it goes on
    pub chain_long : n ≤ k → at ≢ h.made → some (FreeChain n) ≡ chain_fault h
    chain_long l d =
        let e : k ≡ n = omega (arith, w.many, w.walk.within) in
        subst (λ (j : ℕ). some (FreeChain j) ≡ chain_fault h) e
        (wrong (walk_long (empty_at h) (next_at h) h.made _ (omega (arith, w.many, w.walk.within)) (empty_made h) (stands d)))
