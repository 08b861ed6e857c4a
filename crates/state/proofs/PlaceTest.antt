-- What the tests of one place and of one heap entry tell, and the scan over the entries.
-- Assumes nothing.
use mathlib.Core.Path.{◌≡◌, refl, sym, ap, subst}
use mathlib.Core.Bool.{Bool, true, false, not, cond, ◌&&◌, true≢false, false≢true}
use mathlib.Core.Option.{Option, none, some}
use Prim.Native.Nat.{ℕ, zero, suc, ◌<◌, ◌^◌}
use native.Mathlib.Omega.{arith}
use Rattle.std.specs.Prelude as Code
use Rattle.std.specs.Prelude.{Some, None}
use Rattle.theory.specs.Tests.{Ref, holds, fails}
use Rattle.theory.specs.Chain.{clear}
use Rattle.theory.proofs.Tests.{ref_by, ref_lt, ref_eq, ref_and, ref_map, true_false}
use Rattle.theory.proofs.Order.{split}
use Rattle.heap.specs.Capacity.{cap}
use Rattle.heap.specs.declared.Slot.{Slot}
use Rattle.heap.specs.declared.Pos.{Pos}
use Rattle.heap.specs.declared.Heap.{Heap}
use Rattle.heap.specs.declared.SlotState.{SlotState}
use Rattle.heap.specs.declared.SlotState.TheVariants.{Full, Empty}
use Rattle.heap.specs.Rules.{entry_at, state_at}
use Rattle.word.specs.Rules.{invalid_in}
use Rattle.state.specs.declared.Life.{Life}
use Rattle.state.specs.declared.Life.TheVariants.{Free, Live, Cancelled, Retired}
use Rattle.state.specs.declared.Waiting.{Waiting}
use Rattle.state.specs.declared.Waiting.TheVariants.{No, Last, Before}
use Rattle.state.specs.declared.Timer.{Timer}
use Rattle.state.specs.declared.Set.{Set}
use Rattle.state.specs.State.{timer_at, is_waiting}
use Rattle.state.specs.Faults.{is_nothing, is_slot, entry_has, held_ok, idle_in, life_ok, closed_ok, place_ok, entry_ok, lower, entry_scan}
use Rattle.state.specs.Sound.{Unused, Owns}
use Rattle.state.specs.Named.{Goes, PlaceRight, EntryRight}

-- a test tells that it is true, and its negation that it is false
pub ref_self : (b : Bool) → Ref (b ≡ true) b
ref_self b = ref_by b (λ e. e) (λ e q. true_false q e)

ref_off : (b : Bool) → Ref (b ≡ false) (not b)
ref_off true = fails true≢false
ref_off false = holds refl

-- not waiting, and naming no slot
pub ref_still : (w : Waiting) → Ref (w ≡ No) (not (is_waiting w))
ref_still No = holds refl
ref_still Last = fails (λ e. cc)
ref_still (Before q) = fails (λ e. cc)

-- a timer that names a slot does not name none
pub held_some : {d : Code.Option Slot} {q : Slot} → d ≡ Some q → d ≡ None → ⊥
held_some e n = cc

ref_bare : (d : Code.Option Slot) → Ref (d ≡ None) (is_nothing d)
ref_bare None = holds refl
ref_bare (Some q) = fails (held_some refl)

ref_idle : (t : Timer) → Ref (Unused t) (idle_in t)
ref_idle t =
    ref_map (ref_and (ref_still t.waiting) (ref_bare t.held)) (λ u. record { still = u.0; bare = u.1 })
    (λ u. (u.still, u.bare))

-- naming this slot
ref_slot : (d : Code.Option Slot) (q : Slot) → Ref (d ≡ Some q) (is_slot d q.0)
ref_slot None q = fails (λ e. held_some e refl)
ref_slot (Some r) q =
    ref_map (ref_eq r.0 q.0) (λ e i. Some (record { 0 = e i })) (λ e. let z : r ≡ q = cc in ap (λ (x : Slot). x.0) z)

-- a full slot whose entry holds the place
ref_has : (h : Heap) (x : SlotState) (p : ℕ) → Ref ((i : Pos) × (x ≡ Full i) × ((entry_at h i.0).place.0 ≡ p)) (entry_has h x p)
ref_has h (Full i) p =
    ref_map (ref_eq (entry_at h i.0).place.0 p) (λ e. (i, refl, e))
    (λ r. let z : r.0 ≡ i = cc in subst (λ (j : Pos). (entry_at h j.0).place.0 ≡ p) z r.2)
ref_has h (Empty n) p = fails (λ r. cc (r.1))

module _ (s : Set) (p : ℕ) where
  -- the slot's entry is the timer's own
  ref_own : (q : Slot) → Ref (Owns s p q) (held_ok s.heap p (Some q))
  ref_own q =
      ref_map (ref_and (ref_lt q.0 s.heap.made) (ref_has s.heap (state_at s.heap q.0) p))
      (λ r. record { made = r.0; where_it_stands = r.1.0; full = r.1.1; own = r.1.2 })
      (λ o. (o.made, (o.where_it_stands, o.full, o.own)))

  ref_held : (d : Code.Option Slot) → Ref ((q : Slot) → d ≡ Some q → Owns s p q) (held_ok s.heap p d)
  ref_held None = holds (λ q e. absurd (held_some e refl))
  ref_held (Some r) = ref_map (ref_own r) (λ o q e. let z : r ≡ q = cc in subst (Owns s p) z o) (λ f. f r refl)

ref_life : (closed : Bool) (t : Timer) (l : Life) → Ref (Goes closed t l) (life_ok closed t l)
ref_life c t Free = ref_idle t
ref_life true t (Live w d) = holds (λ o. absurd (true≢false o))
ref_life false t (Live w d) = ref_map (ref_off (invalid_in w)) (λ u o. u) (λ f. f refl)
ref_life true t (Cancelled w) = holds (λ o. absurd (true≢false o))
ref_life false t (Cancelled w) = ref_map (ref_and (ref_off (invalid_in w)) (ref_self (is_waiting t.waiting))) (λ u o. u) (λ f. f refl)
ref_life c t Retired = ref_idle t

-- in a closed set a timer neither waits nor names a slot
ref_closed : (closed : Bool) (t : Timer) → Ref (closed ≡ true → Unused t) (closed_ok closed t)
ref_closed true t = ref_map (ref_idle t) (λ u e. u) (λ f. f refl)
ref_closed false t = holds (λ e. absurd (false≢true e))

module _ (s : Set) where
  -- the test of a place
  pub ref_place : (p : ℕ) → Ref (PlaceRight s p) (place_ok s p)
  unfolding place_ok
  ref_place p =
      let t = timer_at s p in
      ref_map (ref_and (ref_life s.closed t t.life) (ref_and (ref_closed s.closed t) (ref_held s p t.held)))
      (λ r. record { goes = r.0; idle = r.1.0; owns = r.1.1 })
      (λ f. (f.goes, (f.idle, f.owns)))

  -- the test of an entry
  pub ref_entry : (i : ℕ) → Ref (EntryRight s i) (entry_ok s i)
  unfolding entry_ok
  ref_entry i =
      let e = entry_at s.heap i in
      ref_map (ref_and (ref_lt e.place.0 cap) (ref_and (ref_lt e.generation (2 ^ 30)) (ref_slot (timer_at s e.place.0).held e.slot)))
      (λ r. record { place = r.0; generation = r.1.0; own = r.1.1 })
      (λ f. (f.place, (f.generation, f.own)))

  -- the scan over the entries finds none exactly where all pass
  pub ref_entries : (n : ℕ) → Ref ((i : ℕ) → i < n → EntryRight s i) (clear (entry_scan s n))
  unfolding entry_scan
  ref_entries zero = holds (λ i l. absurd (omega arith))
  ref_entries (suc n) =
      subst (Ref ((i : ℕ) → i < suc n → EntryRight s i)) (go (entry_scan s n) (entry_ok s n))
      (ref_map (ref_and (ref_entries n) (ref_entry n))
      (λ r i l. split i n (λ e. subst (EntryRight s) (sym e) r.1) (λ d. r.0 i (omega arith)))
      (λ f. ((λ i l. f i (omega arith)), f n (omega arith))))
    where
      go : (o : Option ℕ) (b : Bool) → (clear o && b) ≡ clear (lower o (cond b none (some (entry_at s.heap n).place.0)))
      go none true = refl
      go none false = refl
      go (some p) true = refl
      go (some p) false = refl
