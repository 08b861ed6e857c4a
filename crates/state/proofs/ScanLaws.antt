-- The tests of places and entries, turn by turn: what one turn of each scan makes of its rule, and what the scan of the places
-- finds, where all places before one pass.
-- Assumes nothing.
use mathlib.Core.Path.{◌≡◌, refl, sym, ap, ◌∙◌}
use mathlib.Core.Logic.{◌≢◌}
use mathlib.Core.Bool.{Bool, true, false, ◌&&◌}
use mathlib.Core.Option.{Option, none, some}
use Prim.Native.Nat.{ℕ, ◌+◌, ◌-◌, ◌<◌, ◌≤◌}
use native.Mathlib.Numerals.{add-one}
use native.Mathlib.Omega.{arith}
use borrow.Author.Tests.{lt-ltb, le-ltb, eq-eqb, ne_eqb}
use Rattle.std.specs.Prelude as Code
use Rattle.std.specs.Prelude.{Some, None}
use Rattle.theory.specs.First.{first_bad}
use Rattle.theory.proofs.First.{first_goes, first_here, first_done, first_some, all_none}
use Rattle.heap.specs.Capacity.{cap}
use Rattle.heap.specs.declared.Heap.{Heap}
use Rattle.heap.specs.declared.Slot.{Slot}
use Rattle.heap.specs.declared.Pos.{Pos}
use Rattle.heap.specs.declared.SlotState.TheVariants.{Full, Empty}
use Rattle.heap.specs.Rules.{entry_at, state_at}
use Rattle.state.specs.declared.Set.{Set}
use Rattle.state.specs.State.{timer_at}
use Rattle.state.specs.Faults.{held_ok, entry_has, life_ok, closed_ok, place_ok, first_place, entry_fits, entry_ok, lower, entry_scan}

module _ (h : Heap) (p : ℕ) where
  -- a timer that names nothing passes
  pub held_none : {d : Code.Option Slot} → d ≡ None → held_ok h p d ≡ true
  held_none e = ap (held_ok h p) e

  -- one fails that names a slot that was not made
  pub held_past : {d : Code.Option Slot} {q : Slot} → d ≡ Some q → h.made ≤ q.0 → held_ok h p d ≡ false
  held_past {q = q} e l = rw (e, le-ltb q.0 h.made l)

  -- of a slot that was made the state decides
  held_made : {d : Code.Option Slot} {q : Slot} → d ≡ Some q → q.0 < h.made → held_ok h p d ≡ entry_has h (state_at h q.0) p
  held_made {q = q} e l = rw (e, lt-ltb q.0 h.made l)

  -- one fails that names an empty slot
  pub held_empty : {d : Code.Option Slot} {q n : Slot} → d ≡ Some q → q.0 < h.made → state_at h q.0 ≡ Empty n → held_ok h p d ≡ false
  held_empty e l f = held_made e l ∙ ap (λ x. entry_has h x p) f

  -- one fails that names a slot whose entry holds another place
  pub held_other : {d : Code.Option Slot} {q : Slot} {i : Pos} → d ≡ Some q → q.0 < h.made → state_at h q.0 ≡ Full i
      → (entry_at h i.0).place.0 ≢ p → held_ok h p d ≡ false
  held_other {i = i} e l f n = held_made e l ∙ ap (λ x. entry_has h x p) f ∙ ne_eqb (entry_at h i.0).place.0 p n

  -- one passes that names a slot whose entry holds its own place
  pub held_own : {d : Code.Option Slot} {q : Slot} {i : Pos} → d ≡ Some q → q.0 < h.made → state_at h q.0 ≡ Full i
      → (entry_at h i.0).place.0 ≡ p → held_ok h p d ≡ true
  held_own {i = i} e l f n = held_made e l ∙ ap (λ x. entry_has h x p) f ∙ eq-eqb (entry_at h i.0).place.0 p n

-- the first place at fault by itself, where the scan has come to p
unfoldable pub places_from : Set → ℕ → Option ℕ
places_from s p = first_bad (place_ok s) (cap - p) p

module _ (s : Set) (p : ℕ) where
  -- a place fails whose timer's parts do not go together
  pub place_parts : life_ok s.closed (timer_at s p) (timer_at s p).life && closed_ok s.closed (timer_at s p) ≡ false → place_ok s p ≡ false
  unfolding place_ok
  place_parts e =
      go (life_ok s.closed (timer_at s p) (timer_at s p).life) (closed_ok s.closed (timer_at s p)) (held_ok s.heap p (timer_at s p).held) e
    where
      go : (a b c : Bool) → (a && b) ≡ false → (a && (b && c)) ≡ false
      go true b c e = ap (λ x. x && c) e
      go false b c e = refl

  -- where they do, the place passes if what its timer names is its own
  pub place_held : {b : Bool} → life_ok s.closed (timer_at s p) (timer_at s p).life && closed_ok s.closed (timer_at s p) ≡ true
      → held_ok s.heap p (timer_at s p).held ≡ b → place_ok s p ≡ b
  unfolding place_ok
  place_held {b} e f =
      go (life_ok s.closed (timer_at s p) (timer_at s p).life) (closed_ok s.closed (timer_at s p)) (held_ok s.heap p (timer_at s p).held) e ∙ f
    where
      go : (a b c : Bool) → (a && b) ≡ true → (a && (b && c)) ≡ c
      go true b c e = ap (λ x. x && c) e
      go false b c e = absurd (let z : ◌≡◌ {A = ℕ} 0 1 = cc in omega arith)

  -- after a place that passes the scan goes on
  pub places_go : p < cap → place_ok s p ≡ true → places_from s (p + 1) ≡ places_from s p
  unfolding places_from
  places_go l e =
      let m : cap - p - 1 ≡ cap - (p + 1) = omega arith in
      sym (first_goes (place_ok s) (cap - p) p (omega arith) e ∙ ap (λ (n : ℕ). first_bad (place_ok s) n (p + 1)) m)

  -- at a place that fails it stops
  pub places_here : p < cap → place_ok s p ≡ false → places_from s p ≡ some p
  unfolding places_from
  places_here l e = first_here (place_ok s) (cap - p) p (omega arith) e

  -- with no place left there is no fault
  pub places_done : cap ≤ p → places_from s p ≡ none
  unfolding places_from
  places_done l = first_done (place_ok s) (cap - p) p (omega arith)

module _ (s : Set) where
  -- one that fails after them is the place at fault
  pub place_found : (p : ℕ) → p < cap → ((k : ℕ) → k < p → place_ok s k ≡ true) → place_ok s p ≡ false → some p ≡ first_place s
  unfolding first_place
  place_found p l a e = sym (first_some (place_ok s) cap 0 p (omega arith) (omega arith) e (λ k m h. a k h))

  -- where they are all there is none
  pub places_right : ((k : ℕ) → k < cap → place_ok s k ≡ true) → none ≡ first_place s
  unfolding first_place
  places_right a = sym (all_none (place_ok s) cap 0 (λ k m h. a k (omega arith)))

module _ (s : Set) (i : ℕ) where
  -- an entry fails whose place is out of range
  pub entry_past : cap ≤ (entry_at s.heap i).place.0 → entry_ok s i ≡ false
  unfolding entry_ok
  entry_past l = rw (le-ltb (entry_at s.heap i).place.0 cap l)

  -- one whose place is in range passes if it goes with what the place holds
  pub entry_in : {b : Bool} → (entry_at s.heap i).place.0 < cap
      → entry_fits (entry_at s.heap i) (timer_at s (entry_at s.heap i).place.0).held ≡ b → entry_ok s i ≡ b
  unfolding entry_ok
  entry_in l e = rw (lt-ltb (entry_at s.heap i).place.0 cap l) e

  -- an entry that passes changes nothing
  pub entry_passes : entry_ok s i ≡ true → entry_scan s (i + 1) ≡ entry_scan s i
  unfolding entry_scan
  entry_passes e = rw (add-one i, e) (go (entry_scan s i))
    where
      go : (a : Option ℕ) → lower a none ≡ a
      go none = refl
      go (some p) = refl

  -- one that fails brings in its place
  pub entry_fails : entry_ok s i ≡ false → entry_scan s (i + 1) ≡ lower (entry_scan s i) (some (entry_at s.heap i).place.0)
  unfolding entry_scan
  entry_fails e = rw (add-one i, e)
