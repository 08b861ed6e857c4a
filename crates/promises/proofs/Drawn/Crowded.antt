-- A set of which every place but place 0 has a live timer, as rows 3 and 4 of the further rows have it: where place 0 has a cancelled
-- one the set is sound; and where it has any that is not free, no place is, and an add is refused with 4. The live timers are not gone
-- through.
-- Assumes nothing.
use mathlib.Core.Path.{◌≡◌, refl, ap, ap₂, ◌∙◌}
use mathlib.Core.Bool.{Bool, true, false, not, ◌&&◌}
use mathlib.Core.Option.{Option, none}
use mathlib.Core.List.{List, [], ◌∷◌}
use Prim.Native.Nat.{ℕ, zero, suc, ◌+◌, ◌-◌, ◌<◌}
use native.Mathlib.Omega.{arith}
use lib.Dec.{ltb}
use lib.ListN.{length, get_or}
use Rattle.std.specs.Prelude as Code
use Rattle.heap.specs.declared.Place.{Place}
use Rattle.theory.specs.Chain.{nodes}
use Rattle.theory.proofs.First.{all_none}
use Rattle.refusals.specs.Answer.{Answer, refused}
use Rattle.heap.specs.Capacity.{cap}
use Rattle.state.specs.declared.Waiting.TheVariants.{No}
use Rattle.state.specs.declared.Timer.{Timer}
use Rattle.state.specs.declared.Set.{Set}
use Rattle.state.specs.State.{no_timer}
use Rattle.moves.specs.Rules.{is_free, taken, lowest_free}
use Rattle.timers.specs.declared.Call.{Call}
use Rattle.timers.specs.declared.Call.TheVariants as C
use Rattle.timers.specs.Calls.{Value, lent, opened, added_at, with_list}
use Rattle.laws.specs.Words.{Fit}
use Rattle.promises.specs.Bench.{same_numbers, code, answered}
use Rattle.laws.specs.Unguarded.{unguarded}
use Rattle.promises.specs.Clauses.{each, times, listed, own_slots, waiters_listed, live_unmarked, cancelled_unmarked, cancelled_listed, clauses, broken}
use Rattle.promises.specs.States.{spare, in_room, heap_of, set_of, numbered, bare, live, no_slot}
use Rattle.promises.specs.Corners.{cancelled_at, crowded}
use Rattle.promises.proofs.ByClause.ClauseLists.{in_element}
use Rattle.promises.proofs.Drawn.Room.{room_each}
use Rattle.promises.proofs.Drawn.Verdicts.{alike_broken, also, verdicts}
use Rattle.promises.proofs.Drawn.Numbered.{numbered_length, numbered_at, numbered_each, room_whole}
use Rattle.promises.proofs.Drawn.Fitting.{word_fits, drawn_fit}

-- the live timers, and the places with this timer in front of them
abbrev lives : List Timer
lives = numbered (λ i. live No no_slot) (cap - 1) 1

abbrev pub behind : Timer → List Timer
behind t = in_room no_timer 0 (t ∷ lives)

-- with it there are as many as places, and so nothing stands after them
lives_long : (t : Timer) → length (t ∷ lives) ≡ cap
lives_long t = ap suc (numbered_length (λ i. live No no_slot) (cap - 1) 1)

behind_all : (t : Timer) → behind t ≡ t ∷ lives
behind_all t = room_whole no_timer (t ∷ lives) (lives_long t)

-- what a live timer passes, all of them pass
lives_each : (f : ℕ → Timer → Bool) → ((i : ℕ) → f (1 + i) (live No no_slot) ≡ true) → each 1 f lives ≡ true
lives_each f h = numbered_each (λ i. live No no_slot) f (cap - 1) 1 1 (λ i l. h i)

-- SOUND, where place 0 has a cancelled timer

module _ (u : ℕ) where
  -- the list has place 0 alone
  listed_one : listed (set_of (crowded u)) ≡ 0 ∷ []
  unfolding spare set_of nodes
  listed_one = refl

  -- the clauses that go through the places, by their numbers
  c21 : own_slots (set_of (crowded u)) ≡ true
  unfolding set_of
  c21 = room_each no_timer _ (λ i. refl) 0 (cancelled_at u ∷ lives) ∙ lives_each _ (λ i. refl)

  c31 : waiters_listed (set_of (crowded u)) ≡ true
  unfolding set_of
  c31 =
      room_each no_timer _ (λ i. refl) 0 (cancelled_at u ∷ lives)
      ∙ ap₂ ◌&&◌ (ap (λ (l : List ℕ). ltb 0 (times 0 l)) listed_one) (lives_each _ (λ i. refl))

  c41 : live_unmarked (set_of (crowded u)) ≡ true
  unfolding set_of
  c41 = room_each no_timer _ (λ i. refl) 0 (cancelled_at u ∷ lives) ∙ lives_each _ (λ i. refl)

  c42 : cancelled_unmarked (set_of (crowded u)) ≡ true
  unfolding set_of
  c42 = room_each no_timer _ (λ i. refl) 0 (cancelled_at u ∷ lives) ∙ lives_each _ (λ i. refl)

  c61 : cancelled_listed (set_of (crowded u)) ≡ true
  unfolding set_of
  c61 =
      room_each no_timer _ (λ i. refl) 0 (cancelled_at u ∷ lives)
      ∙ ap₂ ◌&&◌ (ap (λ (l : List ℕ). ltb 0 (times 0 l)) listed_one) (lives_each _ (λ i. refl))

  -- none is broken
  crowded_none : broken (set_of (crowded u)) ≡ []
  unfolding spare set_of heap_of nodes
  crowded_none =
      let held = also refl (also refl (also refl (also refl (also c61 (also refl (also refl tt)))))) in
      let shut = also c41 (also c42 (also refl (also refl held))) in
      let list = also c21 (also refl (also c31 (also refl (also refl shut)))) in
      alike_broken (set_of (crowded u)) clauses (verdicts [] clauses)
      (also refl (also refl (also refl (also refl (also refl (also refl list))))))

  -- so it fits
  pub crowded_fit : Fit (set_of (crowded u))
  crowded_fit =
      let e = lives_long (cancelled_at u) in
      drawn_fit (crowded u) (omega (arith, e)) (omega arith) (omega arith) crowded_none
      (lives_each (λ p t. word_fits t) (λ i. refl))

-- FULL, where place 0 is not free

-- with this timer at place 0 and this head of the list
abbrev pub crowd : Timer → Code.Option Place → Set
crowd t f = record { heap = heap_of bare; timers = behind t; first = f; closed = false }

-- then no place is free
behind_taken : (t : Timer) → is_free t.life ≡ false → (i : ℕ) → i < cap → not (is_free (get_or (t ∷ lives) i no_timer).life) ≡ true
behind_taken t e zero l = ap not e
behind_taken t e (suc i) l =
    let a = numbered_at (λ i. live No no_slot) (cap - 1) 1 i (omega arith) in
    ap (λ (x : Timer). not (is_free x.life)) (in_element no_timer lives i (live No no_slot) a).1

module _ (t : Timer) (f : Code.Option Place) (e : is_free t.life ≡ false) where
  none_lowest : lowest_free (crowd t f) ≡ none
  unfolding lowest_free taken
  none_lowest =
      all_none (taken (crowd t f)) cap 0
      (λ i a b. ap (λ (ts : List Timer). not (is_free (get_or ts i no_timer).life)) (behind_all t) ∙ behind_taken t e i (omega arith))

  -- an add is refused with 4, and the calls after it find the set as it was
  pub add_full : (l : List ℕ) (d : ℕ) (cs : List Call) (ws : List (Answer Value))
      → answered unguarded (lent (crowd t f) l) (C.Add d ∷ cs) (refused 4 ∷ ws) ≡ answered unguarded (lent (crowd t f) l) cs ws
  unfolding unguarded
  add_full l d cs ws =
      let s = crowd t f in
      ap
      (λ (o : Option ℕ).
      let r = with_list l (opened s s (added_at s d o)) in
      same_numbers (code r.answer) (code (refused 4)) && answered unguarded r.state cs ws)
      none_lowest
