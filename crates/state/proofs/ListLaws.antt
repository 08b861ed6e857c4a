-- The test of the waiting list, turn by turn: what one turn of the walk along it, which marks the places that it meets, makes of its
-- rule.
-- Assumes nothing.
use mathlib.Core.Path.{◌≡◌, refl, sym, ◌∙◌, ap, subst}
use mathlib.Core.Bool.{Bool, true, false}
use mathlib.Core.Option.{Option, none, some}
use mathlib.Core.List.{List}
use Prim.Native.Nat.{ℕ, ◌+◌, ◌<◌, ◌≤◌}
use native.Mathlib.Omega.{arith}
use lib.ListN.{length, get_or, set, replicate, length-set, length-replicate, get_or-replicate}
use lib.Seq.{take_all, get_or-set_same, get_or-set_other}
use borrow.Author.Tests.{ltb-true, lt-ltb, le-ltb}
use Rattle.std.specs.Prelude as Code
use Rattle.std.specs.Prelude.{Some, None, MatchOption}
use Rattle.std.specs.List.{count_by}
use Rattle.theory.specs.Counting.{count}
use Rattle.theory.proofs.Counting.{count_listed}
use Rattle.theory.proofs.Tests.{and_left}
use Rattle.theory.proofs.WrongTurns.{Walking, walk_starts, walk_short, walk_stranger, walk_again, walk_goes, walk_ends, walk_long}
use Rattle.heap.specs.Capacity.{cap}
use Rattle.heap.specs.declared.Place.{Place}
use Rattle.state.specs.declared.Waiting.{Waiting}
use Rattle.state.specs.declared.Waiting.TheVariants.{No, Last, Before}
use Rattle.state.specs.declared.Timer.{Timer}
use Rattle.state.specs.declared.Set.{Set}
use Rattle.state.specs.State.{no_timer, timer_at, is_waiting, next_in, head_of, head_after}
use Rattle.state.specs.Faults.{waits_at, after_at, list_scan, walked}

-- who comes after a waiting timer is the head once it is taken off
head_next : (w : Waiting) → head_of (head_after w) ≡ next_in w
head_next No = refl
head_next Last = refl
head_next (Before q) = refl

-- the list as a walk along it finds it: n timers wait, it has met k, stands at one or at the end and has marked those that it met
pub record OnList (s : Set) (n k : ℕ) (at : Code.Option Place) (met : List Bool) : Type 0 where
  pub many : n ≡ count (waits_at s) cap
  pub room : length met ≡ cap
  pub walk : Walking (waits_at s) (after_at s) cap (head_of s.first) k (head_of at) (λ x. get_or met x false)

module _ (s : Set) where
  -- a timer in range waits where its own part says so
  pub waits_in : {p : ℕ} {b : Bool} → p < cap → is_waiting (timer_at s p).waiting ≡ b → waits_at s p ≡ b
  unfolding waits_at
  waits_in {p} l e = rw (lt-ltb p cap l) e

  -- as many timers say that they wait as places do
  pub count_waiting : length s.timers ≡ cap → count_by (λ (t : Timer). is_waiting t.waiting) s.timers ≡ count (waits_at s) cap
  count_waiting e =
      let test = λ (t : Timer). is_waiting t.waiting in
      ap (λ ts. count_by test ts) (sym (take_all cap s.timers (omega (arith, e))))
      ∙ count_listed test s.timers no_timer (waits_at s) cap (omega (arith, e)) (λ p l. sym (waits_in l refl))

  -- a timer that waits is in range
  pub waits_below : (p : ℕ) → waits_at s p ≡ true → p < cap
  unfolding waits_at
  waits_below p e = ltb-true p cap (and_left _ _ e)

  -- the walk begins at the head of the list, with none marked
  pub list_starts : {n : ℕ} → n ≡ count (waits_at s) cap → OnList s n 0 s.first (replicate cap false)
  list_starts e = record {
    many = e;
    room = length-replicate cap false;
    walk = walk_starts (waits_at s) (after_at s) cap (head_of s.first) (λ x b. get_or-replicate cap x false false b);
  }

  module _ {n k : ℕ} {at : Code.Option Place} {met : List Bool} (w : OnList s n k at met) where
    -- where the list stands: at a place, or at its end
    stands : {p : Place} → at ≡ Some p → Walking (waits_at s) (after_at s) cap (head_of s.first) k (some p.0) (λ x. get_or met x false)
    stands e = rw e at w.walk

    ended : at ≡ None → Walking (waits_at s) (after_at s) cap (head_of s.first) k none (λ x. get_or met x false)
    ended e = rw e at w.walk

    -- an end with timers to come is the fault
    pub list_short : k < n → at ≡ None → some k ≡ list_scan s
    unfolding list_scan
    list_short l e = sym (walk_short (waits_at s) (after_at s) cap _ (ended e) (omega (arith, w.many)))

    -- a place out of range is the fault
    pub list_past : {p : Place} → at ≡ Some p → cap ≤ p.0 → some k ≡ list_scan s
    unfolding list_scan waits_at
    list_past {p} e g = sym (walk_stranger (waits_at s) (after_at s) cap _ (stands e) (rw (le-ltb p.0 cap g)))

    -- a timer that was met before is the fault
    pub list_again : {p : Place} → at ≡ Some p → p.0 < cap → get_or met p.0 false ≡ true → some k ≡ list_scan s
    unfolding list_scan
    list_again e g m = sym (walk_again (waits_at s) (after_at s) cap _ (stands e) g m)

    -- a timer that does not wait is the fault
    pub list_still : {p : Place} → at ≡ Some p → p.0 < cap → is_waiting (timer_at s p.0).waiting ≡ false → some k ≡ list_scan s
    unfolding list_scan
    list_still e g z = sym (walk_stranger (waits_at s) (after_at s) cap _ (stands e) (waits_in g z))

    -- after a timer that waits and was not met the walk goes on
    pub list_goes : {p : Place} {to : Code.Option Place} → k < n → at ≡ Some p → p.0 < cap → get_or met p.0 false ≡ false
        → is_waiting (timer_at s p.0).waiting ≡ true → to ≡ head_after (timer_at s p.0).waiting → OnList s n (k + 1) to (set met p.0 true)
    unfolding after_at
    list_goes {p} l e g m z t = record {
      many = w.many;
      room = length-set met p.0 true ∙ w.room;
      walk = subst (λ (o : Option ℕ). Walking (waits_at s) (after_at s) cap (head_of s.first) (k + 1) o (λ x. get_or (set met p.0 true) x false))
          (sym (ap head_of t ∙ head_next (timer_at s p.0).waiting))
          (walk_goes (waits_at s) (after_at s) cap _ (stands e) (omega (arith, w.many)) g (waits_in g z) m
          (get_or-set_same met p.0 true false (omega (arith, w.room))) (λ y d. get_or-set_other met p.0 y true false d));
    }

    -- with every waiting timer met, there is no fault where the list has ended
    pub list_ends : n ≤ k → at ≡ None → none ≡ list_scan s
    unfolding list_scan
    list_ends l e = sym (walk_ends (waits_at s) (after_at s) cap _ (omega (arith, w.many, w.walk.within)) (ended e))

    -- and one where it goes on
    pub list_long : {p : Place} → n ≤ k → at ≡ Some p → some k ≡ list_scan s
    unfolding list_scan
    list_long l e = sym (walk_long (waits_at s) (after_at s) cap _ (omega (arith, w.many, w.walk.within)) waits_below (stands e))

    -- so what the code says of the place where it stands then is right
    pub list_ended : (o : Code.Option ℕ) → n ≤ k → MatchOption at (o ≡ None) (λ p. o ≡ Some n) → walked o ≡ list_scan s
    list_ended o l e = go at refl e
      where
        go : (a : Code.Option Place) → at ≡ a → MatchOption a (o ≡ None) (λ p. o ≡ Some n) → walked o ≡ list_scan s
        go None q e = ap walked e ∙ list_ends l q
        go (Some p) q e =
            let m : n ≡ k = omega (arith, w.many, w.walk.within) in
            ap walked e ∙ ap some m ∙ list_long l q
