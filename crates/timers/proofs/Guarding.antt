-- What a call knows once it has asked its guard: let through, the set is sound, and open where that was asked, its heap is sound, and
-- the call does what it would; turned away, the refusal is the rule's, whatever the call would have done. And what the door says once
-- its guard has spoken.
-- Assumes nothing.
use mathlib.Core.Path.{◌≡◌, refl, sym, ap}
use mathlib.Core.Bool.{Bool, true, false, cond}
use mathlib.Core.Option.{Option, none, some}
use native.Mathlib.Omega.{arith}
use lib.ListN.{length}
use Rattle.refusals.specs.declared.fault.Fault.{Fault}
use Rattle.refusals.specs.declared.Refusal.{Refusal}
use Rattle.refusals.specs.declared.Refusal.TheVariants.{Unsound, Closed}
use Rattle.refusals.specs.Answer.{Answer, accepted, refuse, Nothing, Outcome}
use Rattle.theory.specs.Chain.{clear}
use Rattle.refusals.proofs.Apart.{refuse_apart}
use Rattle.refusals.proofs.Faults.{clear_none}
use Rattle.refusals.proofs.Refusing.{not_both}
use Rattle.heap.specs.Capacity.{cap}
use Rattle.heap.specs.Faults.{consistent_of}
use Rattle.heap.specs.Sound as Heap
use Rattle.heap.proofs.Testing.Test.{consistent_sound}
use Rattle.state.specs.declared.Set.{Set}
use Rattle.state.specs.declared.Handle.{Handle}
use Rattle.state.specs.Faults.{fault_of, sound_of}
use Rattle.timers.specs.Calls.{Value, Timing, judged, refusing, guarded, opened, guard_of, open_of, live_at, alive, living, door_of}

-- what any test with a fault says: the refusal that carries it
abbrev broken : {A : Type 0} → Fault → Answer A
broken x = refuse (Unsound x)

-- where the test says yes it finds no fault
pub sound_none : (s : Set) → sound_of s ≡ true → fault_of s ≡ none
unfolding sound_of
sound_none s e = clear_none (fault_of s) e

-- let through by the first test: the set is sound
pub passed : (s : Set) → accepted tt ≡ guard_of s → sound_of s ≡ true
unfolding guard_of sound_of
passed s e = go (fault_of s) e
  where
    go : (o : Option Fault) → ◌≡◌ {A = Answer Nothing} (accepted tt) (judged o (accepted tt) broken) → clear o ≡ true
    go none e = refl
    go (some x) e = absurd (not_both (Unsound x) e)

-- turned away by it
pub stopped : (s : Set) (why : Refusal) → refuse why ≡ guard_of s → {S : Type 0} (k : S) (o : Outcome S Value) → guarded s k o ≡ refusing k why
unfolding guard_of guarded
stopped s why e {S} k o = go (fault_of s) e
  where
    go : (x : Option Fault) → ◌≡◌ {A = Answer Nothing} (refuse why) (judged x (accepted tt) broken)
        → judged x o (λ y. refusing k (Unsound y)) ≡ refusing k why
    go none e = absurd (not_both why (sym e))
    go (some x) e = ap (refusing k) (sym (refuse_apart why (Unsound x) e))

-- let through by both: the set is sound and open
pub passed_both : (s : Set) → accepted tt ≡ open_of s → (sound_of s ≡ true) × (s.closed ≡ false)
unfolding open_of sound_of
passed_both s e = go (fault_of s) s.closed refl e
  where
    go : (o : Option Fault) (c : Bool) → s.closed ≡ c → ◌≡◌ {A = Answer Nothing} (accepted tt) (judged o (cond c (refuse Closed) (accepted tt)) broken)
        → (clear o ≡ true) × (s.closed ≡ false)
    go none false q e = (refl, q)
    go none true q e = absurd (not_both Closed e)
    go (some x) c q e = absurd (not_both (Unsound x) e)

-- turned away by one of them
pub stopped_both : (s : Set) (why : Refusal) → refuse why ≡ open_of s → {S : Type 0} (k : S) (o : Outcome S Value)
    → guarded s k (opened s k o) ≡ refusing k why
unfolding open_of guarded
stopped_both s why e {S} k o = go (fault_of s) s.closed e
  where
    go : (x : Option Fault) (c : Bool) → ◌≡◌ {A = Answer Nothing} (refuse why) (judged x (cond c (refuse Closed) (accepted tt)) broken)
        → judged x (cond c (refusing k Closed) o) (λ y. refusing k (Unsound y)) ≡ refusing k why
    go none false e = absurd (not_both why (sym e))
    go none true e = ap (refusing k) (sym (refuse_apart why Closed e))
    go (some x) c e = ap (refusing k) (sym (refuse_apart why (Unsound x) e))

-- what a call does once it is let through
pub through : (s : Set) → sound_of s ≡ true → {S : Type 0} (k : S) (o : Outcome S Value) → guarded s k o ≡ o
unfolding guarded
through s p k o = ap (λ (x : Option Fault). judged x o (λ y. refusing k (Unsound y))) (sound_none s p)

pub through_both : (s : Set) → (sound_of s ≡ true) × (s.closed ≡ false) → {S : Type 0} (k : S) (o : Outcome S Value)
    → guarded s k (opened s k o) ≡ o
unfolding guarded
through_both s p k o = λ i. judged (sound_none s p.0 i) (cond (p.1 i) (refusing k Closed) o) (λ y. refusing k (Unsound y))

-- turned away by the first test, and so by both
pub stopped_first : (s : Set) (why : Refusal) → refuse why ≡ guard_of s → refuse why ≡ open_of s
unfolding guard_of open_of
stopped_first s why e = go (fault_of s) e
  where
    go : (x : Option Fault) → ◌≡◌ {A = Answer Nothing} (refuse why) (judged x (accepted tt) broken)
        → ◌≡◌ {A = Answer Nothing} (refuse why) (judged x (cond s.closed (refuse Closed) (accepted tt)) broken)
    go none e = absurd (not_both why (sym e))
    go (some x) e = e

-- turned away by the tests, barred or not: the door says so too
pub door_shut : (barred : Bool) (s : Set) (h : Handle) (why : Refusal)
    → ◌≡◌ {A = Answer Nothing} (refuse why) (judged (fault_of s) (cond barred (refuse Closed) (accepted tt)) broken)
    → refuse why ≡ door_of barred s h
unfolding door_of
door_shut barred s h why e = go (fault_of s) barred e
  where
    go : (x : Option Fault) (c : Bool) → ◌≡◌ {A = Answer Nothing} (refuse why) (judged x (cond c (refuse Closed) (accepted tt)) broken)
        → ◌≡◌ {A = Answer Timing} (refuse why) (judged x (cond c (refuse Closed) (living (live_at s h))) broken)
    go none false e = absurd (not_both why (sym e))
    go none true e = ap refuse (refuse_apart why Closed e)
    go (some x) c e = ap refuse (refuse_apart why (Unsound x) e)

-- let through by them: the door says what the handle does
pub door_open : (barred : Bool) (s : Set) (h : Handle)
    → ◌≡◌ {A = Answer Nothing} (accepted tt) (judged (fault_of s) (cond barred (refuse Closed) (accepted tt)) broken)
    → door_of barred s h ≡ living (live_at s h)
unfolding door_of
door_open barred s h e = go (fault_of s) barred e
  where
    go : (x : Option Fault) (c : Bool) → ◌≡◌ {A = Answer Nothing} (accepted tt) (judged x (cond c (refuse Closed) (accepted tt)) broken)
        → judged x (cond c (refuse Closed) (living (live_at s h))) broken ≡ living (live_at s h)
    go none false e = refl
    go none true e = absurd (not_both Closed e)
    go (some x) c e = absurd (not_both (Unsound x) e)

-- let through by the test of soundness, by both tests or by the door, a call does what it would
pub guarded_lets : (s : Set) {S : Type 0} (k : S) (o : Outcome S Value) → accepted tt ≡ guard_of s → guarded s k o ≡ o
guarded_lets s k o e = through s (passed s e) k o

pub opened_lets : (s : Set) {S : Type 0} (k : S) (o : Outcome S Value) → accepted tt ≡ open_of s → guarded s k (opened s k o) ≡ o
opened_lets s k o e = through_both s (passed_both s e) k o

pub door_lets : (barred : Bool) (s : Set) (h : Handle) (f : Timing → Outcome Set Value) {t : Timing} → accepted t ≡ door_of barred s h
    → guarded s s (cond barred (refusing s Closed) (alive s (live_at s h) f)) ≡ f t
unfolding door_of guarded
door_lets barred s h f e = grind arith

-- let through by the test of soundness, or by both tests, its heap is sound; how long the arrays are the code's types say
pub guarded_sound : (s : Set) → length s.heap.entries ≡ cap → length s.heap.slots ≡ cap → accepted tt ≡ guard_of s → Heap.Sound s.heap
unfolding guard_of fault_of consistent_of
guarded_sound s n m e = consistent_sound s.heap n m (grind (arith, not_both))

pub opened_sound : (s : Set) → length s.heap.entries ≡ cap → length s.heap.slots ≡ cap → accepted tt ≡ open_of s → Heap.Sound s.heap
unfolding open_of fault_of consistent_of
opened_sound s n m e = consistent_sound s.heap n m (grind (arith, not_both))
