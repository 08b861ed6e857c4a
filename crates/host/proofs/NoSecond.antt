-- No exported call has a second answer: its promise is one equation for each thing that it leaves or answers. And a word in which a
-- zero bit is set is a dead handle of every set.
-- Assumes nothing.
use mathlib.Core.Path.{◌≡◌, sym, ap, ◌∙◌}
use mathlib.Core.Option.{Option, none}
use mathlib.Core.List.{List}
use Prim.Native.Nat.{ℕ}
use Rattle.theory.specs.Promise.{NoSecond}
use Rattle.state.specs.declared.Set.{Set}
use Rattle.state.specs.declared.Handle.{Handle}
use Rattle.state.specs.Handles.{named_by}
use Rattle.timers.specs.Calls.{live_at}
use Rattle.host.specs.Numbers.{or_nobody, handle_from}
use Rattle.host.specs.Promises.{Freshens, Adds, Resets, Cancels, Turns, Wakes}

-- two answers that are equal to a third
same : {A : Type 0} {x y z : A} → x ≡ z → y ≡ z → x ≡ y
same p q = p ∙ sym q

pub fresh_no_second : NoSecond (λ (q : List ℕ) (r : List ℕ × ℕ). Freshens q r.0 r.1)
fresh_no_second q r s p t = λ i. (same p.image t.image i, same p.status t.status i)

pub add_no_second : NoSecond (λ (q : List ℕ × ℕ × ℕ) (r : List ℕ × ℕ × ℕ). Adds q.0 q.1 q.2 r.0 r.1 r.2)
add_no_second q r s p t = λ i. (same p.image t.image i, same p.handle t.handle i, same p.status t.status i)

pub reset_no_second : NoSecond (λ (q : List ℕ × ℕ × ℕ) (r : List ℕ × ℕ). Resets q.0 q.1 q.2 r.0 r.1)
reset_no_second q r s p t = λ i. (same p.image t.image i, same p.status t.status i)

pub cancel_no_second : NoSecond (λ (q : List ℕ × ℕ) (r : List ℕ × ℕ). Cancels q.0 q.1 r.0 r.1)
cancel_no_second q r s p t = λ i. (same p.image t.image i, same p.status t.status i)

pub turn_no_second : NoSecond (λ (q : List ℕ × ℕ × List ℕ × ℕ) (r : List ℕ × List ℕ × ℕ × ℕ). Turns q.0 q.1 q.2 q.3 r.0 r.1 r.2 r.3)
turn_no_second q r s p t =
    λ i. (same p.image t.image i, same p.reports t.reports i, same p.reported t.reported i, same p.status t.status i)

pub next_wake_no_second : NoSecond (λ (q : List ℕ × ℕ × ℕ) (r : ℕ × ℕ × ℕ). Wakes q.0 q.1 q.2 r.0 r.1 r.2)
next_wake_no_second q r s p t = λ i. (same p.whether t.whether i, same p.when t.when i, same p.status t.status i)

-- a word that names nobody is refused as a dead handle is
pub nobody_dead : (s : Set) (w : ℕ) → named_by w ≡ none → live_at s (handle_from w) ≡ none
unfolding live_at
nobody_dead s w e = ap (λ (o : Option Handle). live_at s (or_nobody o)) e
