-- What the scan finds is the first place that is not taken.
-- Assumes nothing.
use mathlib.Core.Path.{◌≡◌, sym, ap}
use mathlib.Core.Bool.{true, false, not}
use mathlib.Core.Option.{none, some}
use Prim.Native.Nat.{ℕ, ◌<◌, zero-le}
use native.Mathlib.Omega.{arith}
use borrow.Author.Rules.{rules}
use borrow.Author.Tests.{tests}
use lib.ListN.{length}
use Rattle.std.specs.Prelude.{Option, None, Some, MatchOption}
use Rattle.std.specs.List.{AllWithin, HoldsAt}
use Rattle.std.proofs.lemmas.Iterator.{IsFirst-from_position, YieldsList-from_slice}
use Rattle.theory.proofs.First.{all_none, first_some}
use Rattle.theory.proofs.Stores.{unmapped}
use Rattle.heap.specs.Capacity.{cap}
use Rattle.state.specs.declared.Timer.{Timer}
use Rattle.state.specs.declared.Set.{Set}
use Rattle.state.specs.State.{no_timer}
use Rattle.moves.specs.Rules.{is_free, taken, lowest_free}
use Rattle.moves.proofs.list.lowest_free.Goals as goal

abbrev Free : Timer → Type 0
Free t = is_free t.life ≡ true

abbrev Taken : Timer → Type 0
Taken t = is_free t.life ≡ false

-- whose first free timer is at i, or nowhere
abbrev First : Set → Option ℕ → Type 0
First s r = MatchOption r (AllWithin Taken s.timers 0 (length s.timers)) (λ i. (i < length s.timers) × HoldsAt Free s.timers i × AllWithin Taken s.timers 0 i)

module _ (s : Set) (n : length s.timers ≡ cap) where
  none_free : First s None → none ≡ lowest_free s
  unfolding lowest_free taken
  none_free a = sym (all_none (taken s) cap 0 (λ i l b. ap not (a i no_timer l (omega arith))))

  one_free : (i : ℕ) → First s (Some i) → some i ≡ lowest_free s
  unfolding lowest_free taken
  one_free i a =
      sym (first_some (taken s) cap 0 i zero-le (omega arith) (ap not (a.1 no_timer)) (λ k l b. ap not (a.2 k no_timer l b)))

pub returns-in_err-p : goal.returns-in_err-p
returns-in_err-p c =
    let s = c.args.s in
    let n : length s.timers ≡ cap = search (rules, unmapped) in
    let first : First s c.position.result =
    IsFirst-from_position _ _ _ Free Taken c.position.ensures.ran (YieldsList-from_slice s.timers cc) (λ x q k. search (rules, tests))
    (λ x q k. search (rules, tests)) in
    rw c.from_residual.ensures (none_free s n (rw c.in_err-p.was at first))

pub returns : goal.returns
returns c =
    let s = c.args.s in
    let n : length s.timers ≡ cap = search (rules, unmapped) in
    let first : First s c.position.result =
    IsFirst-from_position _ _ _ Free Taken c.position.ensures.ran (YieldsList-from_slice s.timers cc) (λ x q k. search (rules, tests))
    (λ x q k. search (rules, tests)) in
    one_free s n c.in_ok-p.p (rw c.in_ok-p.was at first)
