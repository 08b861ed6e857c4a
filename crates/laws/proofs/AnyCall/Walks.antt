-- What one turn keeps, the walk keeps: a drain by its updates, an advance by its pops, a close by both of its walks.
-- Assumes nothing.
use mathlib.Core.Bool.{Bool, true, false, cond}
use mathlib.Core.List.{List}
use Prim.Native.Nat.{ℕ, zero, suc}
use Rattle.std.specs.Prelude.{Option, Some, None}
use Rattle.heap.specs.declared.Place.{Place}
use Rattle.heap.specs.Capacity.{cap}
use Rattle.state.specs.declared.Set.{Set}
use Rattle.moves.specs.Rules.{settled_of, list_turn, drain_from, drained_of, Ring, due_by, rung_of, ring_from, advanced_of, unlisted_of, unlist_from, popped_of, empty_from, sealed, closed_of}

module _ (P : Set → Type 0) where
  -- a turn of a walk along the list
  turn_walk : (s : Set) (f : Option Place) (more : ℕ → Set) → P s → ((p : ℕ) → P (more p)) → P (list_turn s f more)
  turn_walk s None more x y = x
  turn_walk s (Some p) more x y = y p.0

  module _ (settles : (s : Set) (p : ℕ) → P s → P (settled_of s p)) where
    drain_from_lem : (k : ℕ) (s : Set) → P s → P (drain_from k s)
    unfolding drain_from
    drain_from_lem zero s x = x
    drain_from_lem (suc k) s x = turn_walk s s.first (λ p. drain_from k (settled_of s p)) x (λ p. drain_from_lem k (settled_of s p) (settles s p x))

    -- a drain
    pub drain_walk : (s : Set) → P s → P (drained_of s)
    drain_walk s x = drain_from_lem cap s x

  module _ (rings : (r : Ring) → P r.set → P (rung_of r).set) where
    ring_from_lem : (k : ℕ) (r : Ring) (N : ℕ) → P r.set → P (ring_from k r N).set
    unfolding ring_from
    ring_from_lem zero r N x = x
    ring_from_lem (suc k) r N x = go (due_by r.set.heap N) (ring_from_lem k (rung_of r) N (rings r x))
      where
        go : (b : Bool) → P (ring_from k (rung_of r) N).set → P (cond b (ring_from k (rung_of r) N) r).set
        go true y = y
        go false y = x

    -- an advance
    pub advance_walk : (s : Set) (N : ℕ) (l : List ℕ) → P s → P (advanced_of s N l).set
    unfolding advanced_of
    advance_walk s N l x = ring_from_lem s.heap.len (record { set = s; list = l; reported = 0; popped = 0 }) N x

  module _ (unlists : (s : Set) (p : ℕ) → P s → P (unlisted_of s p)) (pops : (s : Set) → P s → P (popped_of s)) where
    unlist_from_lem : (k : ℕ) (s : Set) → P s → P (unlist_from k s)
    unfolding unlist_from
    unlist_from_lem zero s x = x
    unlist_from_lem (suc k) s x = turn_walk s s.first (λ p. unlist_from k (unlisted_of s p)) x (λ p. unlist_from_lem k (unlisted_of s p) (unlists s p x))

    empty_from_lem : (k : ℕ) (s : Set) → P s → P (empty_from k s)
    unfolding empty_from
    empty_from_lem zero s x = x
    empty_from_lem (suc k) s x = empty_from_lem k (popped_of s) (pops s x)

    -- a close
    pub close_walk : ((s : Set) → P s → P (sealed s)) → (s : Set) → P s → P (closed_of s)
    unfolding closed_of
    close_walk seals s x = seals _ (empty_from_lem (unlist_from cap s).heap.len (unlist_from cap s) (unlist_from_lem cap s x))
