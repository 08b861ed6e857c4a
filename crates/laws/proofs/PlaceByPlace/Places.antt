-- The walks of a drain, an advance and a close, place by place: a relation of timers that looks at life and use number only, and
-- holds of what one turn makes of a timer, holds between each place before the walk and after it. For a close the relation may look
-- at the whole timer.
-- Assumes nothing.
use mathlib.Core.Path.{◌≡◌, refl, sym}
use mathlib.Core.List.{List}
use Prim.Native.Nat.{ℕ}
use Rattle.std.specs.Prelude.{None}
use lib.ListN.{get_or, set}
use Rattle.heap.specs.Rules.{entry_at}
use Rattle.state.specs.declared.Life.{Life}
use Rattle.state.specs.declared.Life.TheVariants.{Free, Live, Cancelled, Retired}
use Rattle.state.specs.declared.Waiting.{Waiting}
use Rattle.state.specs.declared.Timer.{Timer}
use Rattle.state.specs.declared.Set.{Set}
use Rattle.state.specs.State.{no_timer, timer_at, is_waiting, head_after}
use Rattle.moves.specs.Rules.{with_first, waiting_by, touched_of, freed_of, settled_by, settled_of, drained_of, Ring, rung_timer, rung_of, advanced_of, marked_life, unlisted_of, popped_of, closed_of}
use Rattle.laws.proofs.AnyCall.Walks.{drain_walk, advance_walk, close_walk}
use Rattle.laws.proofs.Handles.Naming.{store_rel}

-- a relation of timers that holds where life and use number are the same, and of two changes in a row where it holds of each
pub record Order (R : Timer → Timer → Type 0) : Type 0 where
  pub blind : (t r : Timer) → r.life ≡ t.life → r.uses ≡ t.uses → R t r
  pub then : (a b c : Timer) → R a b → R b c → R a c

-- a relation of timers that holds of a timer and itself, and of two changes in a row where it holds of each
pub record Steps (R : Timer → Timer → Type 0) : Type 0 where
  pub stays : (t : Timer) → R t t
  pub then : (a b c : Timer) → R a b → R b c → R a c

-- one that looks at life and use number only is such a one
order_steps : (R : Timer → Timer → Type 0) → Order R → Steps R
order_steps R o = record { stays = λ t. o.blind t t refl refl; then = o.then }

-- the relation holds at every place of two sets
abbrev pub Each : (Timer → Timer → Type 0) → Set → Set → Type 0
Each R s r = (p : ℕ) → R (timer_at s p) (timer_at r p)

module _ (R : Timer → Timer → Type 0) (o : Steps R) where
  -- between a set and itself
  unmoved : (s : Set) → Each R s s
  unmoved s p = o.stays (timer_at s p)

  -- where one timer is stored that is so related to the old one
  put : (s : Set) (p : ℕ) (t : Timer) → R (timer_at s p) t → (x : ℕ) → R (timer_at s x) (get_or (set s.timers p t) x no_timer)
  put s p t e = store_rel (λ _ a b. R a b) (λ _ t. o.stays t) s.timers p t e

  -- what a walk does to a set that is so related to s: each turn of it makes another such
  module _ (marks : (t : Timer) (w : Waiting) → R t (record { life = marked_life t.life; waiting = w; held = None; uses = t.uses })) (s : Set) where
    unlisted_each : (r : Set) (q : ℕ) → Each R s r → Each R s (unlisted_of r q)
    unfolding unlisted_of
    unlisted_each r q e = λ p. o.then _ _ _ (e p) (put r q _ (marks _ _) p)

    popped_each : (r : Set) → Each R s r → Each R s (popped_of r)
    unfolding popped_of
    popped_each r e = λ p. o.then _ _ _ (e p) (put r (entry_at r.heap 0).place.0 _ (marks _ _) p)

    -- a close, by a relation that may look at the whole timer
    pub closed_steps : Each R s (closed_of s)
    closed_steps = close_walk (Each R s) unlisted_each popped_each (λ r e. e) s (unmoved s)

module _ (R : Timer → Timer → Type 0) (o : Order R) where
  same : (s : Set) → Each R s s
  same = unmoved R (order_steps R o)

  stored : (s : Set) (p : ℕ) (t : Timer) → R (timer_at s p) t → (x : ℕ) → R (timer_at s x) (get_or (set s.timers p t) x no_timer)
  stored = put R (order_steps R o)

  -- a touch
  pub touched_each : (s : Set) (p : ℕ) (l : Life)
      → ((w : Waiting) → R (timer_at s p) (record { life = l; waiting = w; held = (timer_at s p).held; uses = (timer_at s p).uses }))
      → Each R s (touched_of s p l)
  unfolding touched_of
  touched_each s p l e = stored s p _ (e (waiting_by (is_waiting (timer_at s p).waiting) (timer_at s p) s.first))

  module _ (frees : (t : Timer) (w : ℕ) → t.life ≡ Cancelled w → R t (freed_of t.uses)) where
    -- one update of a drain
    settled_each : (s : Set) (p : ℕ) → Each R s (settled_of s p)
    unfolding settled_of
    settled_each s p = go (timer_at s p).life refl
      where
        go : (l : Life) → (timer_at s p).life ≡ l → Each R s (settled_by (with_first s (head_after (timer_at s p).waiting)) p (timer_at s p) l)
        go Free e = stored s p _ (o.blind _ _ (sym e) refl)
        go (Live w d) e = stored s p _ (o.blind _ _ (sym e) refl)
        go (Cancelled w) e = stored s p _ (frees (timer_at s p) w e)
        go Retired e = stored s p _ (o.blind _ _ (sym e) refl)

    -- a drain
    pub drained_each : (s : Set) → Each R s (drained_of s)
    drained_each s = drain_walk (Each R s) (λ r q e p. o.then _ _ _ (e p) (settled_each r q p)) s (same s)

  module _ (rings : (g : ℕ) (t : Timer) → R t (rung_timer g t)) where
    -- one pop of an advance
    rung_each : (r : Ring) → Each R r.set (rung_of r).set
    unfolding rung_of
    rung_each r = stored r.set (entry_at r.set.heap 0).place.0 _ (rings _ _)

    -- an advance
    pub advanced_each : (s : Set) (N : ℕ) (l : List ℕ) → Each R s (advanced_of s N l).set
    advanced_each s N l = advance_walk (Each R s) (λ r e p. o.then _ _ _ (e p) (rung_each r p)) s N l (same s)

  -- a close
  pub closed_each : ((t : Timer) (w : Waiting) → R t (record { life = marked_life t.life; waiting = w; held = None; uses = t.uses }))
      → (s : Set) → Each R s (closed_of s)
  closed_each = closed_steps R (order_steps R o)
