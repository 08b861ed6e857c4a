-- The fresh set has the widths of the code's types; of two sets that differ only in room not in use one has them where the other has.
-- Assumes nothing.
use mathlib.Core.Path.{sym, ap, subst}
use Prim.Native.Nat.{◌<◌}
use native.Mathlib.Omega.{arith}
use lib.ListN.{get_or}
use Rattle.heap.specs.declared.Entry.{Entry}
use Rattle.state.specs.declared.Set.{Set}
use Rattle.state.specs.State.{no_timer, fresh_of}
use Rattle.state.specs.InUse.{SameInUse}
use Rattle.state.specs.Widths.{TimerWidths, Widths}
use Rattle.state.proofs.FreshSound.{fresh_at}

-- a place that nobody has used
pub unused_widths : TimerWidths no_timer
unused_widths = record { uses_in = omega arith; life_in = tt }

-- the fresh set has them
pub fresh_widths : Widths fresh_of
fresh_widths = record {
  entries_in_range = λ i b. absurd (omega arith);
  timers_in = λ p b. subst TimerWidths (sym (fresh_at p b)) unused_widths;
}

-- room not in use makes no difference
pub in_use_widths : {a b : Set} → SameInUse a b → Widths a → Widths b
in_use_widths {a} {b} r w = record {
  entries_in_range = λ i c.
      let l : i < a.heap.len = omega (arith, r.heaps.same_len) in
      omega (arith, ap (λ (e : Entry). e.at) (r.heaps.entries i c), w.entries_in_range i l);
  timers_in = λ p c. subst TimerWidths (ap (λ l. get_or l p no_timer) r.same_timers) (w.timers_in p c);
}
