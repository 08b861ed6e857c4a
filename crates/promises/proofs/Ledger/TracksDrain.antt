-- After a drain the set is as the ledger then says: nobody waits, and each live timer that waited has an entry of its own.
-- Assumes nothing.
use mathlib.Core.Path.{◌≡◌, refl, ap}
use mathlib.Core.Bool.{false}
use mathlib.Core.Option.{Option, none, some}
use Prim.Native.Nat.{ℕ, ◌<◌}
use Rattle.heap.specs.Capacity.{cap}
use Rattle.state.specs.declared.Set.{Set}
use Rattle.state.specs.State.{is_waiting}
use Rattle.state.specs.Sound.{Sound}
use Rattle.moves.specs.Rules.{drained_of}
use Rattle.timers.specs.declared.Timing.{Timing}
use Rattle.timers.specs.Calls.{live_at}
use Rattle.laws.specs.Words.{Words}
use Rattle.laws.specs.EntryOf.{entry_of, waiting}
use Rattle.laws.proofs.Handles.Naming.{live_told}
use Rattle.laws.proofs.Handles.ByHandle.{drained_keeps}
use Rattle.laws.proofs.Soundness.DrainSound.{drained_none_waits}
use Rattle.laws.proofs.Entries.EntryOfDrain.{drained_armed, drained_entry}
use Rattle.promises.specs.Turns.{Ledger}
use Rattle.promises.proofs.Ledger.Told.{swept}
use Rattle.promises.proofs.Ledger.Tracks.{Stands, Tracks, stands_same, living_drained}

module _ (s : Set) (sound : Sound s) (c : s.closed ≡ false) (words : Words s) where
  -- nobody waits
  pub none_waiting : (p : ℕ) → p < cap → waiting (drained_of s) p ≡ false
  none_waiting p b = ap is_waiting (drained_none_waits s sound c words p b)

  -- the ledger after a drain
  pub drain_tracks : (B : Type 0) (L : Ledger) → Tracks B s L → Tracks B (drained_of s) (swept L)
  drain_tracks B L tracks h =
      stands_same B {o = live_at s h} {o' = live_at (drained_of s) h} (drained_keeps s h) refl refl refl (go (live_at s h) refl (tracks h))
    where
      go : (o : Option Timing) → live_at s h ≡ o → Stands B o (waiting s h.place.0) (entry_of s h.place.0) (L.line h)
          → Stands B o (waiting (drained_of s) h.place.0) (entry_of (drained_of s) h.place.0) ((swept L).line h)
      go none e st = st
      go (some t) e st =
          let k = live_told s h t e in
          stands_same B {o = some t} {o' = some t} refl (none_waiting h.place.0 k.in_range) refl refl
          (living_drained B t (waiting s h.place.0) (entry_of s h.place.0) (L.line h) st (entry_of (drained_of s) h.place.0)
          (drained_armed s sound c words h.place.0 t.word t.due k.in_range k.is_live)
          (drained_entry s sound c words h.place.0 t.word t.due k.in_range k.is_live))
