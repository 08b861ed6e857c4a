-- Who is ready has an entry at its deadline; and a pop reports a timer that is ready and due, where no timer that waits can be meant.
-- Assumes nothing.
use mathlib.Core.Path.{◌≡◌, refl, sym, ap, ◌∙◌}
use mathlib.Core.Bool.{Bool, true, false, not, ◌&&◌}
use mathlib.Core.Option.{Option, none, some}
use Prim.Native.Nat.{ℕ, ◌*◌, ◌<◌, ◌^◌}
use native.Mathlib.Omega.{arith}
use Rattle.theory.proofs.Tests.{true_false, and_left, and_right, ref_true, ref_eq}
use Rattle.heap.specs.Capacity.{cap}
use Rattle.heap.specs.declared.Entry.{Entry}
use Rattle.heap.specs.Rules.{entry_at}
use Rattle.state.specs.declared.Life.{Life}
use Rattle.state.specs.declared.Life.TheVariants.{Free, Live, Cancelled, Retired}
use Rattle.state.specs.declared.Set.{Set}
use Rattle.state.specs.declared.Handle.{Handle}
use Rattle.state.specs.State.{timer_at}
use Rattle.state.specs.Sound.{Sound}
use Rattle.moves.specs.Rules.{Ring, reports}
use Rattle.timers.specs.declared.Timing.{Timing}
use Rattle.timers.specs.Calls.{timing_of, live_at}
use Rattle.laws.specs.EntryOf.{entry_of, waiting}
use Rattle.laws.proofs.Handles.Naming.{names_same, live_in_range, live_told}
use Rattle.laws.proofs.Entries.EntryOfPop.{head_entry}
use Rattle.laws.proofs.Reporting.Written.{head_reports}
use Rattle.promises.specs.Turns.{Line, Ledger, owed}
use Rattle.promises.proofs.Ledger.Tracks.{Living, Stands, Tracks, bit_small, stale_apart, fired_unreported}
use Rattle.promises.proofs.Ledger.TracksPop.{head_handle, head_in, stood}

-- owed, and the last add or reset has been drained
abbrev pub ready : Line → Bool
ready l = owed l && l.drained

-- a timer that waits is never met without the premise
abbrev pub Safe : Type 0 → Set → Type 0
Safe B s = (x : ℕ) → x < cap → waiting s x ≡ true → B

-- an entry for the place of a handle, at the deadline that its line says
pub record Entered (s : Set) (h : Handle) (l : Line) : Type 0 where
  pub in_range : h.place.0 < cap
  pub it : Entry
  pub found : entry_of s h.place.0 ≡ some it
  pub on_time : it.at ≡ l.due

-- what is false is not true of a number of tests
pub not_true : (b : Bool) → not b ≡ true → b ≡ false
not_true true e = true_false refl (sym e)
not_true false e = refl

-- a timer that is ready has such an entry
pub ready_entry : (B : Type 0) (s : Set) (L : Ledger) → Tracks B s L → (h : Handle) → ready (L.line h) ≡ true → Entered s h (L.line h)
ready_entry B s L tracks h y = go (live_at s h) refl (tracks h)
  where
    is_owed : owed (L.line h) ≡ true
    is_owed = and_left (owed (L.line h)) (L.line h).drained y

    go : (o : Option Timing) → live_at s h ≡ o → Stands B o (waiting s h.place.0) (entry_of s h.place.0) (L.line h) → Entered s h (L.line h)
    go none e st = true_false (and_left (L.line h).live (not (L.line h).reported) is_owed) st
    go (some t) e st =
        let w : waiting s h.place.0 ≡ false = not_true (waiting s h.place.0) (sym st.drained_is ∙ and_right (owed (L.line h)) (L.line h).drained y) in
        let a = st.armed w (not_true (L.line h).reported (and_right (L.line h).live (not (L.line h).reported) is_owed)) in
        record { in_range = (live_told s h t e).in_range; it = a.it; found = a.found; on_time = a.same_at ∙ sym st.agreed }

module _ (B : Type 0) (r : Ring) (L : Ledger) (tracks : Tracks B r.set L) (sound : Sound r.set) (b : 0 < r.set.heap.len) where
  abbrev e : Entry
  e = entry_at r.set.heap 0

  abbrev p : ℕ
  p = e.place.0

  -- only a live timer whose word matches is reported
  struck : (l : Life) → reports e.generation l ≡ true → (w d : ℕ) × (l ≡ Live w d) × (w ≡ e.generation * 4)
  struck Free q = true_false q refl
  struck (Live w d) q = (w, d, refl, ref_true (ref_eq w (e.generation * 4)) q)
  struck (Cancelled w) q = true_false q refl
  struck Retired q = true_false q refl

  module _ (q : head_reports r ≡ true) where
    hit : (w d : ℕ) × ((timer_at r.set p).life ≡ Live w d) × (w ≡ e.generation * 4)
    hit = struck (timer_at r.set p).life q

    t : Timing
    t = record { word = hit.0; due = hit.1 }

    -- so the head's handle is live
    head_live : live_at r.set (head_handle r) ≡ some t
    unfolding t
    head_live =
        live_in_range r.set (head_handle r) (head_in B r L tracks sound b)
        ∙ names_same (timer_at r.set p) (timer_at r.set p).uses refl ∙ ap timing_of hit.2

    k : Living B t (waiting r.set p) (entry_of r.set p) (L.line (head_handle r))
    k = stood B r L tracks sound b (head_handle r) refl t head_live

    -- where it waits no premise is had, for then its word does not match
    not_waiting : (B → (L.line (head_handle r)).resets < 2 ^ 30) → Safe B r.set → (w : Bool) → waiting r.set p ≡ w → w ≡ false
    unfolding t
    not_waiting low safe false w = refl
    not_waiting low safe true w =
        let z = safe p (head_in B r L tracks sound b) w in
        let g : e.generation ≡ k.generation = omega (arith, k.word_is, hit.3, bit_small (L.line (head_handle r)).reported) in
        absurd (stale_apart e k.generation (L.line (head_handle r)).resets (k.stale z w e (head_entry r.set sound b)) (low z) g)

    -- it is ready, and its deadline is the entry's
    pub head_ready : (B → (L.line (head_handle r)).resets < 2 ^ 30) → Safe B r.set
        → (ready (L.line (head_handle r)) ≡ true) × ((L.line (head_handle r)).due ≡ e.at)
    unfolding t
    head_ready low safe =
        let w = not_waiting low safe (waiting r.set p) refl in
        let u = fired_unreported B t (waiting r.set p) (entry_of r.set p) (L.line (head_handle r)) k e (head_entry r.set sound b) hit.3 in
        let a = k.armed w u in
        let z : a.it ≡ e = cc (a.found, head_entry r.set sound b) in
        (rw (k.known, u, k.drained_is, w) refl, k.agreed ∙ sym a.same_at ∙ ap (λ (x : Entry). x.at) z)
