-- Where nobody waits and what is owed has been drained, the next wake is the least deadline owed.
-- Assumes nothing.
use mathlib.Core.Path.{◌≡◌, refl, sym, ap, subst, ◌∙◌}
use mathlib.Core.Bool.{Bool, true, false, cond}
use mathlib.Core.Option.{Option, none, some}
use Prim.Native.Nat.{ℕ, ◌≤◌, ◌<◌}
use native.Mathlib.Omega.{arith}
use lib.Dec.{eqb}
use borrow.Author.Tests.{eqb-true, eqb-false}
use Rattle.theory.proofs.Tests.{none_some, true_false, is_false}
use Rattle.refusals.specs.Answer.{accepted}
use Rattle.heap.specs.Capacity.{cap}
use Rattle.heap.specs.declared.Entry.{Entry}
use Rattle.heap.specs.Rules.{entry_at}
use Rattle.heap.specs.Calls.{peek_sound}
use Rattle.state.specs.declared.Life.{Life}
use Rattle.state.specs.declared.Life.TheVariants.{Free, Live, Cancelled, Retired}
use Rattle.state.specs.declared.Set.{Set}
use Rattle.state.specs.declared.Handle.{Handle}
use Rattle.state.specs.State.{timer_at}
use Rattle.state.specs.Sound.{Sound, Unused}
use Rattle.timers.specs.declared.Timing.{Timing}
use Rattle.timers.specs.Calls.{timing_of, live_at, wake_by}
use Rattle.laws.specs.EntryOf.{held_entry, entry_of, waiting}
use Rattle.laws.proofs.Handles.Naming.{names_same, live_in_range}
use Rattle.laws.proofs.Handles.ByHandle.{handle_at}
use Rattle.laws.proofs.Entries.EntryOfPop.{head_entry, head_least}
use Rattle.promises.specs.Turns.{Ledger, owed, Least}
use Rattle.promises.proofs.Ledger.Tracks.{Living, Stands, Tracks}
use Rattle.promises.proofs.Ledger.TracksHead.{ready_entry}

module _ (B : Type 0) (s : Set) (L : Ledger) (tracks : Tracks B s L) (sound : Sound s) (idle : (x : ℕ) → x < cap → waiting s x ≡ false)
    (calm : (h : Handle) → owed (L.line h) ≡ true → (L.line h).drained ≡ true) where
  -- an unused place has no entry
  unused_bare : (p : ℕ) → Unused (timer_at s p) → entry_of s p ≡ none
  unused_bare p u = ap (held_entry s.heap) u.bare

  -- who is owed has an entry at its deadline
  owed_entry : (h : Handle) → owed (L.line h) ≡ true → (0 < s.heap.len) × ((entry_at s.heap 0).at ≤ (L.line h).due)
  owed_entry h y =
      let k = ready_entry B s L tracks h (rw (y, calm h y) refl) in
      let m = head_least s sound h.place.0 k.it k.in_range k.found in
      (m.0, omega (arith, m.1, k.on_time))

  module _ (b : B) (more : 0 < s.heap.len) where
    abbrev e : Entry
    e = entry_at s.heap 0

    abbrev p : ℕ
    p = e.place.0

    -- the head's timer is live, for an unused place has no entry and a cancelled timer waits
    live_head : (l : Life) → (timer_at s p).life ≡ l → (w d : ℕ) × ((timer_at s p).life ≡ Live w d)
    live_head Free q = absurd (none_some (unused_bare p (sound.free_unused p (sound.entry_place 0 more) q)) (head_entry s sound more))
    live_head (Live w d) q = (w, d, q)
    live_head (Cancelled w) q = true_false (sound.cancelled_waits p w (sound.entry_place 0 more) still_open q) (idle p (sound.entry_place 0 more))
      where
        still_open : s.closed ≡ false
        still_open = is_false s.closed (λ c. omega (arith, sound.heap_empty c))
    live_head Retired q = absurd (none_some (unused_bare p (sound.retired_unused p (sound.entry_place 0 more) q)) (head_entry s sound more))

    -- it is owed, and due at the head's deadline
    head_owed : (h : Handle) × (owed (L.line h) ≡ true) × ((L.line h).due ≡ e.at)
    head_owed =
        let t = live_head (timer_at s p).life refl in
        let h : Handle = handle_at s p in
        let v : live_at s h ≡ some (record { word = t.0; due = t.1 }) =
        live_in_range s h (sound.entry_place 0 more) ∙ names_same (timer_at s p) (timer_at s p).uses refl ∙ ap timing_of t.2 in
        let k : Living B (record { word = t.0; due = t.1 }) (waiting s p) (entry_of s p) (L.line h) =
        subst (λ (o : Option Timing). Stands B o (waiting s p) (entry_of s p) (L.line h)) v (tracks h) in
        let u : (L.line h).reported ≡ false = is_false (L.line h).reported (λ y. none_some (k.quiet b y) (head_entry s sound more)) in
        let a = k.armed (idle p (sound.entry_place 0 more)) u in
        let z : a.it ≡ e = cc (a.found, head_entry s sound more) in
        (h, rw (k.known, u) refl, k.agreed ∙ sym a.same_at ∙ ap (λ (x : Entry). x.at) z)

  -- the next wake
  pub wake_least : B → Least L (wake_by (peek_sound s.heap))
  unfolding peek_sound
  wake_least b = go (eqb s.heap.len 0) refl
    where
      go : (c : Bool) → eqb s.heap.len 0 ≡ c → Least L (wake_by (cond c (accepted none) (accepted (some (entry_at s.heap 0)))))
      go true q = λ h. is_false (owed (L.line h)) (λ y. omega (arith, (owed_entry h y).0, eqb-true s.heap.len 0 q))
      go false q =
          let n = eqb-false s.heap.len 0 q in
          (head_owed b (omega arith), λ h y. (owed_entry h y).1)
