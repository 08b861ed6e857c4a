-- After an add, a reset and a cancel the set is as the ledger then says: one place is touched, one line rewritten, and every other live
-- handle has another place.
-- Assumes nothing.
use mathlib.Core.Path.{◌≡◌, refl, sym, ap, subst, ◌∙◌}
use mathlib.Core.Bool.{Bool}
use mathlib.Core.Option.{Option, none, some}
use Prim.Native.Nat.{ℕ}
use native.Mathlib.Omega.{arith}
use Rattle.theory.proofs.Update.{upd_all}
use Rattle.heap.specs.declared.Entry.{Entry}
use Rattle.word.specs.Rules as Word
use Rattle.state.specs.declared.Life.{Life}
use Rattle.state.specs.declared.Life.TheVariants.{Free, Live, Cancelled}
use Rattle.state.specs.declared.Timer.{Timer}
use Rattle.state.specs.declared.Set.{Set}
use Rattle.state.specs.declared.Handle.{Handle}
use Rattle.state.specs.State.{timer_at, is_waiting}
use Rattle.state.specs.Handles.{handle_discrete}
use Rattle.state.specs.Sound.{Sound}
use Rattle.moves.specs.Rules.{touched_of, lowest_free}
use Rattle.timers.specs.declared.Timing.{Timing}
use Rattle.timers.specs.Calls.{live_at, reset_to}
use Rattle.laws.specs.EntryOf.{held_entry, entry_of, waiting}
use Rattle.laws.proofs.Handles.Naming.{live_told}
use Rattle.laws.proofs.Handles.ByHandle.{handle_at, one_handle, live_others, live_touched, added_lives, added_others}
use Rattle.laws.proofs.AnyCall.Found.{lowest_free_lem, lowest_in}
use Rattle.laws.proofs.Entries.EntryOfTouch.{touched_entry, touched_other, touched_waiting}
use Rattle.promises.specs.Turns.{Line, Ledger, begun, moved, ended, at}
use Rattle.promises.proofs.Ledger.Tracks.{Living, Stands, Tracks, living_reset, living_begun}

-- no life is both
free_live : {l : Life} {w d : ℕ} → l ≡ Free → l ≡ Live w d → ⊥
free_live e f = let z : ◌≡◌ {A = ℕ} 0 1 = cc in omega arith

module _ (B : Type 0) (s : Set) (L : Ledger) (tracks : Tracks B s L) (h : Handle) (l : Life) where
  abbrev p : ℕ
  p = h.place.0

  abbrev r : Set
  r = touched_of s p l

  -- a handle of another place stands as it stood
  elsewhere : (k : Handle) → (k.place.0 ≡ p → ⊥) → (o : Option Timing) → Stands B o (waiting s k.place.0) (entry_of s k.place.0) (L.line k)
      → Stands B o (waiting r k.place.0) (entry_of r k.place.0) (L.line k)
  elsewhere k n o st =
      subst (λ (w : Bool). Stands B o w (entry_of r k.place.0) (L.line k))
      (ap (λ (t : Timer). is_waiting t.waiting) (sym (touched_other s p l k.place.0 n)))
      (subst (λ (e : Option Entry). Stands B o (waiting s k.place.0) e (L.line k)) (sym (touched_entry s p l k.place.0)) st)

  -- the line of the touched timer's handle is rewritten
  touched_tracks : (f : Line → Line)
      → ((k : Handle) (t : Timing) → (k ≡ h → ⊥) → live_at s k ≡ some t → k.place.0 ≡ p → ⊥)
      → ((k : Handle) → (k ≡ h → ⊥) → live_at r k ≡ live_at s k)
      → Stands B (live_at r h) (waiting r p) (entry_of r p) (f (L.line h)) → Tracks B r (at h f L)
  touched_tracks f apart keeps here =
      upd_all handle_discrete L.line h (f (L.line h)) (λ k v. Stands B (live_at r k) (waiting r k.place.0) (entry_of r k.place.0) v) here
      (λ k n. subst (λ (o : Option Timing). Stands B o (waiting r k.place.0) (entry_of r k.place.0) (L.line k)) (sym (keeps k n))
      (there k n (live_at s k) refl (tracks k)))
    where
      there : (k : Handle) → (k ≡ h → ⊥) → (o : Option Timing) → live_at s k ≡ o → Stands B o (waiting s k.place.0) (entry_of s k.place.0) (L.line k)
          → Stands B o (waiting r k.place.0) (entry_of r k.place.0) (L.line k)
      there k n none e st = st
      there k n (some t) e st = elsewhere k (apart k t n e) (some t) st

module _ (B : Type 0) (s : Set) (L : Ledger) (tracks : Tracks B s L) (sound : Sound s) where
  -- the handle of a live timer is the only live one of its place
  only : (h : Handle) (t : Timing) → live_at s h ≡ some t → (k : Handle) (u : Timing) → (k ≡ h → ⊥) → live_at s k ≡ some u → k.place.0 ≡ h.place.0 → ⊥
  only h t e k u n q same =
      n (one_handle h k same
      (sym (live_told s k u q).same_uses ∙ ap (λ (x : ℕ). (timer_at s x).uses) same ∙ (live_told s h t e).same_uses))

  module _ (h : Handle) (t : Timing) (e : live_at s h ≡ some t) where
    -- how it stands
    pub living : Living B t (waiting s h.place.0) (entry_of s h.place.0) (L.line h)
    living = subst (λ (o : Option Timing). Stands B o (waiting s h.place.0) (entry_of s h.place.0) (L.line h)) e (tracks h)

    -- a reset, by whatever call
    pub reset_tracks : (d : ℕ) → Tracks B (reset_to s h d t) (at h (moved d) L)
    reset_tracks d =
        let l : Life = Live (Word.reset_of t.word) d in
        touched_tracks B s L tracks h l (moved d) (only h t e) (λ k n. live_others s h k t l e n)
        (rw (live_touched s h t l sound.timers_long e, touched_waiting s h.place.0 l sound.timers_long (live_told s h t e).in_range, touched_entry s h.place.0 l h.place.0)
        (living_reset B t (waiting s h.place.0) (entry_of s h.place.0) (L.line h) living d))

    -- a cancel
    pub cancel_tracks : Tracks B (touched_of s h.place.0 (Cancelled t.word)) (at h ended L)
    cancel_tracks =
        let l : Life = Cancelled t.word in
        touched_tracks B s L tracks h l ended (only h t e) (λ k n. live_others s h k t l e n) (rw (live_touched s h t l sound.timers_long e) refl)

  -- an add
  pub add_tracks : (p d : ℕ) → lowest_free s ≡ some p → Tracks B (touched_of s p (Live 0 d)) (at (handle_at s p) (begun d) L)
  add_tracks p d f =
      let h = handle_at s p in
      let l : Life = Live 0 d in
      let b : entry_of s p ≡ none = ap (held_entry s.heap) (sound.free_unused p (lowest_in s p f) (lowest_free_lem s p f)).bare in
      touched_tracks B s L tracks h l (begun d)
      (λ k t n q same. free_live (lowest_free_lem s p f) (ap (λ (x : ℕ). (timer_at s x).life) (sym same) ∙ (live_told s k t q).is_live))
      (added_others s p d f)
      (rw (added_lives s p d f sound.timers_long, touched_waiting s p l sound.timers_long (lowest_in s p f), touched_entry s p l p)
      (living_begun B d (entry_of s p) (L.line h) b))
