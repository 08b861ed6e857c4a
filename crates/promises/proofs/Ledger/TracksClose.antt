-- Once a set is closed: a handle is live as the ledger says, and what a poll finds there is told by whether the timer was reported. A timer
-- that was not reported waited or had an entry, so that the close met it and marked it.
-- Assumes nothing.
use mathlib.Core.Path.{◌≡◌, refl, sym, ap, ◌∙◌}
use mathlib.Core.Logic.{inl}
use mathlib.Core.Bool.{Bool, true, false, cond}
use mathlib.Core.Option.{Option, none, some}
use Prim.Native.Nat.{ℕ, ◌+◌, ◌*◌, ◌/◌, ◌%◌}
use native.Mathlib.Omega.{arith}
use Rattle.theory.specs.Tests.{bit}
use Rattle.theory.proofs.Tests.{ref_eq, true_ref, false_ref}
use Rattle.word.specs.Rules as Word
use Rattle.state.specs.declared.Set.{Set}
use Rattle.state.specs.declared.Handle.{Handle}
use Rattle.state.specs.Sound.{Sound}
use Rattle.moves.specs.Rules.{closed_of}
use Rattle.timers.specs.declared.Timing.{Timing}
use Rattle.timers.specs.Calls.{live_at, poll_by}
use Rattle.laws.specs.ByHandle.{Marks}
use Rattle.laws.specs.EntryOf.{entry_of, waiting}
use Rattle.laws.proofs.Handles.ByHandle.{closed_keeps_due}
use Rattle.laws.proofs.PlaceByPlace.Marked.{closed_marks, closed_marks_entry}
use Rattle.laws.proofs.Handles.Still.{marks_fired}
use Rattle.promises.specs.Turns.{Line, Ledger}
use Rattle.promises.proofs.Ledger.Tracks.{Stands, Tracks}

-- what a poll of the word answers
abbrev pub found : ℕ → ℕ
found w = poll_by (Word.poll_of w)

-- how a handle stands to its line: dead, or live and polled 1 fired where it was reported, 2 gone where not
abbrev pub Rests : Option Timing → Line → Type 0
Rests none l = l.live ≡ false
Rests (some t) l = (l.live ≡ true) × (found t.word ≡ cond l.reported 1 2)

abbrev pub Gone : Set → Ledger → Type 0
Gone s L = (h : Handle) → Rests (live_at s h) (L.line h)

-- a word of a generation and the mark of a report polls so while the set is open, and so once it has the invalid bit
pub open_poll : (g : ℕ) (b : Bool) → found (g * 4 + bit b) ≡ cond b 1 0
open_poll g true = rw (true_ref (ref_eq ((g * 4 + 1) % 2) 1) (omega arith)) refl
open_poll g false =
    rw (false_ref (ref_eq ((g * 4 + 0) % 2) 1) (λ e. omega arith), false_ref (ref_eq ((g * 4 + 0) / 2 % 2) 1) (λ e. omega arith)) refl

fired_poll : (w : ℕ) → Word.fired_in w ≡ true → found w ≡ 1
fired_poll w e = rw e refl

gone_poll : (g : ℕ) → found (Word.invalid_of (g * 4 + 0)) ≡ 2
gone_poll g = ap found (marked g) ∙ rw (false_ref (ref_eq ((g * 4 + 2) % 2) 1) (λ e. omega arith), true_ref (ref_eq ((g * 4 + 2) / 2 % 2) 1) (omega arith)) refl
  where
    marked : (g : ℕ) → Word.invalid_of (g * 4 + 0) ≡ g * 4 + 2
    marked g = omega arith

-- a word with the mark of a report has the fired bit
pub reported_fired : (g : ℕ) (b : Bool) → Word.fired_in (g * 4 + bit b) ≡ b
reported_fired g true = true_ref (ref_eq ((g * 4 + 1) % 2) 1) (omega arith)
reported_fired g false = false_ref (ref_eq ((g * 4 + 0) % 2) 1) (λ e. omega arith)

-- after a close
pub close_rests : (B : Type 0) (s : Set) (L : Ledger) → Sound s → Tracks B s L → Gone (closed_of s) L
close_rests B s L ok tracks h = go (live_at s h) refl (tracks h)
  where
    go : (o : Option Timing) → live_at s h ≡ o → Stands B o (waiting s h.place.0) (entry_of s h.place.0) (L.line h) → Rests (live_at (closed_of s) h) (L.line h)
    go none e st = rw ((closed_keeps_due s h).dead e) st
    go (some t) e st = told (L.line h).reported refl (waiting s h.place.0) refl
      where
        fired : (L.line h).reported ≡ true → (v : ℕ) → Marks t.word v → found v ≡ cond (L.line h).reported 1 2
        fired r v m = fired_poll v (marks_fired t.word v m ∙ ap Word.fired_in st.word_is ∙ reported_fired st.generation (L.line h).reported ∙ r) ∙ sym (rw r refl)

        marked : (L.line h).reported ≡ false → live_at (closed_of s) h ≡ some (record { word = Word.invalid_of t.word; due = t.due }) → Rests (live_at (closed_of s) h) (L.line h)
        marked r q =
            rw q (st.known, ap (λ (w : ℕ). found (Word.invalid_of w)) (st.word_is ∙ ap (λ (b : Bool). st.generation * 4 + bit b) r) ∙ gone_poll st.generation ∙ sym (rw r refl))

        told : (b : Bool) → (L.line h).reported ≡ b → (w : Bool) → waiting s h.place.0 ≡ w → Rests (live_at (closed_of s) h) (L.line h)
        told true r w x = let k = (closed_keeps_due s h).live t e in rw k.2 (st.known, fired r k.0 k.1)
        told false r true x = marked r (closed_marks s ok h t e (inl x))
        told false r false x = let a = st.armed x r in marked r (closed_marks_entry s ok h t e a.it a.found)
