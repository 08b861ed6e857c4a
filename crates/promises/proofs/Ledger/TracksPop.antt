-- After one pop of an advance the set is as the ledger then says: the head's timer, where its word matches, is reported, and of every
-- other handle nothing changes.
-- Assumes nothing.
use mathlib.Core.Path.{◌≡◌, refl, sym, ap, subst, ◌∙◌}
use mathlib.Core.Logic.{◌≢◌}
use mathlib.Core.Bool.{Bool, true, false, cond}
use mathlib.Core.Option.{Option, none, some}
use mathlib.Core.List.{List, [], ◌∷◌}
use Prim.Native.Nat.{ℕ, ◌*◌, ◌<◌, ◌^◌}
use lib.Dec.{ltb}
use borrow.Author.Tests.{eq-eqb}
use Rattle.theory.proofs.Tests.{by-ref, ref_eq, ref_true, true_false}
use Rattle.heap.specs.Capacity.{cap}
use Rattle.heap.specs.declared.Entry.{Entry}
use Rattle.heap.specs.Rules.{entry_at}
use Rattle.word.specs.Rules.{fired_of, matches_in}
use Rattle.state.specs.declared.Life.TheVariants.{Live}
use Rattle.state.specs.declared.Timer.{Timer}
use Rattle.state.specs.declared.Set.{Set}
use Rattle.state.specs.declared.Handle.{Handle}
use Rattle.state.specs.State.{timer_at, is_waiting}
use Rattle.state.specs.Sound.{Sound}
use Rattle.state.specs.declared.Life.{Life}
use Rattle.moves.specs.Rules.{Ring, rung_word, rung_life, reports, rung_timer, rung_of}
use Rattle.timers.specs.declared.Timing.{Timing}
use Rattle.timers.specs.Calls.{timing_of, live_at}
use Rattle.laws.specs.EntryOf.{entry_of, waiting}
use Rattle.laws.proofs.Handles.Naming.{names, names_same, live_by, live_in_range, live_told}
use Rattle.laws.proofs.Handles.Still.{rung_stays}
use Rattle.laws.proofs.Handles.ByHandle.{one_handle}
use Rattle.laws.proofs.Entries.EntryOfPop.{head_entry, rung_timer_other, rung_timer_head, rung_entry_other, rung_entry_head}
use Rattle.laws.proofs.Reporting.Written.{head_reports}
use Rattle.promises.specs.Turns.{Line, Ledger}
use Rattle.promises.proofs.Ledger.Told.{told, told_none, told_other, told_same}
use Rattle.promises.proofs.Ledger.Tracks.{Living, Stands, Tracks, stands_same, living_fired, living_stale}

-- the handle of the head's timer
abbrev pub head_handle : Ring → Handle
head_handle r = record { place = (entry_at r.set.heap 0).place; uses = (timer_at r.set (entry_at r.set.heap 0).place.0).uses }

-- whom a pop reports
abbrev pub heard_if : Bool → Ring → List Handle
heard_if b r = cond b (head_handle r ∷ []) []

abbrev pub heard : Ring → List Handle
heard r = heard_if (head_reports r) r

module _ (B : Type 0) (r : Ring) (L : Ledger) (tracks : Tracks B r.set L) (sound : Sound r.set) (b : 0 < r.set.heap.len) where
  abbrev e : Entry
  e = entry_at r.set.heap 0

  abbrev p : ℕ
  p = e.place.0

  abbrev after : Set
  after = (rung_of r).set

  -- the head's place is one of the set's
  pub head_in : p < cap
  head_in = sound.entry_place 0 b

  -- the report, whether there is one, leaves the lines of all other handles
  told_heard : (k : Handle) → k ≢ head_handle r → (m : Bool) → (told (heard_if m r) L).line k ≡ L.line k
  told_heard k n true = told_other (head_handle r) k L n
  told_heard k n false = ap (λ (M : Ledger). M.line k) (told_none L)

  -- a handle of another place
  module _ (k : Handle) (n : k.place.0 ≢ p) where
    not_head : k ≢ head_handle r
    not_head q = n (ap (λ (h : Handle). h.place.0) q)

    live_kept : live_at after k ≡ live_at r.set k
    live_kept =
        live_by after k ∙ ap (λ (t : Timer). cond (ltb k.place.0 cap) (names t k.uses) none) (rung_timer_other r sound b k.place.0 n)
        ∙ sym (live_by r.set k)

    there : (o : Option Timing) → live_at r.set k ≡ o → Stands B o (waiting r.set k.place.0) (entry_of r.set k.place.0) (L.line k)
        → Stands B o (waiting after k.place.0) (entry_of after k.place.0) ((told (heard r) L).line k)
    there none q st = ap (λ (l : Line). l.live) (told_heard k not_head (head_reports r)) ∙ st
    there (some t) q st =
        stands_same B {o = some t} refl (ap (λ (x : Timer). is_waiting x.waiting) (rung_timer_other r sound b k.place.0 n))
        (rung_entry_other r sound b k.place.0 (live_told r.set k t q).in_range n) (told_heard k not_head (head_reports r)) st

    other_tracks : Stands B (live_at after k) (waiting after k.place.0) (entry_of after k.place.0) ((told (heard r) L).line k)
    other_tracks = stands_same B {o = live_at r.set k} live_kept refl refl refl (there (live_at r.set k) refl (tracks k))

  -- a handle of the head's place
  module _ (k : Handle) (at : k.place.0 ≡ p) where
    names_then : live_at after k ≡ names (rung_timer e.generation (timer_at r.set p)) k.uses
    names_then =
        live_in_range after k (subst (λ (x : ℕ). x < cap) (sym at) head_in)
        ∙ ap (λ (x : ℕ). names (timer_at after x) k.uses) at
        ∙ ap (λ (t : Timer). names t k.uses) (rung_timer_head r sound b)

    names_now : live_at r.set k ≡ names (timer_at r.set p) k.uses
    names_now = live_in_range r.set k (subst (λ (x : ℕ). x < cap) (sym at) head_in) ∙ ap (λ (x : ℕ). names (timer_at r.set x) k.uses) at

    -- one that is dead stays so
    dead_then : live_at r.set k ≡ none → live_at after k ≡ none
    dead_then q = names_then ∙ (rung_stays e.generation (timer_at r.set p) k.uses).dead (sym names_now ∙ q)

    module _ (t : Timing) (q : live_at r.set k ≡ some t) where
      life_is : (timer_at r.set p).life ≡ Live t.word t.due
      life_is = ap (λ (x : ℕ). (timer_at r.set x).life) (sym at) ∙ (live_told r.set k t q).is_live

      uses_is : (timer_at r.set p).uses ≡ k.uses
      uses_is = ap (λ (x : ℕ). (timer_at r.set x).uses) (sym at) ∙ (live_told r.set k t q).same_uses

      -- it is the head's
      is_head : k ≡ head_handle r
      is_head = one_handle (head_handle r) k at (sym uses_is)

      -- it is reported where its word matches
      reports_is : head_reports r ≡ matches_in t.word e.generation
      reports_is = ap (reports e.generation) life_is

      then_is : live_at after k ≡ some (record { word = rung_word t.word e.generation; due = t.due })
      then_is =
          names_then ∙ names_same (rung_timer e.generation (timer_at r.set p)) k.uses uses_is
          ∙ ap (λ (l : Life). timing_of (rung_life e.generation l)) life_is

      -- how it stood, with its entry
      pub stood : Living B t (waiting r.set p) (entry_of r.set p) (L.line k)
      stood = subst (λ (x : ℕ). Living B t (waiting r.set x) (entry_of r.set x) (L.line k)) at
          (subst (λ (o : Option Timing). Stands B o (waiting r.set k.place.0) (entry_of r.set k.place.0) (L.line k)) q (tracks k))

      waits_is : waiting after k.place.0 ≡ waiting r.set p
      waits_is = ap (waiting after) at ∙ ap (λ (x : Timer). is_waiting x.waiting) (rung_timer_head r sound b)

      bare : entry_of after k.place.0 ≡ none
      bare = ap (entry_of after) at ∙ rung_entry_head r sound b

      here : (B → (L.line k).resets < 2 ^ 30) → (m : Bool) → matches_in t.word e.generation ≡ m
          → Stands B (live_at after k) (waiting after k.place.0) (entry_of after k.place.0) ((told (heard r) L).line k)
      here low true m =
          stands_same B (then_is ∙ ap (λ (c : Bool). some (record { word = cond c (fired_of t.word) t.word; due = t.due })) m) waits_is bare
          (ap (λ (c : Bool). (told (heard_if c r) L).line k) (reports_is ∙ m) ∙ ap (λ (x : Handle). (told (x ∷ []) L).line k) (sym is_head) ∙ told_same k L)
          (living_fired B t (waiting r.set p) (entry_of r.set p) (L.line k) stood e (head_entry r.set sound b) low
          (ref_true (ref_eq t.word (e.generation * 4)) m))
      here low false m =
          stands_same B (then_is ∙ ap (λ (c : Bool). some (record { word = cond c (fired_of t.word) t.word; due = t.due })) m) waits_is bare
          (ap (λ (c : Bool). (told (heard_if c r) L).line k) (reports_is ∙ m) ∙ ap (λ (M : Ledger). M.line k) (told_none L))
          (living_stale B t (waiting r.set p) (entry_of r.set p) (L.line k) stood e (head_entry r.set sound b)
          (λ x. true_false (eq-eqb t.word (e.generation * 4) x) m))

    head_tracks : (B → (L.line k).resets < 2 ^ 30) → Stands B (live_at after k) (waiting after k.place.0) (entry_of after k.place.0) ((told (heard r) L).line k)
    head_tracks low = go (live_at r.set k) refl
      where
        go : (o : Option Timing) → live_at r.set k ≡ o → Stands B (live_at after k) (waiting after k.place.0) (entry_of after k.place.0) ((told (heard r) L).line k)
        go none q =
            stands_same B (dead_then q) refl refl refl
            (subst (λ (o : Option Timing). Stands B o (waiting r.set k.place.0) (entry_of r.set k.place.0) (L.line k)) q (tracks k))
        go (some t) q = here t q low (matches_in t.word e.generation) refl

  -- all handles
  pub pop_tracks : (B → (k : Handle) → (L.line k).resets < 2 ^ 30) → Tracks B after (told (heard r) L)
  pop_tracks low k = by-ref (ref_eq k.place.0 p) (λ at. head_tracks k at (λ x. low x k)) (other_tracks k)
