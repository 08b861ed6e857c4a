-- A whole advance: who is reported, in which order, what the list then has, and that the set is as the ledger then says.
-- Assumes nothing.
use mathlib.Core.Path.{◌≡◌, refl, sym, ap, subst, ◌∙◌}
use mathlib.Core.Bool.{Bool, true, false, not, cond, ◌&&◌, ◌||◌}
use mathlib.Core.Option.{some}
use mathlib.Core.List.{List, [], ◌∷◌, ◌++◌, filter_map, filter_map-cons-some, filter_map-append, append-nil, append_assoc}
use Prim.Native.Nat.{ℕ, zero, suc, ◌+◌, ◌≤◌, ◌<◌, ◌^◌}
use native.Mathlib.Omega.{arith}
use lib.Dec.{leb}
use lib.ListN.{length, take}
use borrow.Author.Tests.{leb-true, le-leb}
use Rattle.theory.specs.Tests.{bit}
use Rattle.theory.specs.Occurs.{times}
use Rattle.theory.specs.Weights.{Rising}
use Rattle.theory.proofs.Occurs.{times_same, times_other}
use Rattle.theory.proofs.Tests.{and_left, and_right, none_some, is_false, by-ref, ref_eq}
use Rattle.heap.specs.Capacity.{cap}
use Rattle.heap.specs.declared.Entry.{Entry}
use Rattle.heap.specs.Rules.{entry_at}
use Rattle.state.specs.declared.Timer.{Timer}
use Rattle.state.specs.declared.Set.{Set}
use Rattle.state.specs.declared.Handle.{Handle}
use Rattle.state.specs.State.{is_waiting}
use Rattle.state.specs.Handles.{named_by, handle_discrete}
use Rattle.state.specs.Sound.{Sound}
use Rattle.state.proofs.Handles.{place_ranged, named_word}
use Rattle.moves.specs.Rules.{Ring, due_by, rung_of, ring_from}
use Rattle.laws.specs.EntryOf.{entry_of, waiting}
use Rattle.laws.proofs.Soundness.RungSound.{due_some, rung_sound}
use Rattle.laws.proofs.Entries.EntryOfPop.{due_head, head_entry, head_least, no_entry_lem, not_due, rung_timer_other, rung_timer_head, rung_entry_other, rung_entry_head}
use Rattle.laws.proofs.Reporting.Written.{head_reports, head_word, rung_words, rung_long, rung_reported, rung_left}
use Rattle.promises.specs.Turns.{Line, Ledger, rung}
use Rattle.promises.proofs.Ledger.Told.{told, told_none, told_other, told_same, told_append}
use Rattle.promises.proofs.Ledger.Tracks.{Tracks, bit_small}
use Rattle.promises.proofs.Ledger.TracksPop.{head_handle, heard_if, heard, head_in, pop_tracks}
use Rattle.promises.proofs.Ledger.TracksHead.{ready, Safe, ready_entry, head_ready}

-- a handle that is ready, and whose deadline is at or before the reading
abbrev pub called : Ledger → ℕ → Handle → Bool
called L N h = ready (L.line h) && leb (L.line h).due N

-- no entry of the set is before b
abbrev pub NoneBefore : Set → ℕ → Type 0
NoneBefore s b = (x : ℕ) (e : Entry) → x < cap → entry_of s x ≡ some e → b ≤ e.at

-- what the pops from r to q report to a ledger L, with entries from b on
pub record Rang (B : Type 0) (L : Ledger) (N b : ℕ) (r q : Ring) : Type 0 where
  pub who : List Handle
  pub tracks : Tracks B q.set (told who L)
  pub written : filter_map named_by (take q.reported q.list) ≡ filter_map named_by (take r.reported r.list) ++ who
  pub counted : q.reported ≡ r.reported + length who
  pub exact : Safe B r.set → (h : Handle) → times handle_discrete h who ≡ bit (called L N h)
  pub sorted : Safe B r.set → Rising (λ h. (L.line h).due) b who

-- a list that rises from b rises from what is lower
rising_from : (f : Handle → ℕ) (a b : ℕ) (R : List Handle) → a ≤ b → Rising f b R → Rising f a R
rising_from f a b [] l t = tt
rising_from f a b (h ∷ R) l t = (omega (arith, t.0), t.1)

-- one that was reported is not ready
told_unready : (l : Line) → ready (rung true l) ≡ false
told_unready l = go l.live l.reported l.drained
  where
    go : (a b c : Bool) → (a && not (b || true)) && c ≡ false
    go true true c = refl
    go true false c = refl
    go false b c = refl

module _ (B : Type 0) (N : ℕ) where
  -- nothing is due any more
  over : (r : Ring) (L : Ledger) (b : ℕ) → Tracks B r.set L → ((x : ℕ) (e : Entry) → x < cap → entry_of r.set x ≡ some e → N < e.at) → Rang B L N b r r
  unfolding times
  over r L b tracks late = record {
    who = [];
    tracks = subst (Tracks B r.set) (sym (told_none L)) tracks;
    written = sym (append-nil (filter_map named_by (take r.reported r.list)));
    counted = omega arith;
    exact = λ _ h. ap bit (sym (is_false (called L N h) (missed h)));
    sorted = λ _. tt;
  }
    where
      missed : (h : Handle) → called L N h ≡ true → ⊥
      missed h y =
          let k = ready_entry B r.set L tracks h (and_left (ready (L.line h)) (leb (L.line h).due N) y) in
          let d = leb-true (L.line h).due N (and_right (ready (L.line h)) (leb (L.line h).due N) y) in
          omega (arith, late h.place.0 k.it k.in_range k.found, k.on_time, d)

  module _ (r : Ring) (L : Ledger) (b : ℕ) (low : B → (h : Handle) → (L.line h).resets < 2 ^ 30) (tracks : Tracks B r.set L) (sound : Sound r.set)
      (due : due_by r.set.heap N ≡ true) where
    some_left : 0 < r.set.heap.len
    some_left = due_some r.set.heap N due

    abbrev e : Entry
    e = entry_at r.set.heap 0

    -- the entries that are left are no earlier than the head was
    rest_after : NoneBefore (rung_of r).set e.at
    rest_after x f c q = by-ref (ref_eq x e.place.0)
        (λ at. absurd (none_some (rung_entry_head r sound some_left) (ap (entry_of (rung_of r).set) (sym at) ∙ q)))
        (λ n. (head_least r.set sound x f c (sym (rung_entry_other r sound some_left x c n) ∙ q)).1)

    -- who waits did so before the pop
    still_safe : Safe B r.set → Safe B (rung_of r).set
    still_safe safe x c w = by-ref (ref_eq x e.place.0)
        (λ at. safe x c (ap (waiting r.set) at
        ∙ ap (λ (t : Timer). is_waiting t.waiting) (sym (rung_timer_head r sound some_left)) ∙ ap (waiting (rung_of r).set) (sym at) ∙ w))
        (λ n. safe x c (ap (λ (t : Timer). is_waiting t.waiting) (sym (rung_timer_other r sound some_left x n)) ∙ w))

    -- the head's word names the head's handle
    heard_words : (m : Bool) → filter_map named_by (cond m (head_word r ∷ []) []) ≡ heard_if m r
    unfolding filter_map
    heard_words true =
        filter_map-cons-some named_by (head_word r) [] (named_word (head_handle r) (place_ranged e.place.0 (head_in B r L tracks sound some_left)))
    heard_words false = refl

    -- one report more, of a handle that is ready and due, to a list that is exact for the ledger that has it
    more_exact : (R : List Handle) → ready (L.line (head_handle r)) ≡ true → (L.line (head_handle r)).due ≤ N
        → ((h : Handle) → times handle_discrete h R ≡ bit (called (told (head_handle r ∷ []) L) N h))
        → (h : Handle) → times handle_discrete h (head_handle r ∷ R) ≡ bit (called L N h)
    more_exact R y d ih h = go (handle_discrete h (head_handle r))
      where
        same : times handle_discrete (head_handle r) (head_handle r ∷ R) ≡ bit (called L N (head_handle r))
        same =
            times_same handle_discrete (head_handle r) R
            ∙ ap suc (ih (head_handle r) ∙ ap (λ (l : Line). bit (ready l && leb l.due N)) (told_same (head_handle r) L)
            ∙ ap (λ (c : Bool). bit (c && leb (L.line (head_handle r)).due N)) (told_unready (L.line (head_handle r))))
            ∙ sym (rw (y, le-leb (L.line (head_handle r)).due N d) refl)

        go : Dec (h ≡ head_handle r) → times handle_discrete h (head_handle r ∷ R) ≡ bit (called L N h)
        go (yes q) = subst (λ (x : Handle). times handle_discrete x (head_handle r ∷ R) ≡ bit (called L N x)) (sym q) same
        go (no n) =
            times_other handle_discrete h (head_handle r) R n ∙ ih h
            ∙ ap (λ (l : Line). bit (ready l && leb l.due N)) (told_other (head_handle r) h L n)

    -- a pop, and then the rest of the advance
    more : (q : Ring) → NoneBefore r.set b → r.reported < length r.list → Rang B (told (heard r) L) N e.at (rung_of r) q → Rang B L N b r q
    more q bound room k = record {
      who = heard r ++ k.who;
      tracks = subst (Tracks B q.set) (told_append (heard r) k.who L) k.tracks;
      written =
          k.written
          ∙ ap (λ (l : List ℕ). filter_map named_by l ++ k.who) (rung_words r room)
          ∙ ap (λ (l : List Handle). l ++ k.who) (filter_map-append named_by (take r.reported r.list) (cond (head_reports r) (head_word r ∷ []) []))
          ∙ ap (λ (l : List Handle). filter_map named_by (take r.reported r.list) ++ l ++ k.who) (heard_words (head_reports r))
          ∙ append_assoc (filter_map named_by (take r.reported r.list)) (heard r) k.who;
      counted = k.counted ∙ ap (λ (n : ℕ). n + length k.who) (rung_reported r) ∙ tally (head_reports r);
      exact = λ safe. all_exact safe (head_reports r) refl (k.exact (still_safe safe));
      sorted = λ safe. all_sorted safe (head_reports r) refl (k.sorted (still_safe safe));
    }
      where
        tally : (m : Bool) → r.reported + bit m + length k.who ≡ r.reported + length (heard_if m r ++ k.who)
        tally true = omega arith
        tally false = omega arith

        all_exact : Safe B r.set → (m : Bool) → head_reports r ≡ m
            → ((h : Handle) → times handle_discrete h k.who ≡ bit (called (told (heard_if m r) L) N h))
            → (h : Handle) → times handle_discrete h (heard_if m r ++ k.who) ≡ bit (called L N h)
        all_exact safe true y ih =
            let t = head_ready B r L tracks sound some_left y (λ x. low x (head_handle r)) safe in
            more_exact k.who t.0 (omega (arith, t.1, due_head r.set.heap N due)) ih
        all_exact safe false y ih = λ h. ih h ∙ ap (λ (M : Ledger). bit (called M N h)) (told_none L)

        all_sorted : Safe B r.set → (m : Bool) → head_reports r ≡ m → Rising (λ h. (L.line h).due) e.at k.who
            → Rising (λ h. (L.line h).due) b (heard_if m r ++ k.who)
        all_sorted safe true y ih =
            let t = head_ready B r L tracks sound some_left y (λ x. low x (head_handle r)) safe in
            let f = bound e.place.0 e (head_in B r L tracks sound some_left) (head_entry r.set sound some_left) in
            (omega (arith, t.1, f), rw t.1 ih)
        all_sorted safe false y ih =
            let f = bound e.place.0 e (head_in B r L tracks sound some_left) (head_entry r.set sound some_left) in
            rising_from (λ h. (L.line h).due) b e.at k.who f ih

  -- the pops while the head is due
  pub ring_rang : (k b : ℕ) (r : Ring) (L : Ledger) → (B → (h : Handle) → (L.line h).resets < 2 ^ 30) → Tracks B r.set L → Sound r.set
      → r.set.heap.len ≤ k → r.reported + r.set.heap.len ≤ length r.list → NoneBefore r.set b → Rang B L N b r (ring_from k r N)
  unfolding ring_from
  ring_rang zero b r L low tracks sound n room bound =
      over r L b tracks (λ x e c q. absurd (none_some (no_entry_lem r.set sound (omega arith) x c) q))
  ring_rang (suc k) b r L low tracks sound n room bound = go (due_by r.set.heap N) refl (ring_rang k)
    where
      go : (m : Bool) → due_by r.set.heap N ≡ m
          → ((b : ℕ) (r : Ring) (L : Ledger) → (B → (h : Handle) → (L.line h).resets < 2 ^ 30) → Tracks B r.set L → Sound r.set
          → r.set.heap.len ≤ k → r.reported + r.set.heap.len ≤ length r.list → NoneBefore r.set b → Rang B L N b r (ring_from k r N))
          → Rang B L N b r (cond m (ring_from k (rung_of r) N) r)
      go false d ih = over r L b tracks (not_due r.set sound N d)
      go true d ih =
          let s : 0 < r.set.heap.len = due_some r.set.heap N d in
          let f = rung_left r sound s in
          more r L b low tracks sound d (ring_from k (rung_of r) N) bound (omega arith)
          (ih (entry_at r.set.heap 0).at (rung_of r) (told (heard r) L) low (pop_tracks B r L tracks sound s low) (rung_sound r sound s) (omega arith)
          (omega (arith, f, rung_long r, rung_reported r, bit_small (head_reports r))) (rest_after r L b low tracks sound d))
