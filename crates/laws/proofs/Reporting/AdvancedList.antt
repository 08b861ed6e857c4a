-- The list that an advance writes to: it keeps its length, the words of live timers' handles stand at its start, as many as are
-- counted, and the rest is as it was.
-- Assumes nothing.
use mathlib.Core.Path.{◌≡◌, refl, sym, ◌∙◌, ap, subst}
use mathlib.Core.Bool.{Bool, true, false, cond}
use mathlib.Core.List.{List}
use Prim.Native.Nat.{ℕ, ◌+◌, ◌-◌, ◌≤◌, ◌<◌}
use native.Mathlib.Omega.{arith}
use lib.ListN.{length, get_or, set, drop, length-set, length-drop}
use lib.Seq.{get_or-set_same, get_or-set_other, get_or-drop, ext_get_or}
use Rattle.theory.proofs.Tests.{by-ref, ref_eq, true_false}
use Rattle.heap.specs.Capacity.{cap}
use Rattle.heap.specs.declared.Entry.{Entry}
use Rattle.heap.specs.Rules.{entry_at}
use Rattle.state.specs.declared.Life.{Life}
use Rattle.state.specs.declared.Life.TheVariants.{Free, Live, Cancelled, Retired}
use Rattle.state.specs.declared.Timer.{Timer}
use Rattle.state.specs.declared.Set.{Set}
use Rattle.state.specs.State.{timer_at}
use Rattle.state.specs.Handles.{handle_word}
use Rattle.state.specs.Sound.{Sound}
use Rattle.moves.specs.Rules.{Ring, rung_life, reports, rung_timer, rung_of, advanced_of}
use Rattle.laws.specs.Advanced.{Handled, Stays, Rest}
use Rattle.laws.proofs.Parts.Ties.{sound_tied}
use Rattle.laws.proofs.Soundness.Popping.{head_place, headless_all}
use Rattle.laws.proofs.Soundness.RungSound.{due_some, rung_sound}
use Rattle.laws.proofs.Soundness.AdvancedSound.{ring_by, from_start, advanced_counts}

-- what rings and is live then was live
rung_live : (g : ℕ) (l : Life) (w d : ℕ) → rung_life g l ≡ Live w d → (v : ℕ) × (l ≡ Live v d)
rung_live g Free w d e = (0, cc)
rung_live g (Live v u) w d e = let z : u ≡ d = cc in (v, ap (Live v) z)
rung_live g (Cancelled v) w d e = (0, cc)
rung_live g Retired w d e = (0, cc)

-- what is reported is live
reports_live : (g : ℕ) (l : Life) → reports g l ≡ true → (v d : ℕ) × (l ≡ Live v d)
reports_live g Free e = true_false e refl
reports_live g (Live v d) e = (v, d, refl)
reports_live g (Cancelled v) e = true_false e refl
reports_live g Retired e = true_false e refl

module _ (s : Set) (l : List ℕ) (r : Ring) (c : Rest s l r) (b : 0 < r.set.heap.len) where
  e : Entry
  e = entry_at r.set.heap 0

  t : Timer
  t = timer_at r.set e.place.0

  -- the word that is written
  word : ℕ
  word = handle_word (record { place = e.place; uses = t.uses })

  -- a pop leaves the timers' use numbers, and revives none
  popped_stays : (p : ℕ) → Stays (timer_at s p) (timer_at (rung_of r).set p)
  unfolding rung_of e t
  popped_stays =
      headless_all r.set (sound_tied r.set c.set_sound) b (rung_timer e.generation t) (λ p y. Stays (timer_at s p) y)
      (record {
        same_uses = (c.stays e.place.0).same_uses;
        was_live = λ w d x. let k = rung_live e.generation t.life w d x in (c.stays e.place.0).was_live k.0 d k.1;
      })
      (λ p _. c.stays p)

  -- it is the word of a live timer's handle, where it is reported
  word_handled : reports e.generation t.life ≡ true → Handled s word
  unfolding e t word
  word_handled x =
      let k = reports_live e.generation t.life x in
      let w = (c.stays e.place.0).was_live k.0 k.1 k.2 in
      record {
        at = e.place.0;
        in_range = head_place r.set (sound_tied r.set c.set_sound) b t;
        state_word = w.0;
        due = k.1;
        live = w.1;
        is_word = ap (λ (u : ℕ). handle_word (record { place = e.place; uses = u })) (c.stays e.place.0).same_uses;
      }

  -- a pop keeps what holds of the list
  rung_rest : Rest s l (rung_of r)
  unfolding rung_of e t word
  rung_rest = record {
    set_sound = rung_sound r c.set_sound b;
    stays = popped_stays;
    same_length = lengths (reports e.generation t.life);
    untouched = beyond (reports e.generation t.life);
    written = before (reports e.generation t.life) word_handled;
  }
    where
      lengths : (f : Bool) → length (cond f (set r.list r.reported word) r.list) ≡ length l
      lengths true = length-set r.list r.reported word ∙ c.same_length
      lengths false = c.same_length

      beyond : (f : Bool) (i : ℕ) → cond f (r.reported + 1) r.reported ≤ i
          → get_or (cond f (set r.list r.reported word) r.list) i 0 ≡ get_or l i 0
      beyond true i h =
          get_or-set_other r.list r.reported i word 0 (λ q. omega arith) ∙ c.untouched i (omega arith)
      beyond false i h = c.untouched i h

      before : (f : Bool) → (f ≡ true → Handled s word) → (i : ℕ) → i < cond f (r.reported + 1) r.reported → i < length l
          → Handled s (get_or (cond f (set r.list r.reported word) r.list) i 0)
      before true new i h m =
          by-ref (ref_eq i r.reported)
          (λ q. subst (λ (j : ℕ). Handled s (get_or (set r.list r.reported word) j 0)) (sym q)
          (subst (Handled s) (sym (get_or-set_same r.list r.reported word 0 (omega (arith, c.same_length)))) (new refl)))
          (λ n. subst (Handled s) (sym (get_or-set_other r.list r.reported i word 0 n)) (c.written i (omega arith) m))
      before false new i h m = c.written i h m

-- the list after an advance: as long as it was, unchanged from the count of the reports on, and before that the words of the handles
-- of live timers
pub advanced_rest : (s : Set) (N : ℕ) (l : List ℕ) → Sound s → Rest s l (advanced_of s N l)
unfolding advanced_of
advanced_rest s N l ok =
    ring_by (Rest s l) N (λ r d c. rung_rest s l r c (due_some r.set.heap N d)) s.heap.len (from_start s l)
    (record {
      set_sound = ok;
      stays = λ p. record { same_uses = refl; was_live = λ w d x. (w, x) };
      same_length = refl;
      untouched = λ i _. refl;
      written = λ i h _. absurd (omega arith);
    })

-- in a list with room for as many words as there are places, each report is the word of a live timer's handle
pub advanced_words : (s : Set) (N : ℕ) (l : List ℕ) → Sound s → cap ≤ length l → (i : ℕ) → i < (advanced_of s N l).reported
    → Handled s (get_or (advanced_of s N l).list i 0)
advanced_words s N l ok room i h =
    let c = advanced_counts s N l ok in
    (advanced_rest s N l ok).written i h (omega (arith, c.reported_in, c.popped_in, ok.heap_sound.len_in))

-- a list as it was, but for its first n words
abbrev pub Kept : ℕ → List ℕ → List ℕ → Type 0
Kept n l m = (length m ≡ length l) × (drop n m ≡ drop n l)

-- past its reports an advance leaves the list as it was
pub rest_kept : (s : Set) (l : List ℕ) (r : Ring) → Rest s l r → Kept r.reported l r.list
rest_kept s l r k = (
  k.same_length,
  ext_get_or 0 (drop r.reported r.list) (drop r.reported l)
      (length-drop r.reported r.list ∙ ap (λ (n : ℕ). n - r.reported) k.same_length ∙ sym (length-drop r.reported l))
      (λ i _. get_or-drop r.reported r.list i 0 ∙ k.untouched (r.reported + i) (omega arith) ∙ sym (get_or-drop r.reported l i 0)),
)
