-- The list that a turn leaves: as long as it was, its reports within it, each a word of 64 bits, and the rest as it was.
-- Assumes nothing.
use mathlib.Core.Path.{◌≡◌, refl}
use mathlib.Core.Bool.{false}
use mathlib.Core.List.{List}
use Prim.Native.Nat.{ℕ, ◌≤◌, ◌<◌, ◌^◌}
use native.Mathlib.Omega.{arith}
use lib.ListN.{length, get_or, drop}
use Rattle.theory.proofs.Tests.{true_false}
use Rattle.refusals.specs.Answer.{Answer, accepted, refused, unsound, is_accepted}
use Rattle.heap.specs.Capacity.{cap}
use Rattle.state.specs.declared.Set.{Set}
use Rattle.state.specs.State.{timer_at}
use Rattle.state.specs.Sound.{Sound}
use Rattle.state.specs.Widths.{Widths}
use Rattle.state.proofs.Handles.{place_ranged, word_fits}
use Rattle.timers.specs.Values.{reports_in}
use Rattle.moves.specs.Rules.{drained_of, advanced_of}
use Rattle.timers.specs.Calls.{Value, turn_of}
use Rattle.laws.proofs.AnyCall.CallCases.{turn_by}
use Rattle.laws.proofs.Soundness.DrainSound.{drained_sound}
use Rattle.laws.proofs.Soundness.AdvancedSound.{advanced_counts}
use Rattle.laws.proofs.Reporting.AdvancedList.{rest_kept, advanced_rest, advanced_words}
use Rattle.laws.proofs.Widths.Calls.{widths_words, drained_widths}

-- a list m that was l, with n reports
pub record Lists (n : ℕ) (l m : List ℕ) : Type 0 where
  pub long : length m ≡ length l
  pub within : n ≤ length l
  pub rest : drop n m ≡ drop n l
  pub small : (i : ℕ) → i < n → get_or m i 0 < 2 ^ 64

-- a list without a report
pub unreported : (a : Answer Value) (l : List ℕ) → is_accepted a ≡ false → Lists (reports_in a) l l
unreported (accepted v) l e = true_false refl e
unreported (refused n) l e = record { long = refl; within = omega arith; rest = refl; small = λ i b. absurd (omega arith) }
unreported (unsound f) l e = record { long = refl; within = omega arith; rest = refl; small = λ i b. absurd (omega arith) }

module _ (s : Set) (ok : Sound s) (w : Widths s) where
  -- an advance after a drain
  rung_list : s.closed ≡ false → (N : ℕ) (l : List ℕ) → cap ≤ length l
      → let r = advanced_of (drained_of s) N l in Lists r.reported l r.list
  rung_list c N l room =
      let d = drained_sound s ok c (widths_words s ok w) in
      let k = rest_kept (drained_of s) l (advanced_of (drained_of s) N l) (advanced_rest (drained_of s) N l d) in
      let n = advanced_counts (drained_of s) N l d in
      record {
        long = k.0;
        within = omega (arith, n.reported_in, n.popped_in, d.heap_sound.len_in);
        rest = k.1;
        small = λ i b.
            let h = advanced_words (drained_of s) N l d room i b in
            let u = ((drained_widths s ok w).timers_in h.at h.in_range).uses_in in
            omega (
              arith,
              h.is_word,
              word_fits (record { place = record { 0 = h.at }; uses = (timer_at (drained_of s) h.at).uses }) u (place_ranged h.at h.in_range),
            );
      }

  -- a turn
  pub turn_list : (N : ℕ) (l : List ℕ) → let o = turn_of s N l in Lists (reports_in o.answer) l o.state.list
  turn_list N l =
      turn_by (λ o. Lists (reports_in o.answer) l o.state.list) s l (λ a e. unreported a l e) N (λ a room. rung_list a.still_open N l room)
