-- EVERY CALL KEEPS THE WIDTHS of a sound set's numbers, where the deadline that it is given has 64 bits. So after any such calls from
-- fresh the numbers have the widths of the code's types.
-- Assumes nothing.
use mathlib.Core.Path.{◌≡◌, sym, subst}
use mathlib.Core.Option.{some}
use mathlib.Core.List.{List}
use Prim.Native.Nat.{ℕ, ◌<◌, ◌^◌, ◌≤◌}
use native.Mathlib.Omega.{arith}
use lib.ListN.{length, get_or-eq_default}
use Rattle.theory.proofs.Tests.{by-ref, ref_lt}
use Rattle.heap.specs.Capacity.{cap}
use Rattle.word.specs.Rules as Word
use Rattle.state.specs.declared.Life.TheVariants.{Live, Cancelled}
use Rattle.state.specs.declared.Set.{Set}
use Rattle.state.specs.declared.Handle.{Handle}
use Rattle.state.specs.State.{no_timer, timer_at}
use Rattle.state.specs.Sound.{Sound}
use Rattle.state.specs.Widths.{LifeWidths, TimerWidths, Widths}
use Rattle.state.proofs.Widths.{unused_widths}
use Rattle.timers.specs.declared.Call.{Call}
use Rattle.moves.specs.Rules.{drained_of}
use Rattle.timers.specs.declared.Timing.{Timing}
use Rattle.timers.specs.Calls.{live_at, step}
use Rattle.laws.specs.Words.{Words}
use Rattle.laws.specs.Widths.{Given, IsTime}
use Rattle.laws.proofs.AnyCall.Found.{reset_small, live_in}
use Rattle.laws.proofs.AnyCall.CallsKeep.{step_keeps_of}
use Rattle.laws.proofs.Widths.Turns.{Wide, touched_wide, drained_wide, advanced_wide, closed_wide}

-- past the last place there is one that nobody has used
wide_timer : (s : Set) → length s.timers ≡ cap → Widths s → (p : ℕ) → TimerWidths (timer_at s p)
wide_timer s long w p =
    by-ref (ref_lt p cap)
    (λ b. w.timers_in p b)
    (λ n. let o : length s.timers ≤ p = omega arith in subst TimerWidths (sym (get_or-eq_default s.timers no_timer o)) unused_widths)

module _ (s : Set) (ok : Sound s) (w : Widths s) where
  -- a sound set with the widths has all that its turns keep
  wide : Wide s
  wide = record {
    heap_timed = record { sound = ok.heap_sound; each = w.entries_in_range };
    each_timer = wide_timer s ok.timers_long w;
  }

  -- the word of a live handle has 32 bits
  live_word_lem : (h : Handle) (t : Timing) → live_at s h ≡ some t → t.word < 2 ^ 32
  live_word_lem h t e =
      let q = live_in s h t e in
      let b : LifeWidths (Live t.word t.due) = subst LifeWidths q.1 (w.timers_in h.place.0 q.0).life_in in
      b.0

  -- and so its words are those that the code's type has
  pub widths_words : Words s
  widths_words = record {
    long = ok.timers_long;
    small = λ p b. record { bits = λ v d e. let c : LifeWidths (Live v d) = subst LifeWidths e (w.timers_in p b).life_in in c.0 };
  }

  step_wide : (c : Call) → Given IsTime c → (l : List ℕ) → Wide (step s c l).state.set
  step_wide =
      step_keeps_of IsTime (λ d b. b) Wide s
      (record {
        now = wide;
        adds = λ p d b _ _. touched_wide s wide p (Live 0 d) (omega arith, b);
        resets = λ h t d b _ _. touched_wide s wide h.place.0 (Live (Word.reset_of t.word) d) (reset_small t.word, b);
        cancels = λ h t _ e. touched_wide s wide h.place.0 (Cancelled t.word) (live_word_lem h t e);
      })
      (record {
        drains = λ _. drained_wide s wide;
        advances = λ N l _. advanced_wide s N l wide;
        turns = λ N l _. advanced_wide (drained_of s) N l (drained_wide s wide);
        closes = λ _. closed_wide s wide;
      })

  -- every call keeps them
  pub step_widths : (c : Call) → Given IsTime c → (l : List ℕ) → Widths (step s c l).state.set
  step_widths c g l =
      let r = step_wide c g l in record { entries_in_range = r.heap_timed.each; timers_in = λ p _. r.each_timer p }

  -- and so does a drain by itself
  pub drained_widths : Widths (drained_of s)
  drained_widths =
      let r = drained_wide s wide in record { entries_in_range = r.heap_timed.each; timers_in = λ p _. r.each_timer p }
