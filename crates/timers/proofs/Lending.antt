-- The lent list of an advance and of a turn: a refused call leaves it as it was, and a short one is refused.
-- Assumes nothing.
use mathlib.Core.Path.{◌≡◌, ap, sym, ◌∙◌}
use mathlib.Core.Bool.{true, false}
use mathlib.Core.List.{List}
use Prim.Native.Nat.{ℕ, ◌<◌, ◌≤◌}
use lib.ListN.{length}
use borrow.Author.Tests.{le-leb, lt-leb}
use Rattle.refusals.specs.declared.Refusal.{Refusal}
use Rattle.refusals.specs.declared.Refusal.TheVariants.{ShortList}
use Rattle.refusals.specs.Answer.{Outcome, refuse}
use Rattle.refusals.specs.declared.outcome.Outcome as Code
use Rattle.heap.specs.Capacity.{cap}
use Rattle.state.specs.declared.Set.{Set}
use Rattle.state.specs.Faults.{sound_of}
use Rattle.timers.specs.declared.Reply.{Reply}
use Rattle.timers.specs.Calls.{Value, Lent, guarded, opened, open_of, refusing, lent, with_list, roomy, told, told_with}
use Rattle.timers.proofs.Guarding.{stopped_both, through_both}

module _ (s : Set) (l : List ℕ) (o : Outcome Lent Value) where
  -- a call turned away hands back the set, with the list as it was
  pub turned_away : (why : Refusal) (r : Code.Outcome Set Reply) → refuse why ≡ open_of s → told r ≡ refusing s why
      → told_with r l ≡ guarded s (lent s l) (opened s (lent s l) (roomy s l o))
  turned_away why r e h = ap (λ (x : Outcome Set Value). with_list l x) h ∙ sym (stopped_both s why e (lent s l) _)

  -- so does one let through with a short list
  pub too_short : (r : Code.Outcome Set Reply) → (sound_of s ≡ true) × (s.closed ≡ false) → length l < cap → told r ≡ refusing s ShortList
      → told_with r l ≡ guarded s (lent s l) (opened s (lent s l) (roomy s l o))
  too_short r p n h =
      let b = lt-leb cap (length l) n in
      ap (λ (x : Outcome Set Value). with_list l x) h ∙ sym (through_both s p (lent s l) (roomy s l o) ∙ rw b)

  -- one let through with a list that is long enough is made
  pub long_enough : (sound_of s ≡ true) × (s.closed ≡ false) → cap ≤ length l
      → o ≡ guarded s (lent s l) (opened s (lent s l) (roomy s l o))
  long_enough p n = let b = le-leb cap (length l) n in sym (through_both s p (lent s l) (roomy s l o) ∙ rw b)
