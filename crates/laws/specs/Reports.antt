-- What a call reports, and whom a report stands for (proofs/Reporting/Reports.antt).
-- Assumes nothing.
use Rattle.std.specs.Prelude.{◌≡◌, List, ℕ, ◌<◌, get_or}
use Rattle.std.proofs.Math.Option.{some}
use Rattle.refusals.specs.Answer.{accepted}
use Rattle.state.specs.declared.Set.{Set}
use Rattle.state.specs.declared.Handle.{Handle}
use Rattle.state.specs.Handles.{handle_word}
use Rattle.timers.specs.declared.Call.{Call}
use Rattle.timers.specs.declared.Timing.{Timing}
use Rattle.timers.specs.Calls.{counts, live_at, step}

-- a call reports a word: it answers counts, and the word stands in the list as the call leaves it, before the count of the reports
pub record Reports (s : Set) (c : Call) (l : List ℕ) (word : ℕ) : Type 0 where
  pub reported : ℕ
  pub popped : ℕ
  pub answers : (step s c l).answer ≡ accepted (counts reported popped)
  pub at : ℕ
  pub counted : at < reported
  pub stands : get_or (step s c l).state.list at 0 ≡ word

-- a word that is that of a live handle
pub record OfLive (s : Set) (word : ℕ) : Type 0 where
  pub whose : Handle
  pub timing : Timing
  pub is_live : live_at s whose ≡ some timing
  pub is_word : word ≡ handle_word whose
