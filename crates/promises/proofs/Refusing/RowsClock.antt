-- Each test that a call on a clock makes is a row of the table. Whether the clock runs is seen at once, so 8 needs nothing here.
-- Assumes nothing.
use mathlib.Core.Path.{◌≡◌, refl, ◌∙◌}
use mathlib.Core.Bool.{Bool, true, false, cond}
use mathlib.Core.Option.{none, some}
use Prim.Native.Nat.{ℕ, ◌+◌, ◌-◌}
use lib.Dec.{ltb}
use Rattle.refusals.specs.Answer.{Answer, accepted, refused, unsound}
use Rattle.refusals.specs.Times.{timely}
use Rattle.clock.specs.declared.Clock.{Clock}
use Rattle.clock.specs.declared.Clock.TheVariants.{Running, Paused}
use Rattle.clock.specs.Rules.{reading_of, paused_at, pause_of, advance_of}
use Rattle.promises.specs.Conditions.{above}
use Rattle.promises.specs.Table.{refusal_in}
use Rattle.promises.proofs.Refusing.Rows.{timely_row}

-- 7, then 6: a reading of a running clock
pub reading_row : (base start raw : ℕ)
    → refusal_in (reading_of (Running base start) raw) ≡ cond (ltb raw start) (some 7) (cond (above (base + (raw - start))) (some 6) none)
reading_row base start raw = go (ltb raw start)
  where
    go : (b : Bool)
        → refusal_in (cond b (refused 7) (timely (base + (raw - start)))) ≡ cond b (some 7) (cond (above (base + (raw - start))) (some 6) none)
    go true = refl
    go false = timely_row (base + (raw - start))

-- a clock that is set to a time is refused as the time is
paused_by : (c : Clock) (a : Answer ℕ) → refusal_in (paused_at c a).answer ≡ refusal_in a
paused_by c (accepted t) = refl
paused_by c (refused n) = refl
paused_by c (unsound f) = refl

-- a pause of a running clock, as a reading
pub pause_row : (base start raw : ℕ)
    → refusal_in (pause_of (Running base start) raw).answer ≡ cond (ltb raw start) (some 7) (cond (above (base + (raw - start))) (some 6) none)
pause_row base start raw = paused_by (Running base start) (reading_of (Running base start) raw) ∙ reading_row base start raw

-- 6: an advance of a paused clock
pub advance_row : (base d : ℕ) → refusal_in (advance_of (Paused base) d).answer ≡ cond (above (base + d)) (some 6) none
advance_row base d = paused_by (Paused base) (timely (base + d)) ∙ timely_row (base + d)
