-- No function on the word has a second answer.
-- Assumes nothing.
use Rattle.std.proofs.Common.{◌≡◌, ℕ, zero, suc, Bool, refl}
use Rattle.theory.specs.Promise.{NoSecond, TellsApart}
use Rattle.theory.proofs.Promise.{by_rule, plain_apart, undone_apart}
use Rattle.refusals.specs.Answer.{Answer, accepted, refused, unsound}
use Rattle.word.specs.declared.Polled.{Polled}
use Rattle.word.specs.declared.Polled.TheVariants.{Pending, Fired, Gone}
use Rattle.word.specs.Rules.{generation_of, fired_in, invalid_in, fired_of, invalid_of, reset_of, matches_in, poll_of, said}
use Rattle.word.specs.Promises.{Generation, IsFired, IsInvalid, Fires, Invalidates, Resets, Matches, Polls}

-- the case of a poll's number
polled_of : Answer ℕ → Polled
polled_of (accepted zero) = Pending
polled_of (accepted (suc zero)) = Fired
polled_of (accepted (suc (suc n))) = Gone
polled_of (refused n) = Gone
polled_of (unsound f) = Gone

-- the number tells any two cases of a poll apart
pub said_apart : TellsApart said
unfolding polled_of
said_apart = undone_apart said polled_of back
  where
    back : (r : Polled) → polled_of (said r) ≡ r
    back Pending = refl
    back Fired = refl
    back Gone = refl

pub generation_no_second : NoSecond Generation
generation_no_second = by_rule (λ (r : ℕ). r) generation_of plain_apart

pub fired_no_second : NoSecond IsFired
fired_no_second = by_rule (λ (r : Bool). r) fired_in plain_apart

pub invalid_no_second : NoSecond IsInvalid
invalid_no_second = by_rule (λ (r : Bool). r) invalid_in plain_apart

pub with_fired_no_second : NoSecond Fires
with_fired_no_second = by_rule (λ (r : ℕ). r) fired_of plain_apart

pub with_invalid_no_second : NoSecond Invalidates
with_invalid_no_second = by_rule (λ (r : ℕ). r) invalid_of plain_apart

pub after_reset_no_second : NoSecond Resets
after_reset_no_second = by_rule (λ (r : ℕ). r) reset_of plain_apart

pub matches_no_second : NoSecond (λ (q : ℕ × ℕ) (r : Bool). Matches q.0 q.1 r)
matches_no_second = by_rule (λ (r : Bool). r) (λ (q : ℕ × ℕ). matches_in q.0 q.1) plain_apart

pub poll_no_second : NoSecond Polls
poll_no_second = by_rule said poll_of said_apart
