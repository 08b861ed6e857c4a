-- The rules of the state word, in plain arithmetic: bit 0 is fired, bit 1 invalid, the upper 30 bits the generation.
-- Assumes nothing.
use Rattle.std.specs.Prelude.{ℕ, ◌+◌, ◌*◌, ◌/◌, ◌%◌, ◌^◌, Bool, cond, ◌==◌}
use Rattle.refusals.specs.Answer.{Answer, accepted}
use Rattle.word.specs.declared.Polled.{Polled}
use Rattle.word.specs.declared.Polled.TheVariants.{Pending, Fired, Gone}

abbrev pub generation_of : ℕ → ℕ
generation_of w = w / 4

abbrev pub fired_in : ℕ → Bool
fired_in w = w % 2 == 1

abbrev pub invalid_in : ℕ → Bool
invalid_in w = w / 2 % 2 == 1

-- the fired bit is set, and the 31 bits above it stay
abbrev pub fired_of : ℕ → ℕ
fired_of w = w / 2 * 2 + 1

-- the invalid bit is set; the generation and the fired bit stay
abbrev pub invalid_of : ℕ → ℕ
invalid_of w = w / 4 * 4 + 2 + w % 2

-- reset: up by 4, wrapping at 32 bits, then both low bits are cleared
abbrev pub reset_of : ℕ → ℕ
reset_of w = (w + 4) % 2 ^ 32 / 4 * 4

-- the word is exactly the generation times four
abbrev pub matches_in : ℕ → ℕ → Bool
matches_in w g = w == g * 4

-- poll: 1 fired if bit 0, else 2 gone if bit 1, else 0 pending
abbrev pub poll_of : ℕ → Answer ℕ
poll_of w = accepted (cond (fired_in w) 1 (cond (invalid_in w) 2 0))

-- the number of each case of a poll
abbrev pub said : Polled → Answer ℕ
said Pending = accepted 0
said Fired = accepted 1
said Gone = accepted 2
