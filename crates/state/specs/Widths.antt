-- THE WIDTHS OF A SET'S NUMBERS: the numbers that soundness leaves free have the widths of the code's types. The fresh set has them
-- (proofs/Widths.antt), and every call keeps them (`laws`, proofs/Widths.antt). Room that is not in use has no part in it.
-- Assumes nothing.
use Rattle.std.specs.Prelude.{ℕ, ◌<◌, ◌^◌}
use Rattle.heap.specs.Capacity.{cap}
use Rattle.heap.specs.Rules.{entry_at}
use Rattle.state.specs.declared.Life.{Life}
use Rattle.state.specs.declared.Life.TheVariants.{Free, Live, Cancelled, Retired}
use Rattle.state.specs.declared.Timer.{Timer}
use Rattle.state.specs.declared.Set.{Set}
use Rattle.state.specs.State.{timer_at}

-- by whose place it is: a word has 32 bits, and a deadline 64
abbrev pub LifeWidths : Life → Type 0
LifeWidths Free = Unit {0}
LifeWidths (Live w d) = (w < 2 ^ 32) × (d < 2 ^ 64)
LifeWidths (Cancelled w) = w < 2 ^ 32
LifeWidths Retired = Unit {0}

-- and a use number 32
pub record TimerWidths (t : Timer) : Type 0 where
  pub uses_in : t.uses < 2 ^ 32
  pub life_in : LifeWidths t.life

-- the deadlines of the entries in use have 64 bits, and each timer has its widths
pub record Widths (s : Set) : Type 0 where
  pub entries_in_range : (i : ℕ) → i < s.heap.len → (entry_at s.heap i).at < 2 ^ 64
  pub timers_in : (p : ℕ) → p < cap → TimerWidths (timer_at s p)
