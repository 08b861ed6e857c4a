-- A handle as the word that stands for it in a report list, the way back from a word to the handle that it names, and how handles are
-- told apart.
-- Assumes nothing.
use Rattle.std.specs.Prelude.{◌≡◌, cond, ℕ, ◌+◌, ◌*◌, ◌/◌, ◌%◌, ◌^◌, eqb, None, Some}
use Rattle.std.specs.Prelude as Code
use Rattle.std.proofs.Common.{ap}
use Rattle.std.proofs.Math.Option.{Option, none, some}
use Rattle.std.proofs.Math.Decide.{ℕ_discrete}
use Rattle.state.specs.declared.Handle.{Handle}

-- a handle as one word: use number 32 bits, 16 zero bits, place 16, most significant first
abbrev pub handle_word : Handle → ℕ
handle_word h = h.uses * 2 ^ 32 + h.place.0

-- the handle that a word names: the use number is its upper 32 bits and the place its lower 16; none where the 16 bits between them are
-- not zero
abbrev pub named_by : ℕ → Option Handle
named_by w = cond (eqb (w / 2 ^ 16 % 2 ^ 16) 0) (some (record { place = record { 0 = w % 2 ^ 16 }; uses = w / 2 ^ 32 })) none

-- what the code says of a word
abbrev pub said_named : Code.Option Handle → Option Handle
said_named None = none
said_named (Some h) = some h

both : (h k : Handle) → Dec (h.place.0 ≡ k.place.0) → Dec (h.uses ≡ k.uses) → Dec (h ≡ k)
both h k (yes p) (yes u) = yes (λ i. record { place = record { 0 = p i }; uses = u i })
both h k (yes p) (no n) = no (λ e. n (ap (λ (x : Handle). x.uses) e))
both h k (no n) u = no (λ e. n (ap (λ (x : Handle). x.place.0) e))

-- whether two handles are one
unfoldable pub handle_discrete : Discrete Handle
unfolding both
handle_discrete h k = both h k (ℕ_discrete h.place.0 k.place.0) (ℕ_discrete h.uses k.uses)
