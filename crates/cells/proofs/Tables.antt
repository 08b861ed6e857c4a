-- What the tests of the tables tell, row by row.
-- Assumes nothing.
use mathlib.Core.Path.{◌≡◌}
use mathlib.Core.Bool.{Bool, true, ◌||◌}
use Prim.Native.Nat.{ℕ, ◌/◌, ◌%◌, ◌^◌, ◌<◌, ◌≤◌}
use lib.Dec.{eqb, ltb}
use Rattle.theory.specs.Tests.{Ref}
use Rattle.theory.proofs.Tests.{ref_by, ref_eq, ref_lt, ref_le, ref_and, true_false}
use Rattle.heap.specs.Capacity.{cap}
use Rattle.cells.specs.Fine.{header_spare, header_range, entry_spare, entry_range, slot_spare, slot_range, timer_spare, timer_range}

-- a test tells that it is true
ref_self : (t : Bool) → Ref (t ≡ true) t
ref_self t = ref_by t (λ e. e) (λ e h. true_false h e)

pub header_spare_lem : (m p a b d : ℕ)
    → Ref (((((m / 4 ≡ 0) × ((eqb (m % 2) 1 || eqb p 0) ≡ true)) × (a / 512 ≡ 0)) × (b / 512 ≡ 0)) × (d / 512 ≡ 0)) (header_spare m p a b d)
header_spare_lem m p a b d =
    ref_and (ref_and (ref_and (ref_and (ref_eq (m / 4) 0) (ref_self (eqb (m % 2) 1 || eqb p 0))) (ref_eq (a / 512) 0)) (ref_eq (b / 512) 0))
    (ref_eq (d / 512) 0)

pub header_range_lem : (f p a b d : ℕ)
    → Ref (((((f ≡ 1) × (p < cap)) × (a % 512 ≤ cap)) × (b % 512 ≤ cap)) × (d % 512 ≤ cap)) (header_range f p a b d)
header_range_lem f p a b d =
    ref_and (ref_and (ref_and (ref_and (ref_eq f 1) (ref_lt p cap)) (ref_le (a % 512) cap)) (ref_le (b % 512) cap)) (ref_le (d % 512) cap)

pub entry_spare_lem : (g : ℕ) → Ref (g / 2 ^ 30 ≡ 0) (entry_spare g)
entry_spare_lem g = ref_eq (g / 2 ^ 30) 0

pub entry_range_lem : (p s : ℕ) → Ref ((p < cap) × (s < cap)) (entry_range p s)
entry_range_lem p s = ref_and (ref_lt p cap) (ref_lt s cap)

pub slot_spare_lem : (n : ℕ) → Ref (n / 512 % 64 ≡ 0) (slot_spare n)
slot_spare_lem n = ref_eq (n / 512 % 64) 0

pub slot_range_lem : (n : ℕ) → Ref ((n % 512 ≤ cap) × ((eqb (n / 32768) 0 || ltb (n % 512) cap) ≡ true)) (slot_range n)
slot_range_lem n = ref_and (ref_le (n % 512) cap) (ref_self (eqb (n / 32768) 0 || ltb (n % 512) cap))

pub timer_spare_lem : (t p s w d : ℕ)
    → Ref
    ((((((t / 16 % 4 ≡ 0) × (t % 2 ≡ 0)) × ((eqb (t / 4 % 4) 2 || eqb p 0) ≡ true)) × ((eqb (t / 2 % 2) 1 || eqb s 0) ≡ true))
    × ((eqb (t / 64) 1 || eqb (t / 64) 2 || eqb w 0) ≡ true))
    × ((eqb (t / 64) 1 || eqb d 0) ≡ true))
    (timer_spare t p s w d)
timer_spare_lem t p s w d =
    ref_and
    (ref_and
    (ref_and (ref_and (ref_and (ref_eq (t / 16 % 4) 0) (ref_eq (t % 2) 0)) (ref_self (eqb (t / 4 % 4) 2 || eqb p 0)))
    (ref_self (eqb (t / 2 % 2) 1 || eqb s 0)))
    (ref_self (eqb (t / 64) 1 || eqb (t / 64) 2 || eqb w 0)))
    (ref_self (eqb (t / 64) 1 || eqb d 0))

pub timer_range_lem : (t p s : ℕ) → Ref (((t / 4 % 4 < 3) × (p < cap)) × (s < cap)) (timer_range t p s)
timer_range_lem t p s = ref_and (ref_and (ref_lt (t / 4 % 4) 3) (ref_lt p cap)) (ref_lt s cap)
