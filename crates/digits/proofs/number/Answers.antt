-- Each turn takes one byte more.
-- Assumes nothing.
use mathlib.Core.Path.{◌≡◌, ap, sym, ◌∙◌}
use mathlib.Core.List.{List}
use Prim.Native.Nat.{ℕ, ◌+◌, ◌-◌, ◌*◌, ◌^◌, ◌<◌, ◌≤◌}
use native.Mathlib.Nat.{pow-le-pow_right, pow-suc}
use native.Mathlib.Numerals.{add-one}
use native.Mathlib.Omega.{arith}
use lib.ListN.{get_or, take, drop}
use Rattle.std.proofs.lemmas.List.{get_or-drop, get_or-take}
use Rattle.digits.specs.Digits.{value_at}
use Rattle.digits.proofs.number.Invariants.{Going}
use Rattle.digits.proofs.number.Goals as goal

-- there is room for one byte more
room : (n i k : ℕ) → n < 256 ^ i → i < k → k ≤ 8 → n < 2 ^ 56
room n i k h p q =
    let g : i ≤ 7 = omega arith in
    let e : 256 ^ i ≤ 256 ^ 7 = pow-le-pow_right (omega arith) g in
    omega (arith, e)

-- one byte more
more : {l : List ℕ} {at n i b : ℕ} → Going l at n i → b ≡ get_or l (at + i) 0 → get_or l (at + i) 0 < 256 → Going l at (n * 256 + b) (i + 1)
more {l} {at} {n} {i} {b} v e h = record {
  value = (λ k. v.value k * 256 + e k) ∙ ap (λ (m : ℕ). value_at m l at) (sym (add-one i));
  small = rw (add-one, pow-suc) (omega (arith, v.small));
}

-- the byte that a turn takes, by its place in the whole
byte_at : (l : List ℕ) (at k i : ℕ) → i < k → get_or (take (at + k - at) (drop at l)) i 0 ≡ get_or l (at + i) 0
byte_at l at k i h = get_or-take (at + k - at) (drop at l) i 0 (omega arith) ∙ get_or-drop at l i 0

pub overflow_mul-n : goal.overflow_mul-n
overflow_mul-n c =
    let l = c.loop-byte in
    let r = room l.n l.byte-index c.args.k l.invariant.small (omega arith) c.requires.k_bound in
    omega arith

pub overflow_add-n : goal.overflow_add-n
overflow_add-n c =
    let l = c.loop-byte in
    let r = room l.n l.byte-index c.args.k l.invariant.small (omega arith) c.requires.k_bound in
    let b = byte_at c.args.bytes.now c.args.at c.args.k l.byte-index (omega arith) in
    omega (arith, c.from.ensures, b, c.type_inv.bytes (c.args.at + l.byte-index))

pub loop-byte-preserved : goal.loop-byte-preserved
loop-byte-preserved c =
    let l = c.loop-byte in
    let b = byte_at c.args.bytes.now c.args.at c.args.k l.byte-index (omega arith) in
    more l.invariant (c.from.ensures ∙ b) (omega (arith, c.type_inv.bytes (c.args.at + l.byte-index)))
