-- A difference of two times by cases: at or past the second time it is a number, before it one below zero; and when it fits.
-- Assumes nothing.
use mathlib.Core.Path.{◌≡◌, refl, sym, ap, ◌∙◌}
use Prim.Native.Nat.{ℕ, zero, suc, ◌+◌, ◌-◌, ◌≤◌, ◌<◌, ◌^◌}
use native.Mathlib.Omega.{arith}
use lib.Dec.{ltb, leb}
use lib.IntN.{pos, negsuc, ◌-ℤ◌}
use lib.Signed.{le_z, lt_z}
use borrow.Author.Tests.{lt-ltb, le-ltb, le-leb, lt-leb}
use Rattle.theory.proofs.Tests.{ref_lt, ref_le, true_ref, false_ref, by-ref}
use Rattle.refusals.specs.declared.Refusal.TheVariants.{TimeOverflow}
use Rattle.refusals.specs.Answer.{accepted, refuse}
use Rattle.refusals.specs.Times.{signed}

-- at or past the second time
pub minus_above : (a b : ℕ) → b ≤ a → pos a -ℤ pos b ≡ pos (a - b)
minus_above a zero h = let e : a + 0 ≡ a - 0 = omega arith in ap pos e
minus_above a (suc b) h = rw (le-ltb a (suc b) h)

-- before it
pub minus_below : (a b : ℕ) → a < b → pos a -ℤ pos b ≡ negsuc (b - a - 1)
minus_below a zero h = absurd (omega arith)
minus_below a (suc b) h = rw (lt-ltb a (suc b) h) (let e : suc b - suc a ≡ suc b - a - 1 = omega arith in ap negsuc e)

-- what fits, and what does not, on either side of zero
pub above_fits : (n : ℕ) → n < 2 ^ 63 → signed (pos n) ≡ accepted (pos n)
above_fits n h = rw (lt-ltb n (2 ^ 63) h) refl

pub above_unfit : (n : ℕ) → 2 ^ 63 ≤ n → signed (pos n) ≡ refuse TimeOverflow
above_unfit n h = rw (le-ltb n (2 ^ 63) h) refl

pub below_fits : (n : ℕ) → n < 2 ^ 63 → signed (negsuc n) ≡ accepted (negsuc n)
below_fits n h = rw (le-leb n (2 ^ 63 - 1) (omega arith)) refl

pub below_unfit : (n : ℕ) → 2 ^ 63 ≤ n → signed (negsuc n) ≡ refuse TimeOverflow
below_unfit n h = rw (lt-leb n (2 ^ 63 - 1) (omega arith)) refl

-- one below zero, less a number
pub minus_one : (n : ℕ) → negsuc 0 -ℤ pos n ≡ negsuc n
minus_one zero = refl
minus_one (suc n) = let e : suc (0 + n) ≡ suc n = omega arith in ap negsuc e

-- two tests of order that say the same
same_test : (a b c d : ℕ) → (a < b → c < d) → (c < d → a < b) → ltb a b ≡ ltb c d
same_test a b c d f g =
    by-ref (ref_lt a b) (λ l. true_ref (ref_lt a b) l ∙ sym (true_ref (ref_lt c d) (f l)))
    (λ n. false_ref (ref_lt a b) n ∙ sym (false_ref (ref_lt c d) (λ l. n (g l))))

-- the earlier of two times has the lesser difference to any third
pub minus_order : (n a b : ℕ) → lt_z (pos a -ℤ pos n) (pos b -ℤ pos n) ≡ ltb a b
minus_order n a b =
    by-ref (ref_le n a)
    (λ p. by-ref (ref_le n b)
    (λ q. rw (minus_above a n p, minus_above b n q) (same_test (a - n) (b - n) a b (λ l. omega arith) (λ l. omega arith)))
    (λ q. rw (minus_above a n p, minus_below b n (omega arith)) (sym (false_ref (ref_lt a b) (λ l. omega arith)))))
    (λ p. by-ref (ref_le n b)
    (λ q. rw (minus_below a n (omega arith), minus_above b n q) (sym (true_ref (ref_lt a b) (omega arith))))
    (λ q. rw (minus_below a n (omega arith), minus_below b n (omega arith))
    (same_test (n - b - 1) (n - a - 1) a b (λ l. omega arith) (λ l. omega arith))))

-- the difference is zero or less exactly where the first time is not past the second
pub minus_over : (n a : ℕ) → le_z (pos a -ℤ pos n) (pos 0) ≡ leb a n
minus_over n a =
    by-ref (ref_le n a)
    (λ p. rw (minus_above a n p)
    (by-ref (ref_le a n) (λ q. true_ref (ref_le (a - n) 0) (omega arith) ∙ sym (true_ref (ref_le a n) q))
    (λ q. false_ref (ref_le (a - n) 0) (λ z. omega arith) ∙ sym (false_ref (ref_le a n) q))))
    (λ p. rw (minus_below a n (omega arith)) (sym (true_ref (ref_le a n) (omega arith))))
