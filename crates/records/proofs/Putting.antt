-- Texts put one behind the other are one text put.
-- Assumes nothing.
use mathlib.Core.Path.{◌≡◌, refl, sym, ap, subst, ◌∙◌}
use mathlib.Core.List.{List, [], ◌∷◌, ◌++◌}
use Prim.Native.Nat.{ℕ, suc, ◌+◌, ◌≤◌}
use native.Mathlib.Nat.{le_trans, add-zero, add-suc, suc-add, zero-add}
use native.Mathlib.Omega.{arith}
use lib.ListN.{length, set, drop, length-append}
use lib.Seq.{sets, sets-eq}
use Rattle.records.specs.declared.text.Pen.{Pen}
use Rattle.records.specs.Lines.{written_of}
use Rattle.records.specs.Puts.{Puts}

sets_append : (l : List ℕ) (i : ℕ) (s t : List ℕ) → sets (sets l i s) (i + length s) t ≡ sets l i (s ++ t)
sets_append l i [] t = rw add-zero
sets_append l i (a ∷ s) t =
    ap (λ (k : ℕ). sets (sets (set l i a) (suc i) s) k t) (add-suc i (length s) ∙ sym (suc-add i (length s))) ∙ sets_append (set l i a) (suc i) s t

module _ {p : Pen} where
  -- nothing put
  pub puts_none : Puts 0 p [] p
  puts_none = record { written = refl; next = sym (add-zero p.at); short = omega arith; lent = refl; long = refl }

  -- one text and then another
  pub puts_then : {k j : ℕ} {s t : List ℕ} {q r : Pen} → Puts k p s q → Puts j q t r → Puts (k + j) p (s ++ t) r
  puts_then {k} {j} {s} {t} {q} {r} a b = record {
    written =
        b.written ∙ ap (λ (l : List ℕ). sets l q.at t) a.written ∙ ap (λ (n : ℕ). sets (sets p.out.now p.at s) n t) a.next
        ∙ sets_append p.out.now p.at s t;
    next = rw length-append (omega (arith, a.next, b.next));
    short = rw length-append (omega (arith, a.short, b.short));
    lent = b.lent ∙ a.lent;
    long = b.long ∙ a.long;
  }

  -- the same text, and a bound on it
  pub puts_as : {k k' : ℕ} {t t' : List ℕ} {q : Pen} → t ≡ t' → length t' ≤ k' → Puts k p t q → Puts k' p t' q
  puts_as {k} {k'} {t} {t'} {q} e h a =
      subst (λ (x : List ℕ). length x ≤ k' → Puts k' p x q) e (λ g. record { written = a.written; next = a.next; short = g; lent = a.lent; long = a.long }) h

  -- the same text, and a bound that is no lower
  pub puts_same : {k k' : ℕ} {t t' : List ℕ} {q : Pen} → Puts k p t q → t ≡ t' → k ≤ k' → Puts k' p t' q
  puts_same a e h = puts_as e (rw e at (le_trans a.short h)) a

  module _ {k : ℕ} {t : List ℕ} {q : Pen} (a : Puts k p t q) where
    -- no more bytes are put than there are
    pub puts_within : p.at + k ≤ length p.out.now → q.at ≤ length q.out.now
    puts_within h = omega (arith, a.next, a.short, a.long)

    -- a text put at the start of bytes that are no fewer stands there, and behind it is what was there
    pub puts_whole : p.at ≡ 0 → k ≤ length p.out.now → record { count = q.at; bytes = q.out.now } ≡ written_of t p.out.now
    unfolding written_of
    puts_whole z h =
        let e : q.out.now ≡ t ++ drop (length t) p.out.now =
        a.written ∙ ap (λ (n : ℕ). sets p.out.now n t) z ∙ sets-eq t p.out.now 0 (omega (arith, a.short))
        ∙ ap (λ (n : ℕ). t ++ drop n p.out.now) (zero-add (length t))
        in
        let f : q.at ≡ length t = omega (arith, a.next, z) in
        λ i. record { count = f i; bytes = e i }
