-- Each turn puts one word behind those before it.
-- Assumes nothing.
use Rattle.std.proofs.Common.{◌≡◌, ◌∙◌, ℕ, ◌+◌, ◌*◌, ◌<◌, List, [], ◌∷◌, ◌++◌, length, get_or, take, sym, ap, subst, arith, add-one}
use mathlib.Core.List.{append-nil}
use lib.Seq.{take-suc}
use Rattle.digits.specs.Digits.{digits}
use Rattle.digits.specs.Promises.{Puts}
use Rattle.digits.specs.Rows.{blocks}
use Rattle.digits.proofs.Rows.{blocks_append}
use Rattle.digits.proofs.Stores.{puts_none, puts_then, puts_as}
use Rattle.host.proofs.put_words.Goals as goal

-- the bytes of one word more
one_more : (ws : List ℕ) (i : ℕ) → i < length ws → blocks (digits 8) (take i ws) ++ digits 8 (get_or ws i 0) ≡ blocks (digits 8) (take (i + 1) ws)
unfolding blocks
one_more ws i h =
    sym
    (ap (λ (n : ℕ). blocks (digits 8) (take n ws)) (add-one i) ∙ ap (blocks (digits 8)) (take-suc ws i 0 h)
    ∙ blocks_append (digits 8) (take i ws) (get_or ws i 0 ∷ [])
    ∙ ap (λ (t : List ℕ). blocks (digits 8) (take i ws) ++ t) (append-nil (digits 8 (get_or ws i 0))))

pub loop-word-init : goal.loop-word-init
unfolding blocks
loop-word-init c = puts_none

pub loop-word-preserved : goal.loop-word-preserved
loop-word-preserved c =
    let l = c.loop-word in
    let ws = c.args.words.now in
    let i = l.word-index in
    let n : i * 8 + 8 ≡ (i + 1) * 8 = omega arith in
    subst (λ (k : ℕ). Puts k c.args.out.now 0 (blocks (digits 8) (take (i + 1) ws)) c.put-next.new.out c.put-next.result) n
    (puts_as (one_more ws i c.loop-word-test.true) (puts_then l.invariant c.put-next.ensures))
