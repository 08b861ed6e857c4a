-- The turn of the set that was read, its reports put as words, and its set written back. A turn that reports has a list as long as
-- there are timers, so the report bytes have room for all its words.
-- Assumes nothing.
use mathlib.Core.Path.{◌≡◌, sym, ap, ◌∙◌}
use Prim.Native.Nat.{ℕ}
use native.Mathlib.Omega.{arith}
use borrow.Author.Rules.{rules}
use lib.ListN.{take, replicate, length-take}
use Rattle.std.specs.Prelude.{Result, Ok, Err}
use Rattle.refusals.specs.declared.Refusal.{Refusal}
use Rattle.digits.specs.Rows.{blocks}
use Rattle.heap.specs.Capacity.{cap}
use Rattle.timers.specs.declared.Reply.{Reply}
use Rattle.timers.specs.declared.Reply.TheVariants as R
use Rattle.timers.specs.Values.{reports_in}
use Rattle.timers.specs.Calls.{said}
use Rattle.host.specs.Numbers.{reported_in, word_bytes}
use Rattle.host.specs.Seen.{count_or}
use Rattle.host.proofs.Calling.{bytes}
use Rattle.host.proofs.Settled.{not_ran}
use Rattle.host.proofs.Turning.{kept_all, ran_list, turned}
use Rattle.host.proofs.turn.Goals as goal
use Rattle.host.proofs.turn.Goals.{in_default-via-in-Ok+in-Added-1, in_default-via-in-Err-1}

pub returns-in_err-found-clause-board : goal.returns-in_err-found-clause-board
returns-in_err-found-clause-board c =
    let a = c.args in
    let w = c.in_err-found.field-0.0 in
    let q : c.from_residual.result ≡ Err w = search rules in
    kept_all a.image.now a.reading a.reports.now c.read-found.result c.read-found.ensures w c.in_err-found.was q

pub returns-in_default-clause-board : goal.returns-in_default-clause-board
unfolding word_bytes blocks
returns-in_default-clause-board c =
    let a = c.args in
    let r = c.turn-a.result.answer in
    let z : (n p : ℕ) → r ≡ Ok (R.Ran n p) → ⊥ =
    λ n p e. elim c.in_default.branch [ in_default-via-in-Ok+in-Added-1 w ↦ search rules | in_default-via-in-Err-1 w ↦ search rules ]
    in
    (turned a.image.now a.reading a.reports.now c.read-found.result c.read-found.ensures (bytes (λ j. search rules)) c.in_ok-found.was c.turn-a.result _ _
    c.turn-a.ensures c.ended.result (ap (λ (n : ℕ). take n (replicate cap 0)) c.min-room.ensures) c.ended.ensures
    (ap (λ (n : ℕ). reported_in a.reports.now n c.turn-a.new.list) (not_ran r 0 z).1)).1

pub slice_bounds-put_words-end : goal.slice_bounds-put_words-end
slice_bounds-put_words-end c =
    let a = c.args in
    let z : c.turn-a.result.answer ≡ Ok (R.Ran c.in-Ok-Ran.n c.in-Ok-Ran.field-0-1) = search rules in
    let w = ran_list a.image.now a.reading a.reports.now c.read-found.result c.read-found.ensures (bytes (λ j. search rules)) c.in_ok-found.was c.turn-a.result _ _
    c.turn-a.ensures c.in-Ok-Ran.n c.in-Ok-Ran.field-0-1 z
    in
    omega (arith, w.within, w.long, length-take {A = ℕ})

pub returns-clause-board : goal.returns-clause-board
unfolding word_bytes
returns-clause-board c =
    let a = c.args in
    let z : c.turn-a.result.answer ≡ Ok (R.Ran c.in-Ok-Ran.n c.in-Ok-Ran.field-0-1) = search rules in
    (turned a.image.now a.reading a.reports.now c.read-found.result c.read-found.ensures (bytes (λ j. search rules)) c.in_ok-found.was c.turn-a.result _ _
    c.turn-a.ensures c.ended-2.result (ap (λ (n : ℕ). take n (replicate cap 0)) c.min-room.ensures) c.ended-2.ensures
    (c.put_words.ensures ∙ ap (λ (x : Result Reply Refusal). reported_in a.reports.now (reports_in (said x)) c.turn-a.new.list) (sym z))).1

pub returns-clause-reported : goal.returns-clause-reported
unfolding word_bytes
returns-clause-reported c =
    let a = c.args in
    let n = a.reported.now in
    let z : c.turn-a.result.answer ≡ Ok (R.Ran c.in-Ok-Ran.n c.in-Ok-Ran.field-0-1) = search rules in
    let e = (turned a.image.now a.reading a.reports.now c.read-found.result c.read-found.ensures (bytes (λ j. search rules)) c.in_ok-found.was c.turn-a.result _ _
    c.turn-a.ensures c.ended-2.result (ap (λ (n : ℕ). take n (replicate cap 0)) c.min-room.ensures) c.ended-2.ensures
    (c.put_words.ensures ∙ ap (λ (x : Result Reply Refusal). reported_in a.reports.now (reports_in (said x)) c.turn-a.new.list) (sym z))).0
    in
    ap (λ (x : Result Reply Refusal). count_or n (said x)) (sym z) ∙ ap (count_or n) (sym e)
