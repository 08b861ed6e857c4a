-- A record is refused exactly where the one row says so that it has.
-- Assumes nothing.
use mathlib.Core.Path.{◌≡◌, refl, ap}
use mathlib.Core.Bool.{Bool, true, false, not, cond, ◌&&◌, ◌||◌}
use mathlib.Core.Option.{none, some}
use mathlib.Core.List.{List}
use Prim.Native.Nat.{ℕ, zero, suc}
use native.Mathlib.Omega.{arith}
use lib.Dec.{eqb}
use borrow.Author.Tests.{le-leb}
use Rattle.timers.specs.declared.Call.{Call}
use Rattle.records.specs.Records.{provided, call_of, fields_of, decode_of}
use Rattle.promises.specs.Conditions.{bad}
use Rattle.promises.specs.Table.{refusal_in}

-- 12: a call is made where the test is true
made_row : (b : Bool) (c : Call) {t : Bool} → not b ≡ t → refusal_in (provided b c) ≡ cond t (some 12) none
unfolding provided
made_row true c e = ap (λ (t : Bool). cond t (some 12) none) e
made_row false c e = ap (λ (t : Bool). cond t (some 12) none) e

-- the test that place and use are zero, and the test that all three fields are, in the words of the row
no_handle_lem : (p u : Bool) → not (p && u) ≡ (not p || (not u || false))
no_handle_lem true true = refl
no_handle_lem true false = refl
no_handle_lem false u = refl

bare_row : (p u v : Bool) → not ((p && u) && v) ≡ (not p || (not u || not v))
bare_row true true v = refl
bare_row true false v = refl
bare_row false u v = refl

-- 12: operation by operation
fields_row : (o p u v : ℕ)
    → refusal_in (call_of (record { operation = o; place = record { 0 = p }; uses = u; value = v }))
    ≡ cond (bad (record { operation = o; place = record { 0 = p }; uses = u; value = v })) (some 12) none
unfolding call_of
fields_row zero p u v = made_row _ _ (no_handle_lem (eqb p 0) (eqb u 0))
fields_row (suc zero) p u v = made_row _ _ refl
fields_row (suc (suc zero)) p u v = made_row _ _ refl
fields_row (suc (suc (suc zero))) p u v = made_row _ _ (bare_row (eqb p 0) (eqb u 0) (eqb v 0))
fields_row (suc (suc (suc (suc zero)))) p u v = made_row _ _ (no_handle_lem (eqb p 0) (eqb u 0))
fields_row (suc (suc (suc (suc (suc zero))))) p u v = made_row _ _ (no_handle_lem (eqb p 0) (eqb u 0))
fields_row (suc (suc (suc (suc (suc (suc zero)))))) p u v = made_row _ _ (bare_row (eqb p 0) (eqb u 0) (eqb v 0))
fields_row (suc (suc (suc (suc (suc (suc (suc zero))))))) p u v = made_row _ _ refl
fields_row (suc (suc (suc (suc (suc (suc (suc (suc zero)))))))) p u v = made_row _ _ (bare_row (eqb p 0) (eqb u 0) (eqb v 0))
fields_row (suc (suc (suc (suc (suc (suc (suc (suc (suc n))))))))) p u v = rw (le-leb 9 (suc (suc (suc (suc (suc (suc (suc (suc (suc n))))))))) (omega arith))

pub record_row : (bytes : List ℕ) → refusal_in (decode_of bytes) ≡ cond (bad (fields_of bytes)) (some 12) none
unfolding decode_of
record_row bytes =
    let f = fields_of bytes in
    fields_row f.operation f.place.0 f.uses f.value
