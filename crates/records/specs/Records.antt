-- How a record of 14 bytes is read: its bits as one number, the fields of that number, and the call that they make.
-- Assumes nothing.
use Rattle.std.specs.Prelude.{Bool, true, false, ◌&&◌, List, [], ◌∷◌, ℕ, zero, suc, ◌+◌, ◌*◌, ◌/◌, ◌%◌, ◌^◌, eqb, get_or, Result}
use Rattle.refusals.specs.declared.Refusal.{Refusal}
use Rattle.refusals.specs.declared.Refusal.TheVariants.{BadRecord}
use Rattle.refusals.specs.Answer.{Answer, accepted, refuse}
use Rattle.refusals.specs.Outcomes.{said_by}
use Rattle.state.specs.declared.Handle.{Handle}
use Rattle.timers.specs.declared.Call.{Call}
use Rattle.timers.specs.declared.Call.TheVariants as C
use Rattle.records.specs.declared.fields.Fields.{Fields}

-- the first k bytes as one number, the most significant first
abbrev pub joined : ℕ → List ℕ → ℕ
joined zero bytes = 0
joined (suc k) bytes = joined k bytes * 256 + get_or bytes k 0

-- a number of 112 bits as its fields, the most significant first: operation 4 bits, place 12, use 32, value 64
abbrev pub split : ℕ → Fields
split n = record { operation = n / 2 ^ 108; place = record { 0 = n / 2 ^ 96 % 2 ^ 12 }; uses = n / 2 ^ 64 % 2 ^ 32; value = n % 2 ^ 64 }

unfoldable pub fields_of : List ℕ → Fields
fields_of bytes = split (joined 14 bytes)

-- the handle that the place and the use name
abbrev pub handle_in : Fields → Handle
handle_in f = record { place = f.place; uses = f.uses }

-- whether place and use are zero, and whether the value is
abbrev pub no_handle : Fields → Bool
no_handle f = eqb f.place.0 0 && eqb f.uses 0

abbrev pub no_value : Fields → Bool
no_value f = eqb f.value 0

abbrev pub bare : Fields → Bool
bare f = no_handle f && no_value f

-- a call, where the fields that it does not use are zero; else the record is refused with 12
unfoldable pub provided : Bool → Call → Answer Call
provided true c = accepted c
provided false c = refuse BadRecord

-- what each operation makes of the fields, the first 0: add, reset, cancel, drain, advance, turn, next wake, poll, close
abbrev pub table : Fields → List (Answer Call)
table f =
    provided (no_handle f) (C.Add f.value)
    ∷ provided true (C.Reset (handle_in f) f.value)
    ∷ provided (no_value f) (C.Cancel (handle_in f))
    ∷ provided (bare f) C.Drain
    ∷ provided (no_handle f) (C.Advance f.value)
    ∷ provided (no_handle f) (C.Turn f.value)
    ∷ provided (bare f) C.NextWake
    ∷ provided (no_value f) (C.Poll (handle_in f))
    ∷ provided (bare f) C.Close
    ∷ []

-- the operation's row of the table; an operation that has none is refused with 12
unfoldable pub call_of : Fields → Answer Call
call_of f = get_or (table f) f.operation (refuse BadRecord)

-- what a record decodes to
unfoldable pub decode_of : List ℕ → Answer Call
decode_of bytes = call_of (fields_of bytes)

-- what the code says of it
abbrev pub said_decoded : Result Call Refusal → Answer Call
said_decoded = said_by (λ (c : Call). c)
