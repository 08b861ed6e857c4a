-- No function has a second answer: its promise is one equation for each thing that it leaves or answers.
-- Assumes nothing.
use mathlib.Core.Path.{◌≡◌, sym, ◌∙◌}
use mathlib.Core.List.{List}
use Prim.Native.Nat.{ℕ}
use Rattle.std.specs.Prelude.{Option, Result, ⊤}
use Rattle.theory.specs.Promise.{NoSecond}
use Rattle.heap.specs.declared.Entry.{Entry}
use Rattle.heap.specs.declared.SlabSlot.{SlabSlot}
use Rattle.state.specs.declared.Timer.{Timer}
use Rattle.digits.proofs.NoSecond.{puts_no_second}
use Rattle.cells.specs.declared.Header.{Header}
use Rattle.cells.specs.Cells.{header_bytes, entry_bytes, slot_bytes, timer_bytes}
use Rattle.cells.specs.Promises.{PutsHeader, PutsEntry, PutsSlot, PutsTimer, FindsHeader, FindsEntry, FindsSlot, FindsTimer, FindsAnyEntry, FindsAnySlot, FindsAnyTimer}

pub put_header_no_second : NoSecond (λ (q : Header × List ℕ × ℕ) (r : List ℕ × ℕ). PutsHeader q.0 q.1 q.2 r.0 r.1)
put_header_no_second q = puts_no_second (9, q.1, q.2, header_bytes q.0)

pub put_entry_no_second : NoSecond (λ (q : Entry × List ℕ × ℕ) (r : List ℕ × ℕ). PutsEntry q.0 q.1 q.2 r.0 r.1)
put_entry_no_second q = puts_no_second (14, q.1, q.2, entry_bytes q.0)

pub put_slot_no_second : NoSecond (λ (q : SlabSlot × List ℕ × ℕ) (r : List ℕ × ℕ). PutsSlot q.0 q.1 q.2 r.0 r.1)
put_slot_no_second q = puts_no_second (2, q.1, q.2, slot_bytes q.0)

pub put_timer_no_second : NoSecond (λ (q : Timer × List ℕ × ℕ) (r : List ℕ × ℕ). PutsTimer q.0 q.1 q.2 r.0 r.1)
put_timer_no_second q = puts_no_second (19, q.1, q.2, timer_bytes q.0)

pub header_at_no_second : NoSecond (λ (q : List ℕ × ℕ) (r : Result Header Header). FindsHeader q.0 q.1 r)
header_at_no_second q r s p t = p ∙ sym t

pub entry_at_no_second : NoSecond (λ (q : List ℕ × ℕ) (r : Option Entry). FindsEntry q.0 q.1 r)
entry_at_no_second q r s p t = p ∙ sym t

pub entry_any_no_second : NoSecond (λ (q : List ℕ × ℕ) (r : Result Entry Entry). FindsAnyEntry q.0 q.1 r)
entry_any_no_second q r s p t = p ∙ sym t

pub slot_at_no_second : NoSecond (λ (q : List ℕ × ℕ) (r : Option SlabSlot). FindsSlot q.0 q.1 r)
slot_at_no_second q r s p t = p ∙ sym t

pub slot_any_no_second : NoSecond (λ (q : List ℕ × ℕ) (r : Result SlabSlot SlabSlot). FindsAnySlot q.0 q.1 r)
slot_any_no_second q r s p t = p ∙ sym t

pub timer_at_no_second : NoSecond (λ (q : List ℕ × ℕ) (r : Option Timer). FindsTimer q.0 q.1 r)
timer_at_no_second q r s p t = p ∙ sym t

pub timer_any_no_second : NoSecond (λ (q : List ℕ × ℕ) (r : Result Timer Timer). FindsAnyTimer q.0 q.1 r)
timer_any_no_second q r s p t = p ∙ sym t

-- a record of room that is not in use is the one that its kind names
pub unused_no_second : {A : Type 0} (blank : A) → NoSecond (λ (q : ⊤) (r : A). r ≡ blank)
unused_no_second blank q r s p t = p ∙ sym t
