-- The bench sheet: worked rows, each with its number, what is asked and what the answer must be. A row is right where the rules
-- compute that answer. Times are in nanoseconds.
-- Assumes nothing.
use Rattle.std.specs.Prelude.{Bool, true, false, cond, ◌&&◌, List, [], ◌∷◌, ◌++◌, ℕ, ◌+◌, ◌*◌, eqb, replicate}
use Rattle.heap.specs.Capacity.{cap}
use Rattle.std.proofs.Math.Option.{none, some}
use Rattle.refusals.specs.Faults.{kind_of, where_of}
use Rattle.refusals.specs.Answer.{Answer, accepted, refused, Outcome, unsound}
use Rattle.heap.specs.declared.Entry.{Entry}
use Rattle.heap.specs.declared.Slot.{Slot}
use Rattle.heap.specs.declared.Heap.{Heap}
use Rattle.heap.specs.Rules.{items}
use Rattle.heap.specs.Calls.{Off, fresh_of, push_of, remove_of, pop_of}
use Rattle.word.specs.Rules.{reset_of}
use Rattle.state.specs.declared.Handle.{Handle}
use Rattle.state.specs.declared.Set.{Set}
use Rattle.state.specs.State as State
use Rattle.timers.specs.declared.Call.{Call}
use Rattle.timers.specs.declared.Call.TheVariants as C
use Rattle.timers.specs.Calls.{Value, nothing, handle, counts, wake, polled, time, Lent, lent}
use Rattle.interval.specs.declared.Policy.{Policy}
use Rattle.interval.specs.declared.Policy.TheVariants.{Burst, Delay, Skip}
use Rattle.interval.specs.Rules.{tick_of}

-- milliseconds
abbrev pub ms : ℕ → ℕ
ms n = n * 1000000

-- a call on a heap
pub data HeapCall : Type 0 where
  -- an entry with this deadline is pushed
  push : ℕ → HeapCall
  -- the entry of this slot is removed
  remove : ℕ → HeapCall
  pop : HeapCall

-- an entry by its deadline and its slot
pub record Stands : Type 0 where
  pub deadline : ℕ
  pub slot : ℕ

infixl 70 ◌at_slot◌
infixl 70 ◌with_use◌
abbrev pub ◌at_slot◌ : ℕ → ℕ → Stands
d at_slot s = record { deadline = d; slot = s }

-- what a row asks, with the answer that it must get
pub data Case : Type 0 where
  -- a reset of this word gives that one
  word : ℕ → ℕ → Case
  -- a tick under the policy, of a timer due at T with this period, at the reading N, sets this deadline
  tick : Policy → (T period N deadline : ℕ) → Case
  -- these calls on a fresh heap leave these entries, by position; the pushes got these slots, and the last call made these swaps
  heap : List HeapCall → List Stands → List ℕ → ℕ → Case
  -- these calls on a fresh set of timers, with a long enough list lent, answer this
  set : List Call → List (Answer Value) → Case

pub record Row : Type 0 where
  pub number : ℕ
  pub asked : Case

abbrev pub row : ℕ → Case → Row
row n c = record { number = n; asked = c }

-- an accepted time, and this one
abbrev pub answers : Answer ℕ → ℕ → Bool
answers (accepted t) u = eqb t u
answers (refused n) u = false
answers (unsound f) u = false

-- a heap in the middle of a row: the slots that pushes got so far, and the swaps of the last call
pub record Run : Type 0 where
  pub heap : Heap
  pub slots : List ℕ
  pub swaps : ℕ

abbrev pub pushed : Run → Outcome Heap (Slot × ℕ) → Answer (Slot × ℕ) → Run
pushed r o (accepted v) = record { heap = o.state; slots = r.slots ++ (v.0.0 ∷ []); swaps = v.1 }
pushed r o (refused n) = r
pushed r o (unsound f) = r

abbrev pub removed : Run → Outcome Heap Off → Answer Off → Run
removed r o (accepted (some v)) = record { heap = o.state; slots = r.slots; swaps = v.1 }
removed r o (accepted none) = r
removed r o (refused n) = r
removed r o (unsound f) = r

abbrev pub made : Run → HeapCall → Run
made r (push d) = let o = push_of r.heap d 0 (record { 0 = 0 }) in pushed r o o.answer
made r (remove s) = let o = remove_of r.heap (record { 0 = s }) in removed r o o.answer
made r pop = let o = pop_of r.heap in removed r o o.answer

abbrev pub made_all : Run → List HeapCall → Run
made_all r [] = r
made_all r (c ∷ cs) = made_all (made r c) cs

abbrev pub same_numbers : List ℕ → List ℕ → Bool
same_numbers [] [] = true
same_numbers [] (y ∷ ys) = false
same_numbers (x ∷ xs) [] = false
same_numbers (x ∷ xs) (y ∷ ys) = eqb x y && same_numbers xs ys

abbrev pub standing : List Entry → List Stands → Bool
standing [] [] = true
standing [] (y ∷ ys) = false
standing (x ∷ xs) [] = false
standing (x ∷ xs) (y ∷ ys) = eqb x.at y.deadline && (eqb x.slot.0 y.slot && standing xs ys)

abbrev pub ran_right : Run → List Stands → List ℕ → ℕ → Bool
ran_right r es ss n = standing (items r.heap) es && (same_numbers r.slots ss && eqb r.swaps n)

-- an answer as numbers, to compare it by: its kind, then its values
abbrev pub value_code : Value → List ℕ
value_code nothing = 0 ∷ []
value_code (handle h) = 1 ∷ h.place.0 ∷ h.uses ∷ []
value_code (counts reported popped) = 2 ∷ reported ∷ popped ∷ []
value_code (wake none) = 3 ∷ []
value_code (wake (some t)) = 4 ∷ t ∷ []
value_code (polled n) = 5 ∷ n ∷ []
value_code (time t) = 6 ∷ t ∷ []

abbrev pub code : Answer Value → List ℕ
code (accepted v) = value_code v
code (refused n) = 7 ∷ n ∷ []
code (unsound f) = 8 ∷ kind_of f ∷ where_of f ∷ []

-- a way to make a call; that of the rules is `step`
abbrev pub Way : Type 0
Way = Set → Call → List ℕ → Outcome Lent Value

-- whether the calls, made in this way, answer so, one after the other
abbrev pub answered : Way → Lent → List Call → List (Answer Value) → Bool
answered way s [] [] = true
answered way s [] (a ∷ rest) = false
answered way s (c ∷ cs) [] = false
answered way s (c ∷ cs) (a ∷ rest) =
    let o = way s.set c s.list in same_numbers (code o.answer) (code a) && answered way o.state cs rest

-- a timer's handle
abbrev pub ◌with_use◌ : ℕ → ℕ → Handle
p with_use u = record { place = record { 0 = p }; uses = u }

abbrev pub right : Way → Case → Bool
right way (word w v) = eqb (reset_of w) v
right way (tick p T period N d) = answers (tick_of p T period N) d
right way (set cs answers) = answered way (lent State.fresh_of (replicate cap 0)) cs answers
right way (heap cs es ss n) = ran_right (made_all (record { heap = fresh_of; slots = []; swaps = 0 }) cs) es ss n

-- the numbers of the rows that are wrong
abbrev pub wrong : Way → List Row → List ℕ
wrong way [] = []
wrong way (r ∷ rs) = cond (right way r.asked) (wrong way rs) (r.number ∷ wrong way rs)

abbrev pub rows : List Row
rows =
    row 1 (word 0 4)
    ∷ row 2 (word 5 8)
    ∷ row 3 (word 4294967293 0)
    ∷ row 4 (tick Burst (ms 1000) (ms 100) (ms 1005) (ms 1100))
    ∷ row 4 (tick Delay (ms 1000) (ms 100) (ms 1005) (ms 1100))
    ∷ row 4 (tick Skip (ms 1000) (ms 100) (ms 1005) (ms 1100))
    ∷ row 5 (tick Burst (ms 1000) (ms 100) (ms 1005 + 1) (ms 1100))
    ∷ row 5 (tick Delay (ms 1000) (ms 100) (ms 1005 + 1) (ms 1105 + 1))
    ∷ row 5 (tick Skip (ms 1000) (ms 100) (ms 1005 + 1) (ms 1100))
    ∷ row 6 (tick Burst (ms 1000) (ms 100) (ms 1250) (ms 1100))
    ∷ row 6 (tick Delay (ms 1000) (ms 100) (ms 1250) (ms 1350))
    ∷ row 6 (tick Skip (ms 1000) (ms 100) (ms 1250) (ms 1300))
    ∷ row 7 (tick Skip (ms 1000) (ms 100) (ms 1200) (ms 1300))
    ∷ row 8
    (heap (push 1 ∷ push 10 ∷ push 2 ∷ push 11 ∷ push 12 ∷ push 3 ∷ [])
    (1 at_slot 0 ∷ 10 at_slot 1 ∷ 2 at_slot 2 ∷ 11 at_slot 3 ∷ 12 at_slot 4 ∷ 3 at_slot 5 ∷ [])
    (0 ∷ 1 ∷ 2 ∷ 3 ∷ 4 ∷ 5 ∷ []) 0)
    ∷ row 8
    (heap (push 1 ∷ push 10 ∷ push 2 ∷ push 11 ∷ push 12 ∷ push 3 ∷ remove 3 ∷ [])
    (1 at_slot 0 ∷ 3 at_slot 5 ∷ 2 at_slot 2 ∷ 10 at_slot 1 ∷ 12 at_slot 4 ∷ [])
    (0 ∷ 1 ∷ 2 ∷ 3 ∷ 4 ∷ 5 ∷ []) 1)
    ∷ row 9
    (heap (push 1 ∷ push 5 ∷ push 5 ∷ push 9 ∷ pop ∷ []) (5 at_slot 1 ∷ 9 at_slot 3 ∷ 5 at_slot 2 ∷ []) (0 ∷ 1 ∷ 2 ∷ 3 ∷ []) 1)
    ∷ row 10
    (heap (push 1 ∷ push 2 ∷ push 3 ∷ remove 1 ∷ remove 2 ∷ remove 0 ∷ push 4 ∷ push 5 ∷ push 6 ∷ push 7 ∷ [])
    (4 at_slot 0 ∷ 5 at_slot 2 ∷ 6 at_slot 1 ∷ 7 at_slot 3 ∷ [])
    (0 ∷ 1 ∷ 2 ∷ 0 ∷ 2 ∷ 1 ∷ 3 ∷ []) 0)
    ∷ row 11
    (set (C.Add 10 ∷ C.Drain ∷ C.Reset (0 with_use 0) 20 ∷ C.Advance 10 ∷ C.Drain ∷ C.NextWake ∷ [])
    (accepted (handle (0 with_use 0)) ∷ accepted nothing ∷ accepted nothing ∷ accepted (counts 0 1) ∷ accepted nothing
    ∷ accepted (wake (some 20)) ∷ []))
    ∷ []
