-- The first fault of a state: its kind, and where it is.
-- Assumes nothing.
use Rattle.std.specs.Prelude.{◌≡◌, ℕ, Result, Ok, Err, ⊤}
use Rattle.std.proofs.Math.Option.{Option, none, some}
use Rattle.refusals.specs.declared.fault.Fault.{Fault}
use Rattle.refusals.specs.declared.fault.Fault.TheVariants.{Count, Position, Order, FreeChain, List, Place}

-- the kinds by number, in the order in which they are tried
abbrev pub kind_of : Fault → ℕ
kind_of Count = 1
kind_of (Position i) = 2
kind_of (Order i) = 3
kind_of (FreeChain k) = 4
kind_of (List k) = 5
kind_of (Place p) = 6

-- where it is: 0 for a count
abbrev pub where_of : Fault → ℕ
where_of Count = 0
where_of (Position i) = i
where_of (Order i) = i
where_of (FreeChain k) = k
where_of (List k) = k
where_of (Place p) = p

-- the first of two findings, where a test goes on only if the one before it found nothing
abbrev pub or_else : Option Fault → Option Fault → Option Fault
or_else none g = g
or_else (some f) g = some f

-- a fault of a kind, where a scan found one
abbrev pub fault_by : (ℕ → Fault) → Option ℕ → Option Fault
fault_by kind none = none
fault_by kind (some k) = some (kind k)

-- what a test of the code says
abbrev pub said_verdict : Result ⊤ Fault → Option Fault
said_verdict (Ok u) = none
said_verdict (Err f) = some f

-- `kind` of a fault is n, and `at` of it
abbrev pub Kinds : Fault → ℕ → Type 0
Kinds f n = n ≡ kind_of f

abbrev pub Stands : Fault → ℕ → Type 0
Stands f n = n ≡ where_of f
