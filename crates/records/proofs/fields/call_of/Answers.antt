-- Each operation has its row of the table; past the table a record is refused.
-- Assumes nothing.
use mathlib.Core.Path.{refl, sym}
use Prim.Native.Nat.{◌≤◌}
use native.Mathlib.Omega.{arith}
use lib.ListN.{get_or-eq_default}
use Rattle.records.specs.Records.{table, provided, call_of}
use Rattle.records.proofs.fields.call_of.Goals as goal

pub returns-in-0 : goal.returns-in-0
unfolding call_of
returns-in-0 c = rw (c.in-0.is, sym c.no_handle.ensures) c.provided.ensures

pub returns-in-1 : goal.returns-in-1
unfolding call_of provided
returns-in-1 c = rw c.in-1.is refl

pub returns-in-2 : goal.returns-in-2
unfolding call_of
returns-in-2 c = rw (c.in-2.is, sym c.no_value.ensures) c.provided-in-2.ensures

pub returns-in-3 : goal.returns-in-3
unfolding call_of
returns-in-3 c = rw (c.in-3.is, sym c.bare.ensures) c.provided-in-3.ensures

pub returns-in-4 : goal.returns-in-4
unfolding call_of
returns-in-4 c = rw (c.in-4.is, sym c.no_handle-in-4.ensures) c.provided-in-4.ensures

pub returns-in-5 : goal.returns-in-5
unfolding call_of
returns-in-5 c = rw (c.in-5.is, sym c.no_handle-in-5.ensures) c.provided-in-5.ensures

pub returns-in-6 : goal.returns-in-6
unfolding call_of
returns-in-6 c = rw (c.in-6.is, sym c.bare-in-6.ensures) c.provided-in-6.ensures

pub returns-in-7 : goal.returns-in-7
unfolding call_of
returns-in-7 c = rw (c.in-7.is, sym c.no_value-in-7.ensures) c.provided-in-7.ensures

pub returns-in-8 : goal.returns-in-8
unfolding call_of
returns-in-8 c = rw (c.in-8.is, sym c.bare-in-8.ensures) c.provided-in-8.ensures

pub returns-in_default : goal.returns-in_default
unfolding call_of
returns-in_default c =
    let h : 9 ≤ c.args.f.operation = omega arith in
    sym (get_or-eq_default (table c.args.f) _ h)
