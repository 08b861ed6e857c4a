-- The table of refusals, row by row: each test that a call makes is a row.
pub mod Leads
pub mod Rows
pub mod RowsLeft
pub mod RowsHeap
pub mod RowsClock
pub mod RowsRecord
pub mod RowsTold
