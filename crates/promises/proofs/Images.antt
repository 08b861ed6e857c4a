-- Demand 3 of one image: what is read of it, what a status tells, the words of report bytes, each call on it, and that the engine of a
-- C host runs beside the project's own.
pub mod Reading
pub mod Statuses
pub mod ReportBytes
pub mod Calls
pub mod Tied
pub mod Meeting
