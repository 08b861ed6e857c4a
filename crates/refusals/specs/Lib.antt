pub mod Faults
pub mod Numbers
pub mod Answer
pub mod Outcomes
pub mod Times
pub mod Rows
