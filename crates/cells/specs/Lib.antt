pub mod Parts
pub mod Cells
pub mod Fine
pub mod Ranges
pub mod Promises
