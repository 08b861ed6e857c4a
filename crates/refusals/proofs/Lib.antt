pub mod Apart
pub mod Faults
pub mod Refusing
pub mod Differences
mod Sizes
pub mod Times
pub mod Rows
