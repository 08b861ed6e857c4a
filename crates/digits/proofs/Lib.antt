pub mod Passing
pub mod Digits
pub mod Stores
pub mod Rows
pub mod Loops
pub mod NoSecond
