pub mod Rows
pub mod Digits
pub mod Promises
