pub mod Heaps
pub mod Promises
