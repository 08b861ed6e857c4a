pub mod NoSecond
pub mod Passing
