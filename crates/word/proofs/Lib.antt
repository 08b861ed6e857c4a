pub mod Bits
pub mod NoSecond
