pub mod Tags
pub mod Lengths
pub mod Tables
pub mod Again
pub mod Standing
mod Rows
pub mod Found
pub mod NoSecond
