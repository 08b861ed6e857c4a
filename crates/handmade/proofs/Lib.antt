mod Walks
pub mod NoSecond
