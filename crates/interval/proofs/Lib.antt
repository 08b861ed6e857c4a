pub mod Late
pub mod NoSecond
pub mod Timely
