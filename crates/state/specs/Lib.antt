pub mod Handles
pub mod State
pub mod Faults
pub mod Sound
pub mod Promises
pub mod InUse
pub mod Named
pub mod Widths
