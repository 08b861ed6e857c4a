pub mod Image
pub mod Ranges
pub mod Calls
pub mod Promises
pub mod Accepted
