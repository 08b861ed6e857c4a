pub mod Numbers
pub mod Calls
pub mod Seen
pub mod Promises
