pub mod Values
pub mod Calls
pub mod Left
pub mod Promises
