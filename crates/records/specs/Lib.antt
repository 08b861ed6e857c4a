pub mod Records
pub mod Answers
pub mod Lines
pub mod Runs
pub mod Puts
pub mod Promises
