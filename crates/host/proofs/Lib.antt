pub mod Calling
pub mod Settled
pub mod Turning
pub mod Lent
pub mod NoSecond
pub mod Refused
