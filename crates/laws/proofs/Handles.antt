-- What a handle names, before a call and after it; and what is so for ever of a handle that was given out.
pub mod Naming
pub mod Still
pub mod ByHandle
pub mod Past
pub mod PastLaws
pub mod ByHandleCalls
pub mod ByHandleSteps
pub mod Ever
pub mod Pending
